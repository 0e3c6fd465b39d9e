-- A recovery by its parts: the numbers under which it is refused, its stores, and the state that follows.
use Prim.Native.Nat.{ℕ, ◌+◌, ◌-◌, ◌%◌, ◌≤◌, ◌<◌}
use mathlib.Core.Path.{◌≡◌, refl, sym, ◌∙◌, ap}
use mathlib.Core.Bool.{Bool, true, false, cond, ◌&&◌, ◌||◌, not}
use mathlib.Core.List.{List, ◌++◌, map}
use native.Mathlib.Omega.{arith}
use borrow.Author.Tests.{leb-true, eqb-true, eqb-false, not-false}
use lib.Dec.{eqb, leb}
use lib.ListN.{length, take, length-append, length-map}
use lib.Seq.{take_all}
use Rattle.log_region.specs.Stores.{Store, stored, stored_under}
use Rattle.log_region.specs.Region.{slots_of, tail_of, records_of, head_stores}
use Rattle.log_region.proofs.Sizes.{sized}
use Rattle.log_region.proofs.Holding.{size-of-head}
use Rattle.model.specs.Lists.{any}
use Rattle.model.specs.Consistent.{is_width}
use Rattle.model.specs.Machine.{Machine as Model, Memory, lost_machine, fresh_machine}
use Rattle.model.specs.Plan.{in_home, in_log, puts_of, written, carried_out}
use Rattle.model.specs.Readings.{is_bad, records}
use Rattle.model.specs.Refusals.{number_of, wrong_lengths}
use Rattle.model.specs.Recovery.{recover_rows, recovery_writes, home_writes, recover_ops, recover_working}
use Rattle.model.specs.Step.{recover, work_of, plan_of, stepped}
use Rattle.model.proofs.Lists.{both_left, both_right}
use Rattle.model.proofs.Records.{both-fail}
use Rattle.model.proofs.Rows.{None, none-apply, number-first, refused_as, allowed, guard, own-refusals}
use Rattle.model.proofs.Performing.{puts_then, puts-home, puts-head, written_both, cleared}
use Rattle.model.proofs.Outcomes.{refused-own, way-done, way-cut}
use Rattle.state.specs.declared.Machine.{Machine}
use Rattle.state.specs.declared.refusals.Refusal.{Refusal}
use Rattle.state.specs.declared.refusals.Refusal.TheVariants.{Damaged}
use Rattle.state.specs.declared.refusals.Stop.{Stop}
use Rattle.state.specs.declared.refusals.Stop.TheVariants.{Refused, Cut}
use Rattle.std.specs.Prelude.{Result, Ok, Err}
use Rattle.state.specs.Answers.{number_of_refusal}
use Rattle.state.specs.Ended.{ended, Ends}
use Rattle.state.proofs.Answers.{number-not-0}
use Rattle.state.specs.View.{view}
use Rattle.state.specs.HandedBack.{lost_fields, fresh_fields}
use Rattle.state.proofs.HandedBack.{lost-view, fresh-view}
use Rattle.recovery.specs.declared.reading.Records.{Records}
use Rattle.recovery.specs.Recovering.{unreadable_rows, Scanned}

-- the buffers are of lengths that a recovery takes
pub record Readable (mem : Memory) : Type 0 where
  pub width : length mem.home ≤ 512
  pub working : length mem.working ≡ length mem.home
  pub some : 0 < slots_of mem.log
  pub most : slots_of mem.log ≤ 1024

readable : (mem : Memory) → wrong_lengths mem ≡ false → Readable mem
unfolding wrong_lengths
readable mem e =
    let w = length mem.home in
    let same = eqb (length mem.working) w in
    let both = both-fail (not (is_width w)) (not same || eqb (slots_of mem.log) 0) e in
    let rest = both-fail (not same) (eqb (slots_of mem.log) 0) both.1 in
    let wide = both_right (leb 8 w) (leb w 512 && eqb (w % 8) 0) (not-false (is_width w) both.0) in
    let ne = eqb-false (slots_of mem.log) 0 rest.1 in
    let some : 0 < slots_of mem.log = omega arith in
    record {
      width = leb-true w 512 (both_left (leb w 512) (eqb (w % 8) 0) wide);
      working = eqb-true (length mem.working) w (not-false same rest.0);
      some = some;
      most = (sized (length mem.log) (slots_of mem.log) refl some).most;
    }

-- A recovery of these buffers.
module _ (mem : Memory) where
  -- the last store, to the head
  abbrev last_store : List Store
  last_store = head_stores (slots_of mem.log) (tail_of mem.log)

  -- its stores, the next record having any number
  made : (n : ℕ) → puts_of (slots_of mem.log) n (recover_ops mem) ≡ map in_home (home_writes mem) ++ map in_log last_store
  made n = rw (puts_then, puts-home, puts-head)

  made-size : (n : ℕ)
      → length (puts_of (slots_of mem.log) n (recover_ops mem)) ≡ length (home_writes mem) + length last_store
  made-size n = rw (made n, length-append, length-map (home_writes mem) in_home, length-map last_store in_log)

  -- what the first c of them leave
  first-stores : (n c : ℕ) (working : List ℕ)
      → written mem (take c (puts_of (slots_of mem.log) n (recover_ops mem))) working
      ≡ record {
        home = stored_under c mem.home (home_writes mem);
        working = working;
        log = stored_under (c - length (home_writes mem)) mem.log last_store;
      }
  first-stores n c working =
      rw (made n, written_both mem c (home_writes mem) last_store working, length-map (home_writes mem) in_home)

  -- Where it is read.
  module _ (zero : 0 ≡ number_of (unreadable_rows mem)) where
    unread-none : None (unreadable_rows mem)
    unread-none = none-apply (unreadable_rows mem) (refl, (refl, tt)) (sym zero)

    pub fits-unread : Readable mem
    fits-unread = readable mem unread-none.0

    one : length last_store ≡ 1
    one = size-of-head (slots_of mem.log) (tail_of mem.log) fits-unread.some

    -- a record read is bad, or none is
    damage : (b : Bool) → any is_bad (records_of (length mem.home) mem.log) ≡ b → cond b 14 0 ≡ number_of (recover_rows mem)
    unfolding number_of
    damage b e = rw (unread-none.0, unread-none.1.0, e)

-- "takes no state": a recovery is the same from any
pub recover-any : (c : ℕ) (m : Model) (mem : Memory) → stepped recover c m mem ≡ stepped recover c lost_machine mem
unfolding stepped carried_out plan_of
recover-any c m mem =
    elim (guard (recover_rows mem) (work_of recover m mem) (own-refusals recover m mem)) [
      | refused_as n h e ↦ rw e
      | allowed e none ↦ rw (e, made mem m.span.tail, made mem 0)
    ]

-- A recovery under a supply of c, in the place of a state.
module _ (c : ℕ) (before : Machine) (mem : Memory) where
  -- what it comes to is said of the lost state
  comes : (r : Result ℕ Stop) (after : Machine) (home working log : List ℕ)
      → ended c r after home working log ≡ stepped recover c lost_machine mem → ((n : Refusal) → r ≡ Err (Refused n) → after ≡ lost_fields)
      → Ends recover c before mem r after home working log
  comes r after home working log e kept = record { comes = e ∙ sym (recover-any c (view before) mem); kept = kept }

  -- refused: all is as it was
  refused-with : (n : Refusal) → number_of_refusal n ≡ number_of (recover_rows mem)
      → Ends recover c before mem (Err (Refused n)) lost_fields mem.home mem.working mem.log
  unfolding number_of ended
  refused-with n e =
      comes (Err (Refused n)) lost_fields mem.home mem.working mem.log
      (ap (λ (m : Model). record { answer = number_of_refusal n; left = c; machine = m; memory = mem }) lost-view
      ∙ refused-own recover c lost_machine mem refl (number_of_refusal n) e (number-not-0 n) refl)
      (λ k f. refl)

  pub recover-unread : (n : Refusal) → number_of_refusal n ≡ number_of (unreadable_rows mem)
      → Ends recover c before mem (Err (Refused n)) lost_fields mem.home mem.working mem.log
  recover-unread n e = refused-with n (number-first (unreadable_rows mem) _ (number_of_refusal n) e (number-not-0 n))

  -- The log is read.
  module _ (zero : 0 ≡ number_of (unreadable_rows mem)) where
    -- damaged: nothing is stored
    pub recover-damaged : any is_bad (records_of (length mem.home) mem.log) ≡ true
        → Ends recover c before mem (Err (Refused Damaged)) lost_fields mem.home mem.working mem.log
    recover-damaged bad = refused-with Damaged (damage mem zero true bad)

    -- all records are good, and home and the head are stored
    module _ (found : Records) (s : Scanned (length mem.home) mem.log found) (left : ℕ) (home log : List ℕ)
        (counted : left ≡ c - length (recovery_writes (records (records_of found.words found.log.now))))
        (made : home ≡ stored_under c mem.home (recovery_writes (records (records_of found.words found.log.now))))
        (head : log ≡ stored_under left mem.log (head_stores (slots_of mem.log) found.tail)) where
      none-bad : 0 ≡ number_of (recover_rows mem)
      none-bad = damage mem zero false s.good

      less : left ≡ c - length (home_writes mem)
      less = rw (s.width, s.region) at counted

      stores : home ≡ stored_under c mem.home (home_writes mem)
      stores = rw (s.width, s.region) at made

      -- the buffers after as many stores as the supply allows
      buffers : (working : List ℕ) → record { home = home; working = working; log = log }
          ≡ written mem (take c (puts_of (slots_of mem.log) 0 (recover_ops mem))) working
      buffers working = rw (first-stores mem 0 c working, stores, head, less, s.tail)

      -- cut: not all stores are made
      pub recover-cut : left ≡ 0 → Ends recover c before mem (Err Cut) lost_fields home mem.working log
      unfolding number_of ended
      recover-cut none =
          let e = one mem zero in
          let k = less in
          let size = made-size mem 0 in
          comes (Err Cut) lost_fields home mem.working log
          (rw (buffers (cleared mem))
          (sym (way-cut recover c lost_machine mem refl 0 none-bad refl _ _ _ refl (omega arith))))
          (λ n f. refl)

      -- done: working becomes home, and the state is fresh
      pub recover-done : (left ≡ 0 → ⊥) → (slots : ℕ) → slots ≡ slots_of mem.log → (rest : ℕ)
          → rest ≡ left - length (head_stores (slots_of mem.log) found.tail) → (after : Machine)
          → after ≡ fresh_fields (length mem.home) slots found.tail → Ends recover c before mem (Ok rest) after home home log
      unfolding number_of ended
      recover-done some slots size rest g after h =
          let k = less in
          let puts = puts_of (slots_of mem.log) 0 (recover_ops mem) in
          let last : length (head_stores (slots_of mem.log) found.tail) ≡ 1 = rw s.tail (one mem zero) in
          let n : length puts ≡ length (home_writes mem) + 1 = rw (made-size mem 0, one mem zero) in
          let fits : length puts ≤ c = omega arith in
          let count : rest ≡ c - length puts = omega arith in
          let all : stored_under c mem.home (home_writes mem) ≡ recover_working mem =
          ap (stored mem.home) (take_all c (home_writes mem) (omega arith)) in
          let same : home ≡ recover_working mem = stores ∙ all in
          let fresh : view after ≡ fresh_machine (length mem.home) slots found.tail =
          ap view h ∙ fresh-view (length mem.home) slots found.tail (fits-unread mem zero).width in
          comes (Ok rest) after home home log
          (rw (count, fresh, size, s.tail, buffers home, same, take_all c puts fits)
          (sym (way-done recover c lost_machine mem refl 0 none-bad refl _ _ _ refl fits)))
          (λ n f. cc)
