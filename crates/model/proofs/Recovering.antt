-- Recovery: on buffers that are kept it is never refused; done, it brings the committed values home.
use Prim.Native.Nat.{ℕ, ◌+◌, ◌-◌, ◌≤◌, ◌<◌, zero, suc, ◌*◌, ◌/◌, ◌%◌}
use mathlib.Core.Path.{◌≡◌, refl, sym, ◌∙◌, ap, subst}
use mathlib.Core.Bool.{false, false≢true}
use mathlib.Core.List.{List, [], ◌∷◌, ◌++◌, map}
use mathlib.Core.Logic.{◌⊎◌, inl, inr}
use mathlib.Core.Option.{Option, none, some}
use native.Mathlib.Decide.{dec_le}
use native.Mathlib.Omega.{arith}
use native.Mathlib.Nat.{add-zero}
use borrow.Author.Tests.{le-ltb, eq-eqb, ne_eqb, eqb-false}
use lib.ListN.{length, get_or, take, length-append, length-map, length-replicate, drop, replicate, take-append-drop, get_or-replicate}
use lib.Seq.{take_all, drop-length}
use Rattle.log_region.specs.declared.Record.{Record}
use Rattle.std.specs.Prelude.{Some}
use Rattle.log_region.specs.Stores.{Store, stored}
use Rattle.log_region.specs.Region.{numbers, head_stores}
use Rattle.log_region.specs.Holding.{Every}
use Rattle.log_region.proofs.Stored.{stored-none, length-stored}
use Rattle.log_region.proofs.Holding.{slots-of, size-of-head, deleted}
use Rattle.log_region.proofs.Readings.{tail-found, read_all}
use Rattle.parts.specs.declared.Line.{Line}
use Rattle.parts.specs.FreeLine.{free_line}
use Rattle.parts.proofs.States.{state-clean}
use Rattle.model.specs.Lists.{any, keep}
use Rattle.model.specs.Machine.{Machine, Memory, fresh_machine, state_in, holder_in, dirty_in}
use Rattle.model.specs.Readings.{is_bad}
use Rattle.model.specs.Plan.{Put, in_home, in_log, write_home, set_head, planned, Outcome, written, performed, carried_out}
use Rattle.model.specs.Refusals.{unless, wrong_lengths}
use Rattle.model.specs.Recovery.{recovery_writes, redo_writes, undo_writes}
use Rattle.model.specs.Step.{recover, plan_of, stepped}
use Rattle.model.specs.Book.{Book}
use Rattle.model.proofs.Records.{all-records, redos}
use Rattle.model.proofs.Core.{Kept, kept, width-limits, clean, free, LineOk, AtLine, CoreOf, Safe}
use Rattle.model.proofs.Performing.{puts_then, puts-home, puts-head, written_both, all-puts, cleared, performed-all, performed-cut}
use Rattle.model.proofs.Plans.{Does, Ends, does-ends}
use Rattle.model.proofs.LastTo.{or, last_to, or-first, last-append, stored-word}

-- a choice made twice
or-again : (o : Option ℕ) (v x : ℕ) → or o v ≡ x → or o x ≡ x
or-again none v x e = refl
or-again (some a) v x e = e

-- what recovery leaves in a word: the oldest undo, else the newest redo, else what is there
last-recovery : (w : ℕ) (rs : List Record) (v : ℕ)
    → or (last_to w (recovery_writes rs)) v ≡ or (last_to w (undo_writes rs)) (or (last_to w (redo_writes rs)) v)
last-recovery w rs v =
    ap (λ (o : Option ℕ). or o v) (last-append w (redo_writes rs) (undo_writes rs))
    ∙ or-first (last_to w (undo_writes rs)) (last_to w (redo_writes rs)) v

-- recovery: a power cut after any of its stores is safe
pub recover-safe : (words : ℕ) (rs : List Record) (home : List ℕ) (s : ℕ → ℕ) → length home ≡ words → Safe words rs home s → (c : ℕ)
    → Safe words rs (stored home (take c (recovery_writes rs))) s
unfolding Safe
recover-safe words rs home s size safe c w h =
    let now : Option ℕ = last_to w (take c (recovery_writes rs)) in
    let later : Option ℕ = last_to w (drop c (recovery_writes rs)) in
    let split : (v : ℕ) → or (last_to w (undo_writes rs)) (or (last_to w (redo_writes rs)) v) ≡ or later (or now v) =
    λ v.
    sym (last-recovery w rs v)
    ∙ ap (λ (ss : List Store). or (last_to w ss) v) (sym (take-append-drop c (recovery_writes rs)))
    ∙ ap (λ (o : Option ℕ). or o v) (last-append w (take c (recovery_writes rs)) (drop c (recovery_writes rs)))
    ∙ or-first later now v in
    ap (λ (v : ℕ). or (last_to w (undo_writes rs)) (or (last_to w (redo_writes rs)) v)) (stored-word w home (take c (recovery_writes rs)) (omega arith))
    ∙ split (or now (get_or home w 0))
    ∙ ap (or later) (or-again now (get_or home w 0) (or now (get_or home w 0)) refl)
    ∙ sym (split (get_or home w 0))
    ∙ safe w h

-- and after all of them home is the committed words
pub recover-home : (words : ℕ) (rs : List Record) (home : List ℕ) (s : ℕ → ℕ) → length home ≡ words → Safe words rs home s
    → (w : ℕ) → w < words → get_or (stored home (recovery_writes rs)) w 0 ≡ s w
unfolding Safe
recover-home words rs home s size safe w h =
    stored-word w home (recovery_writes rs) (omega arith)
    ∙ last-recovery w rs (get_or home w 0)
    ∙ safe w h

-- every line of a new state is free: it has a property that a free line has
every-fresh : (P : Line → Type 0) (n : ℕ) → P free_line → Every P (replicate n free_line)
every-fresh P zero p = tt
every-fresh P (suc n) p = (p, every-fresh P n p)

-- the new state keeps the invariant, with no records in the log
pub recover-step : (words l n : ℕ) (home : List ℕ) (b : Book) → length home ≡ words → words ≡ 8 * (words / 8)
    → ((w : ℕ) → w < words → get_or home w 0 ≡ b.committed w) → CoreOf (fresh_machine words l n) home home b []
unfolding state_in holder_in dirty_in last_to undo_writes redo_writes redos keep
recover-step words l n home b size whole same =
    record {
      shape =
          record {
            line_count = whole ∙ ap (λ (k : ℕ). 8 * k) (sym (length-replicate (words / 8) free_line));
            home_size = size;
            working_size = size;
            threads = refl;
            lines_ok = every-fresh (LineOk (replicate 8 false)) (words / 8) (record { states = omega arith; holder = inl (refl, refl) });
            undos = record { size = omega arith; ok = tt };
            redos = record { size = omega arith; ok = tt };
          };
      valid = tt;
      at = λ w h.
          subst (AtLine (replicate 8 false) [] b.pending w (b.committed w) (get_or home w 0) (get_or home w 0) [] [])
          (sym (get_or-replicate (words / 8) (w / 8) free_line free_line (omega arith)))
          (record {
            own = tt;
            others = λ t thread began apart. absurd (false≢true (sym (get_or-replicate 8 t false false thread) ∙ began));
            word =
                record {
                  crash = same w h;
                  closed = refl;
                  calm = λ e. refl;
                  state = clean (state-clean (w % 8)) refl refl (same w h) (record { any = refl; home = refl });
                  holder = free refl (same w h) (state-clean (w % 8)) refl refl;
                };
          });
    }

-- good readings
none-bad : (rs : List Record) → any is_bad (map Some rs) ≡ false
unfolding any
none-bad [] = refl
none-bad (r ∷ rs) = none-bad rs

module _ {l : ℕ} (c : ℕ) (m : Machine) (mem : Memory) (b : Book) (world : Kept l mem b.committed) where
  -- the number of words, the tail, and what recovery writes home
  abbrev pub width : ℕ
  width = length mem.home

  abbrev pub end : ℕ
  end = world.head + length world.rs

  abbrev pub writes : List Store
  writes = recovery_writes world.rs

  -- its stores
  abbrev pub puts : List Put
  puts = map in_home writes ++ map in_log (head_stores l end)

  -- the new machine, and home and working words after it
  abbrev pub fresh : Machine
  fresh = fresh_machine width l end

  abbrev pub final : List ℕ
  final = stored mem.home writes

  -- its stores are those into home, and the head's
  size : length puts ≡ length writes + 1
  size =
      let one = size-of-head l end (omega (arith, world.holds.least)) in
      rw (length-append, length-map, length-map) (omega arith)

  plan : plan_of recover m mem ≡ planned 0 (map write_home writes ++ (set_head end ∷ [])) fresh final
  unfolding plan_of unless wrong_lengths
  plan =
      let holds = world.holds in
      let alike = eq-eqb (length mem.working) (length mem.home) world.working in
      let some = ne_eqb l 0 (omega (arith, holds.least)) in
      let low = le-ltb numbers world.head (omega (arith, holds.numbered)) in
      rw (read_all holds, none-bad world.rs, all-records world.rs, tail-found holds, world.width, alike, slots-of holds, some, holds.first, low)

  pub recovered : stepped recover c m mem ≡ performed c 0 mem puts fresh final
  unfolding stepped carried_out
  recovered =
      rw (plan, slots-of world.holds, puts_then l m.span.tail (map write_home writes) (set_head end ∷ []), puts-home, puts-head)

  -- all is home
  same : (w : ℕ) → w < width → get_or final w 0 ≡ b.committed w
  same = recover-home width world.rs mem.home b.committed refl world.safe

  -- what all its stores leave
  whole : written mem puts final
      ≡ record { home = stored mem.home writes; working = stored mem.home writes; log = stored mem.log (head_stores l end) }
  whole =
      let sum = size in
      let one = size-of-head l end (omega (arith, world.holds.least)) in
      all-puts mem puts final
      ∙ written_both mem (length puts) writes (head_stores l end) final
      ∙ (rw (
        take_all (length puts) writes (omega arith),
        take_all (length puts - length (map in_home writes)) (head_stores l end) (rw length-map (omega arith)),
      ))

  does : Does l mem puts fresh final b b
  does =
      record {
        size = length-stored mem.home writes ∙ sym world.working;
        safe = λ k h.
            let sum = size in
            let none : k - length (map in_home writes) ≡ 0 = rw length-map (omega arith) in
            rw (written_both mem k writes (head_stores l end) (cleared mem), none, stored-none mem.log)
            (kept width (record { home = stored mem.home (take k writes); working = cleared mem; log = mem.log }) b.committed world.rs
            world.head world.width (length-stored mem.home (take k writes)) (length-replicate (length mem.working) 0 ∙ world.working)
            world.holds (recover-safe width world.rs mem.home b.committed refl world.safe k));
        live = rw whole
            (record {
              rs = [];
              alive = refl;
              width = world.width;
              slots = refl;
              holds = rw drop-length at (deleted world.holds (length world.rs) (omega arith));
              tail = sym (add-zero end);
              core =
                  recover-step width l end final b (length-stored mem.home writes)
                  (omega (arith, (width-limits width world.width).2)) same;
            });
      }

  -- a recovery is done or cut; it notes nothing in the book
  pub recover-ends : Ends l (stepped recover c m mem) b (λ a. b)
  recover-ends = rw recovered (does-ends c 0 mem puts fresh final b (λ a. b) does)

  -- after a recovery answered done every home word is the committed one
  pub recover-faithful : (stepped recover c m mem).answer ≡ 0 → (i : ℕ) → i < length (stepped recover c m mem).memory.home
      → get_or (stepped recover c m mem).memory.home i 0 ≡ b.committed i
  recover-faithful e = rw recovered (go (dec_le (length puts) c))
    where
      o : Outcome
      o = performed c 0 mem puts fresh final

      go : Dec (length puts ≤ c) → (i : ℕ) → i < length o.memory.home → get_or o.memory.home i 0 ≡ b.committed i
      go (yes h) =
          rw (performed-all c 0 mem puts fresh final h, whole)
          (λ i k. same i (rw length-stored at k))
      go (no h) =
          let cut : o.answer ≡ 255 = rw (performed-cut c 0 mem puts fresh final (omega arith)) in
          absurd (eqb-false 255 0 refl (sym cut ∙ ap (λ (x : Outcome). x.answer) (sym recovered) ∙ e))

  -- with a supply of L + 1 it is done
  pub recover-enough : length writes + 1 ≤ c → (stepped recover c m mem).answer ≡ 0
  recover-enough h =
      rw (recovered, performed-all c 0 mem puts fresh final (omega (arith, size)))

  -- it is done or cut
  pub recover-answer : ((stepped recover c m mem).answer ≡ 0) ⊎ ((stepped recover c m mem).answer ≡ 255)
  recover-answer =
      rw recovered
      (elim (dec_le (length puts) c) [
        | yes h ↦ inl (rw (performed-all c 0 mem puts fresh final h))
        | no h ↦ inr (rw (performed-cut c 0 mem puts fresh final (omega arith)))
      ])
