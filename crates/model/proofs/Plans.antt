-- What a plan does to a live machine, under any supply; and a plan after a plan.
use Prim.Native.Nat.{ℕ, ◌+◌, ◌-◌, ◌<◌}
use mathlib.Core.Path.{◌≡◌, refl, sym, ◌∙◌, ap, subst}
use mathlib.Core.Bool.{true}
use mathlib.Core.List.{List, ◌++◌, append-nil}
use native.Mathlib.Omega.{arith}
use native.Mathlib.Decide.{dec_le, dec_lt}
use lib.ListN.{length, take, length-append}
use lib.Seq.{take_all}
use Rattle.log_region.specs.Region.{slots_of, slots_for}
use Rattle.log_region.proofs.Stored.{take-append, length-stored}
use Rattle.model.specs.Machine.{Machine, Memory}
use Rattle.model.specs.Plan.{Op, Put, puts_of, log_part, appends_in, Plan, refused, planned, Outcome, written, performed, carried_out, preceded, and_then}
use Rattle.model.specs.Book.{Book}
use Rattle.model.proofs.Core.{Kept, Live, Ready, live, dark}
use Rattle.model.proofs.Performing.{puts_then, appends_in-then, written_then, cleared, performed-all, performed-cut}

-- What the stores ps of a plan do: after fewer than all of them a power cut is safe, and after all the machine is live.
pub record Does (l : ℕ) (mem : Memory) (ps : List Put) (next : Machine) (working : List ℕ) (before book : Book) : Type 0 where
  pub size : length working ≡ length mem.working
  pub safe : (k : ℕ) → k < length ps → Kept l (written mem (take k ps) (cleared mem)) before.committed
  pub live : Live l next (written mem ps working) book

-- How a plan ends that is not refused: with all its stores made and the book by its answer, or cut, with the book before it.
pub data Ends (l : ℕ) (o : Outcome) (before : Book) (book : ℕ → Book) : Type 0 where
  finished : Live l o.machine o.memory (book o.answer) → Ends l o before book
  stopped : o.answer ≡ 255 → o.machine.lost ≡ true → Kept l o.memory before.committed → Ends l o before book

pub does-ends : {l : ℕ} (c a : ℕ) (mem : Memory) (ps : List Put) (next : Machine) (working : List ℕ) (before : Book) (book : ℕ → Book)
    → Does l mem ps next working before (book a) → Ends l (performed c a mem ps next working) before book
does-ends {l} c a mem ps next working before book does =
    elim (dec_le (length ps) c) [
      | yes p ↦
          subst (λ (o : Outcome). Ends l o before book) (sym (performed-all c a mem ps next working p)) (finished does.live)
      | no q ↦
          subst (λ (o : Outcome). Ends l o before book) (sym (performed-cut c a mem ps next working (omega arith)))
          (stopped refl refl (does.safe c (omega arith)))
    ]

-- Stores, then others: what the others do from what the first leave. The book may take note in between, but commits nothing.
pub does-then : {l : ℕ} (mem : Memory) (ps qs : List Put) (next last : Machine) (mid working : List ℕ) (before between book : Book)
    → Does l mem ps next mid before between → between.committed ≡ before.committed
    → Does l (written mem ps mid) qs last working between book → Does l mem (ps ++ qs) last working before book
unfolding written
does-then {l} mem ps qs next last mid working before between book first same second =
    record {
      size = second.size ∙ first.size;
      safe = λ k h.
          let size : length (ps ++ qs) ≡ length ps + length qs = length-append ps qs in
          elim (dec_lt k (length ps)) [
            | yes p ↦
                let none : k - length ps ≡ 0 = omega arith in
                rw (take-append k ps qs, none, append-nil) (first.safe k p)
            | no q ↦
                rw (take-append k ps qs, take_all k ps (omega arith), written_then mem ps (take (k - length ps) qs) mid (cleared mem), ← same, ← first.size)
                (second.safe (k - length ps) (omega arith))
          ];
      live = rw (written_then mem ps qs mid working) second.live;
    }

-- A plan is well made, n being the number of the next record: it is refused under a number, or its stores do what they should and the tail
-- counts its records.
pub data Well (l n : ℕ) (mem : Memory) (before : Book) (book : ℕ → Book) : Plan → Type 0 where
  refuses : (k : ℕ) → 0 < k → Well l n mem before book (refused k)
  performs : (a : ℕ) (ops : List Op) (next : Machine) (working : List ℕ) → next.span.tail ≡ n + appends_in ops
      → Does l mem (puts_of (slots_of mem.log) n ops) next working before (book a) → Well l n mem before book (planned a ops next working)

-- The law of sequence: a plan that is well made, then one that is so from every live machine that the first leaves.
pub well-then : {l n : ℕ} {mem : Memory} {before : Book} (between : Book) (book : ℕ → Book) {p : Plan} (then : Machine → Memory → Plan)
    → Well l n mem before (λ a. between) p → between.committed ≡ before.committed
    → ((next : Machine) (rest : Memory) → Live l next rest between → Well l next.span.tail rest between book (then next rest))
    → Well l n mem before book (and_then mem n p then)
unfolding and_then written
well-then between book then (refuses k h) same second = refuses k h
well-then {l} {n} {mem} {before} between book then (performs a ops next working tail does) same second =
    go (then next rest) (second next rest does.live)
  where
    rest : Memory
    rest = written mem (puts_of (slots_of mem.log) n ops) working

    slots : slots_of rest.log ≡ slots_of mem.log
    slots = ap slots_for (length-stored mem.log (log_part (puts_of (slots_of mem.log) n ops)))

    go : (q : Plan) → Well l next.span.tail rest between book q → Well l n mem before book (preceded ops q)
    go q (refuses k h) = refuses k h
    go q (performs b more last after count does') =
        performs b (ops ++ more) last after (rw appends_in-then (omega arith))
        (rw puts_then
        (does-then mem (puts_of (slots_of mem.log) n ops) _ next last working after before between (book b) does same
        (rw (slots, tail) at does')))

-- A plan that is well made, carried out under a supply, leaves a world ready for recovery, with the book by its answer.
pub well-ready : {l n : ℕ} {mem : Memory} {before : Book} {book : ℕ → Book} {p : Plan} (c : ℕ) (m : Machine) → Well l n mem before book p
    → Ready l m mem before → ((k : ℕ) → 0 < k → book k ≡ before)
    → Ready l (carried_out c m mem n p).machine (carried_out c m mem n p).memory (book (carried_out c m mem n p).answer)
unfolding carried_out
well-ready {l} {mem = mem} {before} {book} c m (refuses k h) ready same = rw (same k h) ready
well-ready {l} {n} {mem} {before} {book} c m (performs a ops next working tail does) ready same =
    ended (performed c a mem (puts_of (slots_of mem.log) n ops) next working)
    (does-ends c a mem (puts_of (slots_of mem.log) n ops) next working before book does)
  where
    ended : (o : Outcome) → Ends l o before book → Ready l o.machine o.memory (book o.answer)
    ended o (finished world) = live world
    ended o (stopped e lost kept) = dark lost (rw (e, same 255 (omega arith)) kept)
