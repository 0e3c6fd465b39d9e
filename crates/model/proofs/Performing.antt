-- The stores of a plan, made under a supply: all of them, or the first few and a lost machine. Stores to home, log and head may stand in any order.
use Prim.Native.Nat.{ℕ, suc, ◌+◌, ◌-◌, ◌≤◌, ◌<◌}
use mathlib.Core.Path.{◌≡◌, refl, sym, ◌∙◌, ap}
use mathlib.Core.List.{List, [], ◌∷◌, ◌++◌, map, append-nil, append_assoc, map-append}
use native.Mathlib.Nat.{add-zero}
use native.Mathlib.Omega.{arith}
use native.Mathlib.Decide.{dec_le}
use borrow.Author.Tests.{le-leb, lt-leb}
use lib.ListN.{length, take, replicate, length-append}
use lib.Seq.{take_all}
use Rattle.log_region.specs.declared.Record.{Record}
use Rattle.log_region.specs.Stores.{Store, stored}
use Rattle.log_region.specs.Region.{record_stores, records_stores, head_stores}
use Rattle.log_region.proofs.Stored.{stored-none, stored-append, take-append}
use Rattle.log_region.proofs.Appending.{records-none, records-one, records-append}
use Rattle.model.specs.Machine.{Machine, Memory, lost_machine}
use Rattle.model.specs.Plan.{Op, append, write_home, set_head, Put, in_home, in_log, puts_of, home_part, log_part, appends_in, written, performed}
use Rattle.model.proofs.Lists.{take-map}

-- the stores of operations, then others
pub puts_then : (l n : ℕ) (ops more : List Op) → puts_of l n (ops ++ more) ≡ puts_of l n ops ++ puts_of l (n + appends_in ops) more
unfolding puts_of appends_in
puts_then l n [] more = rw add-zero
puts_then l n (append r ∷ ops) more =
    let next : n + 1 + appends_in ops ≡ n + suc (appends_in ops) = omega arith in
    rw (puts_then l (n + 1) ops more, next, append_assoc)
puts_then l n (write_home s ∷ ops) more = ap (λ (ps : List Put). in_home s ∷ ps) (puts_then l n ops more)
puts_then l n (set_head k ∷ ops) more = rw (puts_then l n ops more, append_assoc)

pub appends_in-then : (ops more : List Op) → appends_in (ops ++ more) ≡ appends_in ops + appends_in more
unfolding appends_in
appends_in-then [] more = omega arith
appends_in-then (append r ∷ ops) more = let rest = appends_in-then ops more in omega arith
appends_in-then (write_home s ∷ ops) more = appends_in-then ops more
appends_in-then (set_head k ∷ ops) more = appends_in-then ops more

-- records appended, words written home, and the head set
pub puts-append : (l n : ℕ) (rs : List Record) → puts_of l n (map append rs) ≡ map in_log (records_stores l n rs)
unfolding puts_of
puts-append l n [] = rw records-none
puts-append l n (r ∷ rs) =
    rw (records-append l n (r ∷ []) rs, records-one, map-append)
    (ap (λ (ps : List Put). map in_log (record_stores l n r) ++ ps) (puts-append l (n + 1) rs))

pub puts-home : (l n : ℕ) (hs : List Store) → puts_of l n (map write_home hs) ≡ map in_home hs
unfolding puts_of
puts-home l n [] = refl
puts-home l n (h ∷ hs) = ap (λ (ps : List Put). in_home h ∷ ps) (puts-home l n hs)

pub puts-head : (l n k : ℕ) → puts_of l n (set_head k ∷ []) ≡ map in_log (head_stores l k)
unfolding puts_of
puts-head l n k = append-nil (map in_log (head_stores l k))

pub appends_in-records : (rs : List Record) → appends_in (map append rs) ≡ length rs
unfolding appends_in
appends_in-records [] = refl
appends_in-records (r ∷ rs) = ap suc (appends_in-records rs)

pub appends_in-home : (hs : List Store) → appends_in (map write_home hs) ≡ 0
unfolding appends_in
appends_in-home [] = refl
appends_in-home (h ∷ hs) = appends_in-home hs

-- the memory after stores, then others
parts_then : (ps qs : List Put)
    → (home_part (ps ++ qs) ≡ home_part ps ++ home_part qs) × (log_part (ps ++ qs) ≡ log_part ps ++ log_part qs)
unfolding home_part log_part
parts_then [] qs = (refl, refl)
parts_then (in_home s ∷ ps) qs = (ap (λ (ss : List Store). s ∷ ss) (parts_then ps qs).0, (parts_then ps qs).1)
parts_then (in_log s ∷ ps) qs = ((parts_then ps qs).0, ap (λ (ss : List Store). s ∷ ss) (parts_then ps qs).1)

pub written_then : (mem : Memory) (ps qs : List Put) (mid working : List ℕ) → written mem (ps ++ qs) working ≡ written (written mem ps mid) qs working
unfolding written
written_then mem ps qs mid working = rw ((parts_then ps qs).0, (parts_then ps qs).1) (simp stored-append)

-- stores to home alone, and stores to the log alone
home_of : (hs : List Store) → (home_part (map in_home hs) ≡ hs) × (log_part (map in_home hs) ≡ [])
unfolding home_part log_part
home_of [] = (refl, refl)
home_of (h ∷ hs) = (ap (λ (ss : List Store). h ∷ ss) (home_of hs).0, (home_of hs).1)

log-of : (gs : List Store) → (home_part (map in_log gs) ≡ []) × (log_part (map in_log gs) ≡ gs)
unfolding home_part log_part
log-of [] = (refl, refl)
log-of (g ∷ gs) = ((log-of gs).0, ap (λ (ss : List Store). g ∷ ss) (log-of gs).1)

pub written-home : (mem : Memory) (c : ℕ) (hs : List Store) (working : List ℕ)
    → written mem (take c (map in_home hs)) working ≡ record { home = stored mem.home (take c hs); working = working; log = mem.log }
unfolding written
written-home mem c hs working = rw (take-map in_home c hs, (home_of (take c hs)).0, (home_of (take c hs)).1, stored-none mem.log)

pub written-log : (mem : Memory) (c : ℕ) (gs : List Store) (working : List ℕ)
    → written mem (take c (map in_log gs)) working ≡ record { home = mem.home; working = working; log = stored mem.log (take c gs) }
unfolding written
written-log mem c gs working = rw (take-map in_log c gs, (log-of (take c gs)).0, (log-of (take c gs)).1, stored-none mem.home)

-- all of them
pub all-puts : (mem : Memory) (ps : List Put) (working : List ℕ) → written mem ps working ≡ written mem (take (length ps) ps) working
all-puts mem ps working = rw (take_all (length ps) ps (omega arith))

-- the first c of a plan that goes home and then to the log
pub written_both : (mem : Memory) (c : ℕ) (hs gs : List Store) (working : List ℕ)
    → written mem (take c (map in_home hs ++ map in_log gs)) working
    ≡ record { home = stored mem.home (take c hs); working = working; log = stored mem.log (take (c - length (map in_home hs)) gs) }
written_both mem c hs gs working =
    rw (
      take-append c (map in_home hs) (map in_log gs),
      written_then mem (take c (map in_home hs)) (take (c - length (map in_home hs)) (map in_log gs)) working working,
      written-home mem c hs working,
      written-log _ (c - length (map in_home hs)) gs working,
    )

-- the words of a cut
abbrev pub cleared : Memory → List ℕ
cleared mem = replicate (length mem.working) 0

-- the two ways out
pub performed-all : (c a : ℕ) (mem : Memory) (ps : List Put) (next : Machine) (working : List ℕ) → length ps ≤ c
    → performed c a mem ps next working ≡ record { answer = a; left = c - length ps; machine = next; memory = written mem ps working }
unfolding performed
performed-all c a mem ps next working h = rw (le-leb (length ps) c h)

pub performed-cut : (c a : ℕ) (mem : Memory) (ps : List Put) (next : Machine) (working : List ℕ) → c < length ps
    → performed c a mem ps next working ≡ record { answer = 255; left = 0; machine = lost_machine; memory = written mem (take c ps) (cleared mem) }
unfolding performed
performed-cut c a mem ps next working h = rw (lt-leb (length ps) c h)

-- Stores, then others: under a supply that is enough for the first, the others under what is left; else the cut of the first.
module _ (c a : ℕ) (mem : Memory) (ps qs : List Put) (mid : List ℕ) (next : Machine) (working : List ℕ) where
  pub performed-then : length mid ≡ length mem.working → length ps ≤ c
      → performed c a mem (ps ++ qs) next working ≡ performed (c - length ps) a (written mem ps mid) qs next working
  unfolding written
  performed-then same h =
      let size : length (ps ++ qs) ≡ length ps + length qs = length-append ps qs in
      elim (dec_le (length qs) (c - length ps)) [
        | yes p ↦
            let rest : c - length (ps ++ qs) ≡ c - length ps - length qs = omega arith in
            performed-all c a mem (ps ++ qs) next working (omega arith)
            ∙ (rw (rest, written_then mem ps qs mid working))
            ∙ sym (performed-all (c - length ps) a (written mem ps mid) qs next working p)
        | no q ↦
            performed-cut c a mem (ps ++ qs) next working (omega arith)
            ∙ (rw (take-append c ps qs, take_all c ps h, written_then mem ps (take (c - length ps) qs) mid (cleared mem), same))
            ∙ sym (performed-cut (c - length ps) a (written mem ps mid) qs next working (omega arith))
      ]

  pub performed-first : (b : ℕ) (other : Machine) → c < length ps
      → performed c a mem (ps ++ qs) next working ≡ performed c b mem ps other mid
  performed-first b other h =
      let size : length (ps ++ qs) ≡ length ps + length qs = length-append ps qs in
      let none : c - length ps ≡ 0 = omega arith in
      performed-cut c a mem (ps ++ qs) next working (omega arith)
      ∙ (rw (take-append c ps qs, none, append-nil))
      ∙ sym (performed-cut c b mem ps other mid h)
