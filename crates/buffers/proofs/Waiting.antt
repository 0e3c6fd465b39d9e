-- The entries that wait in a buffer, by its array.
use Prim.Native.Nat.{ℕ, ◌+◌, ◌-◌, ◌≤◌, ◌<◌, min}
use mathlib.Core.Path.{◌≡◌, sym, ap, ap₂, ◌∙◌}
use mathlib.Core.Bool.{Bool, true, false, cond}
use mathlib.Core.List.{List, [], ◌∷◌, ◌++◌}
use native.Mathlib.Decide.{dec_lt}
use native.Mathlib.Omega.{arith}
use borrow.Author.Tests.{le-leb, lt-leb}
use lib.ListN.{length, get_or, take, drop, set, length-take, length-drop, length-set, length-append}
use lib.Seq.{drop-drop, length-take-le, get_or-take, take_all, take-take, take-add, drop_at, paste, length-paste}
use Rattle.std.specs.List.{copy_within}
use Rattle.std.proofs.lemmas.List.{take_more_set}
use Rattle.std.proofs.lemmas.List.Edits.{take-paste, drop-paste}
use Rattle.parts.specs.declared.Entry.{Entry}
use Rattle.parts.specs.Listed.{listed}
use Rattle.parts.proofs.Listed.{length-listed, listed_of}
use Rattle.parts.proofs.Oldest.{take-least}
use Rattle.buffers.specs.declared.entries.Buffer.{Buffer}
use Rattle.buffers.specs.Waiting.{no_entry, waiting, present, UnusedKept}

-- there are as many as the length says
pub length-waiting : {n : ℕ} (b : Buffer n) → length (waiting b) ≡ b.len
length-waiting b = length-listed b.len (λ i. get_or b.entries i no_entry)

-- in an empty buffer none waits
pub waiting-none : {n : ℕ} (b : Buffer n) → b.len ≡ 0 → waiting b ≡ []
unfolding listed
waiting-none b e = rw e

-- those that wait can be read
pub present-waiting : {n : ℕ} (b : Buffer n) → b.len ≤ n → present b ≡ waiting b
present-waiting {n} b short = rw (le-leb b.len n short)

-- the first elements of an array, one after the other
pub first : (k : ℕ) (es : List Entry) → k ≤ length es → listed k (λ i. get_or es i no_entry) ≡ take k es
first k es h =
    sym (listed_of k (λ i. get_or es i no_entry) (take k es) no_entry (length-take-le k es h) (λ i l. get_or-take k es i no_entry l))

-- the first k of the first n
least-take : (k n : ℕ) (es : List Entry) → take (min k n) es ≡ take k (take n es)
least-take k n es =
    elim (dec_lt k n) [
      | yes p ↦ let e : min k n ≡ k = omega arith in rw (e, take-take k n es (omega arith))
      | no q ↦
          let e : min k n ≡ n = omega arith in
          let l : length (take n es) ≤ k = rw length-take (omega arith) in
          rw (e, take_all k (take n es) l)
    ]

-- a buffer with its places
module _ {n : ℕ} (b : Buffer n) (full : length b.entries ≡ n) where
  -- the first entries of its array wait
  pub waiting-take : b.len ≤ n → waiting b ≡ take b.len b.entries
  waiting-take short = first b.len b.entries (omega arith)

  pub present-take : present b ≡ take b.len b.entries
  present-take =
      elim (dec_lt n b.len) [
        | yes p ↦ rw (lt-leb b.len n p) (sym (take_all b.len b.entries (omega arith)))
        | no q ↦ present-waiting b (omega arith) ∙ waiting-take (omega arith)
      ]

  -- no more can be read than there are places
  pub present-all : take n (present b) ≡ present b
  present-all = rw present-take (take_all n (take b.len b.entries) (rw length-take (omega arith)))

  -- the oldest of them
  pub oldest-take : (k i : ℕ) → i ≡ min (min k b.len) n → take i b.entries ≡ take k (present b)
  oldest-take k i e =
      take-least i (min k b.len) b.entries (omega arith) ∙ least-take k b.len b.entries ∙ ap (take k) (sym present-take)

  -- those that are left, once some were taken
  pub waiting-out : (at count : ℕ) → at + count ≤ b.len → b.len ≤ n
      → waiting {n = n} (record { len = b.len - count; entries = copy_within b.entries (at + count) b.len at })
      ≡ take at (waiting b) ++ drop (at + count) (waiting b)
  waiting-out at count a short =
      let xs : List Entry = b.entries in
      let from : ℕ = at + count in
      let m : ℕ = b.len - from in
      let ys : List Entry = drop from xs in
      let left : b.len - count ≡ at + m = omega arith in
      let whole : b.len ≡ from + m = omega arith in
      let size : length ys ≡ length xs - from = length-drop from xs in
      let long : length (paste xs at ys m) ≡ length xs = length-paste xs at ys m (omega arith) (omega arith) in
      let halves : take b.len xs ≡ take from xs ++ take m ys = ap (λ (k : ℕ). take k xs) whole ∙ take-add from m xs in
      first (b.len - count) (paste xs at ys m) (omega arith)
      ∙ ap (λ (k : ℕ). take k (paste xs at ys m)) left
      ∙ take-paste xs at ys m (omega arith) (omega arith)
      ∙ sym (rw (waiting-take short) (ap₂ (λ (ps qs : List Entry). ps ++ qs)
      (take-take at b.len xs (omega arith))
      (ap (drop from) halves ∙ drop_at (take from xs) (take m ys) from (length-take-le from xs (omega arith)))))

  -- what stands behind them then stays
  pub unused-out : (at count : ℕ) → at + count ≤ b.len → b.len ≤ n
      → drop (b.len - count) (copy_within b.entries (at + count) b.len at) ≡ drop (b.len - count) b.entries
  unused-out at count a short =
      let xs : List Entry = b.entries in
      let from : ℕ = at + count in
      let m : ℕ = b.len - from in
      let left : b.len - count ≡ at + m = omega arith in
      let size : length (drop from xs) ≡ length xs - from = length-drop from xs in
      rw left (drop-paste xs at (drop from xs) m (omega arith) (omega arith))

  -- one more
  pub waiting-more : (e : Entry) → b.len < n
      → waiting {n = n} (record { len = b.len + 1; entries = set b.entries b.len e }) ≡ waiting b ++ (e ∷ [])
  waiting-more e h =
      let long : length (set b.entries b.len e) ≡ length b.entries = length-set b.entries b.len e in
      first (b.len + 1) (set b.entries b.len e) (omega arith)
      ∙ take_more_set b.entries b.len e (omega arith)
      ∙ ap (λ (es : List Entry). es ++ (e ∷ [])) (sym (waiting-take (omega arith)))

-- what is done in two parts leaves as they were the places that both leave so, if the second leaves no fewer entries
pub unused-then : {n : ℕ} (a b c : Buffer n) → b.len ≤ c.len → UnusedKept a b → UnusedKept b c → UnusedKept a c
unused-then a b c more first second =
    let d : ℕ = c.len - b.len in
    let e : c.len ≡ b.len + d = omega arith in
    second ∙ rw e (sym (drop-drop d b.len b.entries) ∙ ap (drop d) first ∙ drop-drop d b.len a.entries)

-- with an entry added, or not, no fewer wait
pub no-fewer : {n : ℕ} (b c : Buffer n) (t : Bool) (e : Entry) → waiting c ≡ cond t (waiting b ++ (e ∷ [])) (waiting b) → b.len ≤ c.len
no-fewer b c true e h = omega (arith, length-waiting b, length-waiting c, ap length h, length-append (waiting b) (e ∷ []))
no-fewer b c false e h = omega (arith, length-waiting b, length-waiting c, ap length h)
