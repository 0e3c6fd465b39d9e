-- The loop that adds an entry for each ULog word of a line.
use Prim.Native.Nat.{ℕ, zero, suc, ◌+◌, ◌-◌, ◌≤◌, ◌<◌}
use mathlib.Core.Path.{◌≡◌, refl, sym, ap, ◌∙◌}
use mathlib.Core.Bool.{Bool, true, false, cond}
use mathlib.Core.List.{List, [], ◌∷◌, ◌++◌, map, map-append, append-nil, append_assoc}
use native.Mathlib.Omega.{arith}
use borrow.Author.Tests.{lt-ltb}
use lib.Dec.{eqb, ltb}
use lib.ListN.{length, length-map, length-append}
use Rattle.parts.specs.declared.Entry.{Entry}
use Rattle.parts.specs.declared.Line.{Line}
use Rattle.parts.specs.Listed.{listed}
use Rattle.parts.specs.States.{state_at, ULog}
use Rattle.model.specs.Lists.{keep, up_to}
use Rattle.model.proofs.FirstNumbers.{keep-next}
use Rattle.lines.specs.Walks.{ulog_words}
use Rattle.buffers.specs.declared.entries.Buffer.{Buffer}
use Rattle.buffers.specs.Waiting.{waiting}
use Rattle.buffers.specs.Added.{ulog_entry}
use Rattle.buffers.proofs.Waiting.{length-waiting}

-- how many of the first numbers pass a test, with one more number
count_next : (f : ℕ → Bool) (n : ℕ) (t : Bool) → f n ≡ t → length (keep f (up_to (n + 1))) ≡ length (keep f (up_to n)) + cond t 1 0
count_next f n t e =
    ap length (keep-next f n t e)
    ∙ length-append (keep f (up_to n)) (cond t (n ∷ []) [])
    ∙ ap (λ (k : ℕ). length (keep f (up_to n)) + k)
    (elim t as (λ (s : Bool). length (cond s (n ∷ []) []) ≡ cond s 1 0) [ true ↦ refl | false ↦ refl ])

-- among more numbers no fewer pass
count_later : (f : ℕ → Bool) (n k : ℕ) → length (keep f (up_to n)) ≤ length (keep f (up_to (n + k)))
count_later f n zero = let e : n + 0 ≡ n = omega arith in rw e (omega arith)
count_later f n (suc k) =
    let e : n + suc k ≡ n + k + 1 = omega arith in
    rw e (omega (arith, count_later f n k, count_next f (n + k) (f (n + k)) refl))

module _ (line : Line) (i : ℕ) (working : List ℕ) where
  -- word j is ULog, and the entries that the first j words add
  abbrev pub ulog : ℕ → Bool
  ulog j = eqb (state_at line.states j) ULog

  abbrev pub added : ℕ → List Entry
  added j = map (ulog_entry line i working) (keep ulog (up_to j))

  -- none
  pub added-none : (es : List Entry) → es ≡ es ++ added 0
  unfolding keep listed
  added-none es = sym (append-nil es)

  -- a word that is not ULog
  pub added-not : (j : ℕ) → ulog j ≡ false → added (j + 1) ≡ added j
  added-not j e = ap (map (ulog_entry line i working)) (keep-next ulog j false e ∙ append-nil (keep ulog (up_to j)))

  -- one that is
  added-last : (j : ℕ) → ulog j ≡ true → added (j + 1) ≡ added j ++ (ulog_entry line i working j ∷ [])
  added-last j e =
      ap (map (ulog_entry line i working)) (keep-next ulog j true e) ∙ map-append (ulog_entry line i working) (keep ulog (up_to j)) (j ∷ [])

  pub added-more : (b₀ b c : Buffer 32) (j : ℕ) → b₀.len + length (ulog_words line.states) ≤ 32
      → waiting b ≡ waiting b₀ ++ added j → j < 8 → ulog j ≡ true
      → waiting c ≡ cond (ltb b.len 32) (waiting b ++ (ulog_entry line i working j ∷ [])) (waiting b)
      → waiting c ≡ waiting b₀ ++ added (j + 1)
  added-more b₀ b c j room before below test pushed =
      let size : b.len ≡ b₀.len + length (keep ulog (up_to j)) =
      sym (length-waiting b) ∙ ap length before ∙ length-append (waiting b₀) (added j)
      ∙ rw (length-waiting, length-map) refl in
      let one : length (keep ulog (up_to (j + 1))) ≡ length (keep ulog (up_to j)) + 1 = count_next ulog j true test in
      let last : length (keep ulog (up_to (j + 1))) ≤ length (keep ulog (up_to (j + 1 + (7 - j)))) = count_later ulog (j + 1) (7 - j) in
      let all : j + 1 + (7 - j) ≡ 8 = omega arith in
      let place : b.len < 32 = omega (arith, rw all at last) in
      pushed ∙ rw (lt-ltb b.len 32 place, before) (append_assoc (waiting b₀) (added j) (ulog_entry line i working j ∷ []) ∙ ap (λ (es : List Entry). waiting b₀ ++ es) (sym (added-last j test)))
