-- The lines in use, the first n of 64: a line there, a line changed, and words marked.
use Prim.Native.Nat.{ℕ, ◌/◌, ◌%◌, ◌≤◌, ◌<◌}
use mathlib.Core.Path.{◌≡◌, refl, sym, ap, ◌∙◌}
use mathlib.Core.List.{List, [], ◌∷◌, map}
use native.Mathlib.Decide.{dec_lt}
use native.Mathlib.Omega.{arith}
use lib.ListN.{length, set}
use Rattle.std.proofs.lemmas.List.{get_or_default}
use lib.Seq.{set_out}
use Rattle.parts.specs.declared.Entry.{Entry}
use Rattle.parts.specs.declared.Line.{Line}
use Rattle.parts.specs.FreeLine.{free_line}
use Rattle.parts.specs.States.{state_at, with_state, URLog}
use Rattle.parts.proofs.Listed.{length-listed, get_or-listed}
use Rattle.model.specs.Machine.{line_of, state_in, holder_in, states_as, changed, marked, words_marked, all_logged}
use Rattle.model.proofs.Lines.{length_marked}
use Rattle.lines.specs.Lines.{no_line, line_at, first_lines}
use Rattle.lines.proofs.FirstLines.{first-put}

-- a line in use
pub line-listed : (n : ℕ) (ls : List Line) (i : ℕ) → i < n → line_at ls i ≡ line_of (first_lines n ls) i
line-listed n ls i h = sym (get_or-listed n (line_at ls) i free_line h)

module _ (n : ℕ) (ls : List Line) (whole : length ls ≡ 64) (few : n ≤ 64) where
  -- it is the same in both
  pub line-in-use : (i : ℕ) → i < n → line_of ls i ≡ line_of (first_lines n ls) i
  line-in-use i h = get_or_default ls i free_line no_line (omega arith) ∙ line-listed n ls i h

  -- and so are the holder and the state of a word
  pub holder-there : (w : ℕ) → w / 8 < n → holder_in ls w ≡ holder_in (first_lines n ls) w
  unfolding holder_in
  holder-there w below = ap (λ (l : Line). l.holder) (line-in-use (w / 8) below)

  pub state-there : (w : ℕ) → w / 8 < n → state_in ls w ≡ state_in (first_lines n ls) w
  unfolding state_in
  state-there w below = ap (λ (l : Line). state_at l.states (w % 8)) (line-in-use (w / 8) below)

-- a line that is there, changed
pub changed-there : (f : Line → Line) (ls : List Line) (i : ℕ) → i < length ls → set ls i (f (line_at ls i)) ≡ changed f i ls
unfolding changed
changed-there f ls i h = ap (λ (x : Line). set ls i (f x)) (get_or_default ls i no_line free_line h)

-- a line changed, be it in use or not
pub first-changed : (f : Line → Line) (n : ℕ) (ls : List Line) (i : ℕ) → length ls ≡ 64 → n ≤ 64
    → first_lines n (changed f i ls) ≡ changed f i (first_lines n ls)
unfolding changed
first-changed f n ls i whole h =
    let l : length (first_lines n ls) ≡ n = length-listed n (line_at ls) in
    first-put n ls i (f (line_of ls i)) whole h
    ∙ elim (dec_lt i n) [
      | yes p ↦ ap (λ (x : Line). set (first_lines n ls) i (f x)) (line-in-use n ls whole h i p)
      | no q ↦
          set_out (first_lines n ls) i (f (line_of ls i)) (omega arith)
          ∙ sym (set_out (first_lines n ls) i (f (line_of (first_lines n ls) i)) (omega arith))
    ]

-- the state of a word replaced
pub first-marked : (n : ℕ) (ls : List Line) (w s : ℕ) → length ls ≡ 64 → n ≤ 64 → first_lines n (marked s w ls) ≡ marked s w (first_lines n ls)
unfolding marked
first-marked n ls w s whole h = first-changed (λ line. states_as (with_state line.states (w % 8) s) line) n ls (w / 8) whole h

-- those of several words
pub first-words : (n : ℕ) (ls : List Line) (s : ℕ) (ws : List ℕ) → length ls ≡ 64 → n ≤ 64
    → first_lines n (words_marked s ws ls) ≡ words_marked s ws (first_lines n ls)
unfolding words_marked
first-words n ls s [] whole h = refl
first-words n ls s (w ∷ ws) whole h =
    first-words n (marked s w ls) s ws (length_marked s w ls ∙ whole) h ∙ ap (words_marked s ws) (first-marked n ls w s whole h)

-- and those of the words of entries that are logged
pub first-logged : (n : ℕ) (ls : List Line) (es : List Entry) → length ls ≡ 64 → n ≤ 64
    → first_lines n (all_logged es ls) ≡ all_logged es (first_lines n ls)
first-logged n ls es whole h = first-words n ls URLog (map (λ e. e.word) es) whole h
