-- What changes of the lines do to the state, the holder and the dirty flag of each word.
use Prim.Native.Nat.{ℕ, zero, suc, ◌/◌, ◌%◌, ◌<◌}
use mathlib.Core.Path.{◌≡◌, refl, sym, ap, ◌∙◌, subst}
use mathlib.Core.Bool.{Bool, cond}
use mathlib.Core.List.{List, [], ◌∷◌, map}
use native.Mathlib.Decide.{ℕ_discrete}
use native.Mathlib.Omega.{arith}
use borrow.Author.Tests.{eq-eqb, ne_eqb}
use lib.Dec.{eqb}
use lib.ListN.{length, get_or, length-set, get_or-map}
use lib.Seq.{get_or-set_same, get_or-set_other}
use Rattle.log_region.specs.Holding.{Every}
use Rattle.parts.specs.declared.Entry.{Entry}
use Rattle.parts.specs.declared.Line.{Line}
use Rattle.parts.specs.FreeLine.{nobody, free_line}
use Rattle.parts.specs.States.{state_at, with_state, URLog}
use Rattle.parts.proofs.States.{state-same, state-other}
use Rattle.model.specs.Lists.{keep, is_empty}
use Rattle.model.specs.Machine.{line_of, state_in, holder_in, dirty_in, states_as, changed, marked, words_marked, all_logged}
use Rattle.model.specs.Consistent.{entries_of}
use Rattle.model.specs.Steps.{released}
use Rattle.model.proofs.Lists.{every-mapped, keep-map, empty-map}

-- a line after one line is changed
pub line-changed : (f : Line → Line) (i : ℕ) (ls : List Line) (k : ℕ) → i < length ls
    → line_of (changed f i ls) k ≡ cond (eqb k i) (f (line_of ls i)) (line_of ls k)
unfolding changed
line-changed f i ls k h =
    elim (ℕ_discrete k i) [
      | yes e ↦ rw (eq-eqb k i e, e) (get_or-set_same ls i (f (line_of ls i)) free_line h)
      | no ne ↦ rw (ne_eqb k i ne) (get_or-set_other ls i k (f (line_of ls i)) free_line ne)
    ]

-- what holds of it then, by whether it is the one
pub changed-line : (P : Line → Type 0) (f : Line → Line) (i : ℕ) (ls : List Line) (k : ℕ) → i < length ls
    → (k ≡ i → P (f (line_of ls k))) → ((k ≡ i → ⊥) → P (line_of ls k)) → P (line_of (changed f i ls) k)
changed-line P f i ls k h here there =
    subst P (sym (line-changed f i ls k h))
    (elim (ℕ_discrete k i) [ yes e ↦ rw (eq-eqb k i e, ← e) (here e) | no ne ↦ rw (ne_eqb k i ne) (there ne) ])

-- what a change keeps of the line that it changes stays in every line
pub kept-changed : {A : Type 0} (get : Line → A) (f : Line → Line) (i : ℕ) (ls : List Line) (k : ℕ) → ((line : Line) → get (f line) ≡ get line)
    → get (line_of (changed f i ls) k) ≡ get (line_of ls k)
unfolding changed
kept-changed get f i [] k keeps = refl
kept-changed get f zero (l ∷ ls) zero keeps = keeps l
kept-changed get f zero (l ∷ ls) (suc k) keeps = refl
kept-changed get f (suc i) (l ∷ ls) zero keeps = refl
kept-changed get f (suc i) (l ∷ ls) (suc k) keeps = kept-changed get f i ls k keeps

pub length-changed : (f : Line → Line) (i : ℕ) (ls : List Line) → length (changed f i ls) ≡ length ls
unfolding changed
length-changed f i ls = length-set ls i (f (line_of ls i))

-- every line has a property after one is changed that had it and keeps it
pub every-changed : (P : Line → Type 0) (f : Line → Line) (i : ℕ) (ls : List Line) → Every P ls
    → (i < length ls → P (line_of ls i) → P (f (line_of ls i))) → Every P (changed f i ls)
unfolding changed
every-changed P f i [] every keeps = tt
every-changed P f zero (l ∷ ls) every keeps = (keeps (omega arith) every.0, every.1)
every-changed P f (suc i) (l ∷ ls) every keeps = (every.0, every-changed P f i ls every.1 (λ h p. keeps (omega arith) p))

-- one word's state is replaced: the others', and all holders and dirty flags, stay
pub state-marked : (s u : ℕ) (ls : List Line) (w : ℕ) → s < 4 → u / 8 < length ls
    → state_in (marked s u ls) w ≡ cond (eqb w u) s (state_in ls w)
unfolding state_in marked
state-marked s u ls w small h =
    let mark : Line → Line = λ line. states_as (with_state line.states (u % 8) s) line in
    ap (λ (line : Line). state_at line.states (w % 8)) (line-changed mark (u / 8) ls (w / 8) h)
    ∙ elim (ℕ_discrete (w / 8) (u / 8)) [
      | yes e ↦
          elim (ℕ_discrete w u) [
            | yes same ↦ rw (eq-eqb (w / 8) (u / 8) e, eq-eqb w u same, same) (state-same (line_of ls (u / 8)).states (u % 8) s small)
            | no other ↦
                rw (eq-eqb (w / 8) (u / 8) e, ne_eqb w u other, e)
                (state-other (line_of ls (u / 8)).states (w % 8) (u % 8) s small (omega arith))
          ]
      | no ne ↦ rw (ne_eqb (w / 8) (u / 8) ne, ne_eqb w u (λ same. ne (ap (λ (v : ℕ). v / 8) same)))
    ]

pub holder-marked : (s u : ℕ) (ls : List Line) (w : ℕ) → holder_in (marked s u ls) w ≡ holder_in ls w
unfolding holder_in marked
holder-marked s u ls w =
    kept-changed (λ line. line.holder) (λ line. states_as (with_state line.states (u % 8) s) line) (u / 8) ls (w / 8) (λ line. refl)

pub dirty-marked : (s u : ℕ) (ls : List Line) (w : ℕ) → dirty_in (marked s u ls) w ≡ dirty_in ls w
unfolding dirty_in marked
dirty-marked s u ls w =
    kept-changed (λ line. line.dirty) (λ line. states_as (with_state line.states (u % 8) s) line) (u / 8) ls (w / 8) (λ line. refl)

pub length_marked : (s u : ℕ) (ls : List Line) → length (marked s u ls) ≡ length ls
unfolding marked
length_marked s u ls = length-changed (λ line. states_as (with_state line.states (u % 8) s) line) (u / 8) ls

-- the states of several words are replaced
pub state-words : (s : ℕ) (ws : List ℕ) (ls : List Line) (w : ℕ) → s < 4 → Every (λ v. v / 8 < length ls) ws
    → state_in (words_marked s ws ls) w ≡ cond (is_empty (keep (λ v. eqb v w) ws)) (state_in ls w) s
unfolding words_marked keep
state-words s [] ls w small within = refl
state-words s (v ∷ ws) ls w small within =
    state-words s ws (marked s v ls) w small (simp length_marked within.1)
    ∙ ap (λ (n : ℕ). cond (is_empty (keep (λ u. eqb u w) ws)) n s) (state-marked s v ls w small within.0)
    ∙ elim (ℕ_discrete v w) [
      | yes p ↦
          rw (eq-eqb v w p, eq-eqb w v (sym p))
          (elim (keep (λ u. eqb u w) ws) as (λ (r : List ℕ). cond (is_empty r) s s ≡ s) [ [] ↦ refl | x ∷ r ↦ refl ])
      | no ne ↦ rw (ne_eqb v w ne, ne_eqb w v (λ p. ne (sym p)))
    ]

-- what marking one word leaves, marking several leaves
words-leave : {A : Type 0} (g : List Line → A) (s : ℕ) → ((v : ℕ) (ls : List Line) → g (marked s v ls) ≡ g ls)
    → (ws : List ℕ) (ls : List Line) → g (words_marked s ws ls) ≡ g ls
unfolding words_marked
words-leave g s one [] ls = refl
words-leave g s one (v ∷ ws) ls = words-leave g s one ws (marked s v ls) ∙ one v ls

pub holder-words : (s : ℕ) (ws : List ℕ) (ls : List Line) (w : ℕ) → holder_in (words_marked s ws ls) w ≡ holder_in ls w
holder-words s ws ls w = words-leave (λ l. holder_in l w) s (λ v l. holder-marked s v l w) ws ls

pub dirty-words : (s : ℕ) (ws : List ℕ) (ls : List Line) (w : ℕ) → dirty_in (words_marked s ws ls) w ≡ dirty_in ls w
dirty-words s ws ls w = words-leave (λ l. dirty_in l w) s (λ v l. dirty-marked s v l w) ws ls

pub length-words : (s : ℕ) (ws : List ℕ) (ls : List Line) → length (words_marked s ws ls) ≡ length ls
length-words s ws ls = words-leave length s (λ v l. length_marked s v l) ws ls

-- all entries of a list are logged: their words become URLog
pub state-logged : (es : List Entry) (ls : List Line) (w : ℕ) → Every (λ e. e.word / 8 < length ls) es
    → state_in (all_logged es ls) w ≡ cond (is_empty (entries_of w es)) (state_in ls w) URLog
state-logged es ls w within =
    state-words URLog (map (λ e. e.word) es) ls w (omega arith) (every-mapped (λ v. v / 8 < length ls) (λ e. e.word) es within)
    ∙ ap (λ (t : Bool). cond t (state_in ls w) URLog)
    (ap is_empty (keep-map (λ v. eqb v w) (λ e. e.word) es) ∙ empty-map (λ e. e.word) (entries_of w es))

pub holder-logged : (es : List Entry) (ls : List Line) (w : ℕ) → holder_in (all_logged es ls) w ≡ holder_in ls w
holder-logged es ls w = holder-words URLog (map (λ e. e.word) es) ls w

pub dirty-logged : (es : List Entry) (ls : List Line) (w : ℕ) → dirty_in (all_logged es ls) w ≡ dirty_in ls w
dirty-logged es ls w = dirty-words URLog (map (λ e. e.word) es) ls w

-- the lines that t held are free, the others as they were
pub line-released : (t : ℕ) (ls : List Line) (k : ℕ) → (t ≡ nobody → ⊥) → line_of (map (released t) ls) k ≡ released t (line_of ls k)
unfolding released
line-released t ls k h =
    let free : released t free_line ≡ free_line = rw (ne_eqb nobody t (λ e. h (sym e))) in
    ap (get_or (map (released t) ls) k) (sym free) ∙ get_or-map (released t) ls k free_line
