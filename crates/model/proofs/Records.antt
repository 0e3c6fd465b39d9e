-- The records of a word in a log: their redos, whose the open ones are; what a record appended changes for recovery.
use Prim.Native.Nat.{ℕ, ◌<◌}
use mathlib.Core.Path.{◌≡◌, refl, sym, ap, ap₂, ◌∙◌}
use mathlib.Core.Bool.{Bool, true, false, cond, ◌||◌, or_assoc, or-false, true≢false, false≢true}
use mathlib.Core.List.{List, [], ◌∷◌, ◌++◌, map, append-nil, append_assoc}
use mathlib.Core.Option.{none}
use native.Mathlib.Omega.{arith}
use borrow.Author.Tests.{eq-eqb, ne_eqb, eqb-true}
use lib.Dec.{eqb}
use lib.Seq.{append_snoc}
use Rattle.log_region.specs.declared.Record.{Record}
use Rattle.log_region.specs.declared.Record.TheVariants.{UndoRedo, Redo, Commit}
use Rattle.std.specs.Prelude.{Some}
use Rattle.log_region.specs.Stores.{Store}
use Rattle.log_region.specs.Layout.{thread_of}
use Rattle.log_region.specs.Holding.{Every, Valid}
use Rattle.parts.specs.FreeLine.{nobody}
use Rattle.model.specs.Lists.{any}
use Rattle.model.specs.Readings.{is_commit, closed, records}
use Rattle.model.specs.Recovery.{redo_of_closed, undo_of_open, redo_writes, undo_writes}
use Rattle.model.proofs.Lists.{neither}
use Rattle.model.proofs.LastTo.{first, last_to, last-append}

-- the redos of all records, closed or not, in log order
unfoldable pub redos : List Record → List Store
redos [] = []
redos (UndoRedo t w u r ∷ rs) = record { at = w; value = r } ∷ redos rs
redos (Redo t w r ∷ rs) = record { at = w; value = r } ∷ redos rs
redos (Commit t ∷ rs) = redos rs

-- the record is of word w
abbrev pub writes_to : ℕ → Record → Bool
writes_to w (UndoRedo t v u r) = eqb v w
writes_to w (Redo t v r) = eqb v w
writes_to w (Commit t) = false

-- the record is a commit
abbrev pub is_commit_record : Record → Bool
is_commit_record (UndoRedo t w u r) = false
is_commit_record (Redo t w r) = false
is_commit_record (Commit t) = true

-- every open record of word w is of thread h
abbrev pub Own : ℕ → ℕ → List Record → Type 0
Own w h [] = Unit {0}
Own w h (r ∷ rs) = (writes_to w r ≡ true → closed (thread_of r) rs ≡ false → thread_of r ≡ h) × Own w h rs

-- a test that one of two lists passes, and two tests that both fail
pub any_append : {A : Type 0} (f : A → Bool) (xs ys : List A) → any f (xs ++ ys) ≡ (any f xs || any f ys)
unfolding any
any_append f [] ys = refl
any_append f (x ∷ xs) ys = ap (λ (c : Bool). f x || c) (any_append f xs ys) ∙ sym (or_assoc (f x) (any f xs) (any f ys))

pub both-fail : (c d : Bool) → (c || d) ≡ false → (c ≡ false) × (d ≡ false)
both-fail c d = neither

-- a test that a list fails, its first part fails
pub fails-before : {A : Type 0} (f : A → Bool) (xs ys : List A) → any f (xs ++ ys) ≡ false → any f xs ≡ false
fails-before f xs ys fails = (neither (sym (any_append f xs ys) ∙ fails)).0

-- a record that is no commit closes nothing
closed-data : (t : ℕ) (rs : List Record) (r : Record) → is_commit_record r ≡ false → closed t (rs ++ (r ∷ [])) ≡ closed t rs
unfolding any
closed-data t rs r d = any_append (is_commit t) rs (r ∷ []) ∙ ap (λ (c : Bool). closed t rs || c) (alone r d) ∙ or-false (closed t rs)
  where
    alone : (r : Record) → is_commit_record r ≡ false → closed t (r ∷ []) ≡ false
    alone (UndoRedo s w u v) d = refl
    alone (Redo s w v) d = refl
    alone (Commit s) d = absurd (true≢false d)

-- a commit closes the records of its thread
closed-commit : (t s : ℕ) (rs : List Record) → closed t (rs ++ (Commit s ∷ [])) ≡ (closed t rs || eqb s t)
unfolding any
closed-commit t s rs = any_append (is_commit t) rs (Commit s ∷ []) ∙ ap (λ (c : Bool). closed t rs || c) (or-false (eqb s t))

-- what one of two tests says
or-by : (c d e : Bool) → (c ≡ true → e ≡ true) → (c ≡ false → d ≡ e) → (c || d) ≡ e
or-by true d e shut unshut = sym (shut refl)
or-by false d e shut unshut = unshut refl

-- what a record's undo and its redo store depends only on whether the record is closed
alike : (r : Record) (a b : List Record) → closed (thread_of r) a ≡ closed (thread_of r) b
    → (undo_of_open r a ≡ undo_of_open r b) × (redo_of_closed r a ≡ redo_of_closed r b)
alike (UndoRedo t w u v) a b e = (rw e, rw e)
alike (Redo t w v) a b e = (refl, rw e)
alike (Commit t) a b e = (refl, refl)

-- a record at the end that is no commit is the first to be undone
pub undo-of-data : (rs : List Record) (r : Record) → is_commit_record r ≡ false → undo_writes (rs ++ (r ∷ [])) ≡ undo_of_open r [] ++ undo_writes rs
unfolding undo_writes
undo-of-data [] r d = sym (append-nil (undo_of_open r []))
undo-of-data (x ∷ rs) r d =
    ap₂ (λ (a b : List Store). a ++ b) (undo-of-data rs r d) (alike x (rs ++ (r ∷ [])) rs (closed-data _ rs r d)).0
    ∙ append_assoc (undo_of_open r []) (undo_writes rs) (undo_of_open x rs)

-- what a redo record at the end leaves, several leave
redos-leave : {A : Type 0} (g : List Record → A) (t : ℕ) (f : ℕ → ℕ) → ((rs : List Record) (w : ℕ) → g (rs ++ (Redo t w (f w) ∷ [])) ≡ g rs)
    → (rs : List Record) (ws : List ℕ) → g (rs ++ map (λ w. Redo t w (f w)) ws) ≡ g rs
redos-leave g t f one rs [] = ap g (append-nil rs)
redos-leave g t f one rs (w ∷ ws) =
    ap g (sym (append_snoc rs (Redo t w (f w)) (map (λ v. Redo t v (f v)) ws))) ∙ redos-leave g t f one (rs ++ (Redo t w (f w) ∷ [])) ws ∙ one rs w

-- several redo records at the end are not undone
pub undo-of-redos : (rs : List Record) (t : ℕ) (f : ℕ → ℕ) (ws : List ℕ)
    → undo_writes (rs ++ map (λ w. Redo t w (f w)) ws) ≡ undo_writes rs
undo-of-redos rs t f ws = redos-leave undo_writes t f (λ rs w. undo-of-data rs (Redo t w (f w)) refl) rs ws

-- a record at the end that is no commit closes nothing and is not closed
pub redo-of-data : (rs : List Record) (r : Record) → is_commit_record r ≡ false → redo_writes (rs ++ (r ∷ [])) ≡ redo_writes rs
unfolding redo_writes any
redo-of-data [] (UndoRedo t w u v) d = refl
redo-of-data [] (Redo t w v) d = refl
redo-of-data [] (Commit t) d = refl
redo-of-data (x ∷ rs) r d =
    ap₂ (λ (a b : List Store). a ++ b) (alike x (rs ++ (r ∷ [])) rs (closed-data _ rs r d)).1 (redo-of-data rs r d)

-- nor do several redo records change what is redone
pub redo-of-redos : (rs : List Record) (t : ℕ) (f : ℕ → ℕ) (ws : List ℕ)
    → redo_writes (rs ++ map (λ w. Redo t w (f w)) ws) ≡ redo_writes rs
redo-of-redos rs t f ws = redos-leave redo_writes t f (λ rs w. redo-of-data rs (Redo t w (f w)) refl) rs ws

-- the redos of two lists of records are those of the one, then those of the other
pub redos-append : (rs new : List Record) → redos (rs ++ new) ≡ redos rs ++ redos new
unfolding redos
redos-append [] new = refl
redos-append (UndoRedo t w u r ∷ rs) new = ap (λ (ss : List Store). record { at = w; value = r } ∷ ss) (redos-append rs new)
redos-append (Redo t w r ∷ rs) new = ap (λ (ss : List Store). record { at = w; value = r } ∷ ss) (redos-append rs new)
redos-append (Commit t ∷ rs) new = redos-append rs new

-- a commit record has no redo
pub redos-commit : (t : ℕ) (rs : List Record) → redos (rs ++ (Commit t ∷ [])) ≡ redos rs
unfolding redos
redos-commit t rs = redos-append rs (Commit t ∷ []) ∙ append-nil (redos rs)

-- the open records of a word stay its holder's if one more of them is
pub own-end : (w h : ℕ) (rs : List Record) (r : Record) → Own w h rs → (writes_to w r ≡ true → thread_of r ≡ h)
    → Own w h (rs ++ (r ∷ []))
own-end w h [] r own mine = (λ hit unclosed. mine hit, tt)
own-end w h (x ∷ rs) r own mine =
    (λ hit unclosed. own.0 hit (fails-before (is_commit (thread_of x)) rs (r ∷ []) unclosed), own-end w h rs r own.1 mine)

-- and several redo records of one thread: those of w are of its holder
pub own-redos : (w h : ℕ) (rs : List Record) (t : ℕ) (f : ℕ → ℕ) (ws : List ℕ) → Own w h rs
    → Every (λ v. v ≡ w → t ≡ h) ws → Own w h (rs ++ map (λ v. Redo t v (f v)) ws)
own-redos w h rs t f [] own mine = rw append-nil own
own-redos w h rs t f (v ∷ ws) own mine =
    rw append_snoc at (own-redos w h (rs ++ (Redo t v (f v) ∷ [])) t f ws (own-end w h rs (Redo t v (f v)) own (λ hit. mine.0 (eqb-true v w hit))) mine.1)

-- the holder's commit closes the records of its word, and that of another thread closes none
closed-own : (w t : ℕ) (r : Record) (rs : List Record) → Own w t (r ∷ rs) → writes_to w r ≡ true
    → closed (thread_of r) (rs ++ (Commit t ∷ [])) ≡ true
closed-own w t r rs own hit =
    closed-commit (thread_of r) t rs
    ∙ or-by (closed (thread_of r) rs) (eqb t (thread_of r)) true (λ e. refl) (λ unclosed. eq-eqb t (thread_of r) (sym (own.0 hit unclosed)))

closed-other : (w h t : ℕ) (r : Record) (rs : List Record) → Own w h (r ∷ rs) → (t ≡ h → ⊥) → writes_to w r ≡ true
    → closed (thread_of r) (rs ++ (Commit t ∷ [])) ≡ closed (thread_of r) rs
closed-other w h t r rs own apart hit =
    closed-commit (thread_of r) t rs
    ∙ or-by (closed (thread_of r) rs) (eqb t (thread_of r)) (closed (thread_of r) rs) (λ e. e)
    (λ unclosed. ne_eqb t (thread_of r) (λ e. apart (e ∙ own.0 hit unclosed)) ∙ sym unclosed)

-- of two lists of stores the first is made, or both say the same of word w
as-closed : (w : ℕ) (hit c : Bool) (a b : List Store) → (hit ≡ true → c ≡ true) → (hit ≡ false → last_to w b ≡ last_to w a)
    → last_to w (cond c a b) ≡ last_to w a
as-closed w hit true a b on off = refl
as-closed w true false a b on off = absurd (false≢true (on refl))
as-closed w false false a b on off = off refl

-- a record that is closed or of another word is not undone in w, and its redo, if it is of w, is made
shut : (w : ℕ) (r : Record) (later : List Record) → (writes_to w r ≡ true → closed (thread_of r) later ≡ true)
    → (last_to w (undo_of_open r later) ≡ none) × (last_to w (redo_of_closed r later) ≡ last_to w (redos (r ∷ [])))
unfolding last_to redos
shut w (UndoRedo t v u r) later h = (
  as-closed w (eqb v w) (closed t later) [] (record { at = v; value = u } ∷ []) h (λ miss. rw miss),
  as-closed w (eqb v w) (closed t later) (record { at = v; value = r } ∷ []) [] h (λ miss. rw miss),
)
shut w (Redo t v r) later h =
    (refl, as-closed w (eqb v w) (closed t later) (record { at = v; value = r } ∷ []) [] h (λ miss. rw miss))
shut w (Commit t) later h = (refl, refl)

-- so what a record leaves in w depends only on whether it is closed if it is of w
same-closed : (w : ℕ) (r : Record) (a b : List Record)
    → (writes_to w r ≡ true → closed (thread_of r) a ≡ closed (thread_of r) b)
    → (last_to w (undo_of_open r a) ≡ last_to w (undo_of_open r b))
    × (last_to w (redo_of_closed r a) ≡ last_to w (redo_of_closed r b))
same-closed w r a b same = by (writes_to w r) refl
  where
    by : (hit : Bool) → writes_to w r ≡ hit
        → (last_to w (undo_of_open r a) ≡ last_to w (undo_of_open r b))
        × (last_to w (redo_of_closed r a) ≡ last_to w (redo_of_closed r b))
    by true e = (ap (last_to w) (alike r a b (same e)).0, ap (last_to w) (alike r a b (same e)).1)
    by false e =
        let one = shut w r a (λ hit. absurd (true≢false (sym hit ∙ e))) in
        let two = shut w r b (λ hit. absurd (true≢false (sym hit ∙ e))) in
        (one.0 ∙ sym two.0, one.1 ∙ sym two.1)

-- two lists of stores on end say the same of w if their parts do
last-both : (w : ℕ) (a b c d : List Store) → last_to w a ≡ last_to w c → last_to w b ≡ last_to w d → last_to w (a ++ b) ≡ last_to w (c ++ d)
last-both w a b c d e f = last-append w a b ∙ ap₂ first f e ∙ sym (last-append w c d)

-- the commit of another thread than the holder changes nothing for the word
pub of_other : (w h t : ℕ) (rs : List Record) → Own w h rs → (t ≡ h → ⊥)
    → (last_to w (undo_writes (rs ++ (Commit t ∷ []))) ≡ last_to w (undo_writes rs))
    × (last_to w (redo_writes (rs ++ (Commit t ∷ []))) ≡ last_to w (redo_writes rs))
unfolding undo_writes redo_writes
of_other w h t [] own apart = (refl, refl)
of_other w h t (r ∷ rs) own apart =
    let all : List Record = rs ++ (Commit t ∷ []) in
    let this = same-closed w r all rs (closed-other w h t r rs own apart) in
    let rest = of_other w h t rs own.1 apart in (
      last-both w (undo_writes all) (undo_of_open r all) (undo_writes rs) (undo_of_open r rs) rest.0 this.0,
      last-both w (redo_of_closed r all) (redo_writes all) (redo_of_closed r rs) (redo_writes rs) this.1 rest.1,
    )

-- the holder's commit closes all records of the word: none is undone, and the newest redo counts
pub of-own : (w t : ℕ) (rs : List Record) → Own w t rs
    → (last_to w (undo_writes (rs ++ (Commit t ∷ []))) ≡ none)
    × (last_to w (redo_writes (rs ++ (Commit t ∷ []))) ≡ last_to w (redos rs))
unfolding undo_writes redo_writes redos last_to
of-own w t [] own = (refl, refl)
of-own w t (r ∷ rs) own =
    let all : List Record = rs ++ (Commit t ∷ []) in
    let this = shut w r all (closed-own w t r rs own) in
    let rest = of-own w t rs own.1 in (
      last-both w (undo_writes all) (undo_of_open r all) [] [] rest.0 this.0,
      last-both w (redo_of_closed r all) (redo_writes all) (redos (r ∷ [])) (redos rs) this.1 rest.1
          ∙ ap (last_to w) (sym (redos-append (r ∷ []) rs)),
    )

-- and no record of it is open, so that any thread may take the word
pub own-closed : (w t h : ℕ) (rs : List Record) → Own w t rs → Own w h (rs ++ (Commit t ∷ []))
own-closed w t h [] own = (λ hit unclosed. absurd (false≢true hit), tt)
own-closed w t h (r ∷ rs) own =
    (λ hit unclosed. absurd (true≢false (sym (closed-own w t r rs own hit) ∙ unclosed)), own-closed w t h rs own.1)

-- a word of a line that nobody holds has no open records, so that any thread may take it too
pub own-free : (words w t : ℕ) (rs : List Record) → Every (Valid words) rs → Own w nobody rs → Own w t rs
own-free words w t [] valid own = tt
own-free words w t (r ∷ rs) valid own = (
  λ hit unclosed.
      let small : thread_of r < 8 = valid.0.thread in
      let free : thread_of r ≡ nobody = own.0 hit unclosed in
      absurd (omega arith),
  own-free words w t rs valid.1 own.1,
)

-- what is read back of good records
pub all-records : (rs : List Record) → records (map Some rs) ≡ rs
unfolding records
all-records [] = refl
all-records (r ∷ rs) = ap (λ (xs : List Record). r ∷ xs) (all-records rs)
