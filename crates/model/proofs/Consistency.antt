-- A machine that keeps the invariant is consistent.
use Prim.Native.Nat.{ℕ, ◌+◌, ◌^◌, ◌<◌, ◌≤◌}
use mathlib.Core.Path.{◌≡◌, refl}
use mathlib.Core.Bool.{Bool, true, false, cond, ◌&&◌, ◌||◌, not}
use mathlib.Core.List.{List, [], ◌∷◌}
use mathlib.Core.Logic.{⊎_elim}
use native.Mathlib.Omega.{arith}
use borrow.Author.Tests.{lt-ltb, le-leb, eq-eqb, ne_eqb}
use lib.Dec.{eqb, ltb}
use lib.ListN.{length, get_or}
use Rattle.log_region.specs.declared.Record.{Record}
use Rattle.log_region.specs.Holding.{Every}
use Rattle.log_region.specs.Region.{numbers, head_of}
use Rattle.parts.specs.declared.Entry.{Entry}
use Rattle.parts.specs.declared.Line.{Line}
use Rattle.parts.specs.FreeLine.{nobody}
use Rattle.parts.specs.States.{Clean, Dirty}
use Rattle.model.specs.Lists.{keep, all, up_to}
use Rattle.model.specs.Machine.{Machine, state_in, holder_in}
use Rattle.model.specs.Consistent.{is_width, entries_of, line_limits, entry_limits, within_limits, consistent, consistent_with}
use Rattle.model.specs.Consistent.{dirty_wait, redo_clean, entries_held, holders_open, free_clean}
use Rattle.model.specs.Book.{Book}
use Rattle.model.proofs.Lists.{every-listed}
use Rattle.model.proofs.Core.{Says, State, clean, clean_waiting, changed, urlog, ulog, EntryOk, LineOk, CoreOf}

-- two tests that both pass
pub both : {a b : Bool} → a ≡ true → b ≡ true → (a && b) ≡ true
both p q = rw p q

-- a test that every element with a property passes
pub all_true : {A : Type 0} (P : A → Type 0) (f : A → Bool) (xs : List A) → ((x : A) → P x → f x ≡ true) → Every P xs → all f xs ≡ true
unfolding all
all_true P f [] pass every = refl
all_true P f (x ∷ xs) pass every = both (pass x every.0) (all_true P f xs pass every.1)

-- a property of every element, whether or not the first is kept, is that of the rest
every_rest : (P : Entry → Type 0) (keeps : Bool) (e : Entry) (es : List Entry) → Every P (cond keeps (e ∷ es) es) → Every P es
every_rest P true e es every = every.1
every_rest P false e es every = every

-- what holds of a word and each of its entries, for every word, holds of every entry and its word
pub every-entry : (words : ℕ) (P : ℕ → Entry → Type 0) (es : List Entry) → Every (EntryOk words) es
    → ((w : ℕ) → w < words → Every (P w) (entries_of w es)) → Every (λ e. P e.word e) es
unfolding keep
every-entry words P [] ok each = tt
every-entry words P (e ∷ es) ok each =
    let own : Every (P e.word) (e ∷ entries_of e.word es) = rw (eq-eqb e.word e.word refl) at (each e.word ok.0.word) in
    (own.0, every-entry words P es ok.1 (λ w h. every_rest (P w) (eqb e.word w) e (entries_of w es) (each w h)))

-- An entry e waits in a buffer for words of one state, `wanted`: the word is in it, e is its only entry in the buffer, and of its holder.
pub record Waits (wanted st h : ℕ) (es : List Entry) (e : Entry) : Type 0 where
  pub state : st ≡ wanted
  pub alone : length es ≡ 1
  pub thread : e.thread ≡ h

module _ {g : Says} {s hm x h st : ℕ} {dirty : Bool} {us ds : List Entry} where
  -- an undo+redo entry waits for a Dirty word, a redo entry for a Clean one, and a Dirty word has one undo+redo entry
  waits : State g s hm x h dirty st us ds → Every (Waits Dirty st h us) us × Every (Waits Clean st h ds) ds
      × ((not (eqb st Dirty) || eqb (length us) 1) ≡ true)
  waits (clean c u d o n) = (rw u tt, rw d tt, rw c)
  waits (clean_waiting e c u d t r o) = (rw u tt, rw d (record { state = c; alone = refl; thread = t }, tt), rw c)
  waits (changed e c u d t r o y) = (rw u (record { state = c; alone = refl; thread = t }, tt), rw d tt, rw (c, u))
  waits (urlog c u d o n) = (rw u tt, rw d tt, rw c)
  waits (ulog c u d o) = (rw u tt, rw d tt, rw c)

-- an entry's numbers are within their limits
pub entry-limits : (words : ℕ) (e : Entry) → EntryOk words e → entry_limits words e ≡ true
unfolding entry_limits
entry-limits words e ok = both (lt-ltb e.thread 8 ok.thread) (lt-ltb e.word words ok.word)

module _ (opened : List Bool) (line : Line) (ok : LineOk opened line) where
  -- a line's numbers are within their limits
  line-limits : line_limits line ≡ true
  unfolding line_limits
  line-limits =
      let small : ltb line.states (2 ^ 16) ≡ true = lt-ltb line.states (2 ^ 16) ok.states in
      ⊎_elim (λ free. rw free.0 small) (λ held. rw (lt-ltb line.holder 8 held.0) small) ok.holder

  -- a holder has an open transaction
  holder-open : (eqb line.holder nobody || get_or opened line.holder false) ≡ true
  holder-open = ⊎_elim (λ free. rw free.0) (λ held. rw (ne_eqb line.holder nobody (omega arith)) held.1) ok.holder

  -- a free line's words are all Clean
  free-clean : (not (eqb line.holder nobody) || eqb line.states 0) ≡ true
  free-clean = ⊎_elim (λ free. rw (free.0, free.1)) (λ held. rw (ne_eqb line.holder nobody (omega arith))) ok.holder

-- e waits as an entry of word w of a machine
abbrev pub WaitsFor : ℕ → List Line → List Entry → ℕ → Entry → Type 0
WaitsFor wanted ls es w e = Waits wanted (state_in ls w) (holder_in ls w) (entries_of w es) e

-- every entry of a buffer waits so
abbrev pub AllWait : ℕ → List Line → List Entry → Type 0
AllWait wanted ls es = Every (λ e. WaitsFor wanted ls es e.word e) es

module _ (wanted : ℕ) (ls : List Line) (es : List Entry) (waiting : AllWait wanted ls es) where
  -- a test that waiting entries pass
  all-waiting : (f : Entry → Bool) → ((e : Entry) → WaitsFor wanted ls es e.word e → f e ≡ true) → all f es ≡ true
  all-waiting f pass = all_true (λ e. WaitsFor wanted ls es e.word e) f es pass waiting

  -- their words are in the wanted state
  pub all-in-state : all (λ e. eqb (state_in ls e.word) wanted) es ≡ true
  all-in-state = all-waiting _ (λ e u. eq-eqb (state_in ls e.word) wanted u.state)

  -- and have no other entry
  pub all-alone : all (λ e. eqb (state_in ls e.word) wanted && eqb (length (entries_of e.word es)) 1) es ≡ true
  all-alone =
      all-waiting _
      (λ e u. both (eq-eqb (state_in ls e.word) wanted u.state) (eq-eqb (length (entries_of e.word es)) 1 u.alone))

  -- their threads hold the lines
  pub all_held : all (λ e. eqb e.thread (holder_in ls e.word)) es ≡ true
  all_held = all-waiting _ (λ e u. eq-eqb e.thread (holder_in ls e.word) u.thread)

module _ (m : Machine) (home working : List ℕ) (b : Book) (rs : List Record) (core : CoreOf m home working b rs) where
  -- undo+redo entries wait for Dirty words, redo entries for Clean ones
  undos-wait : AllWait Dirty m.lines m.buffers.undo_redo
  undos-wait =
      every-entry m.sizes.words (WaitsFor Dirty m.lines m.buffers.undo_redo) m.buffers.undo_redo
      core.shape.undos.ok (λ w h. (waits (core.at w h).word.state).0)

  redos-wait : AllWait Clean m.lines m.buffers.redo
  redos-wait =
      every-entry m.sizes.words (WaitsFor Clean m.lines m.buffers.redo) m.buffers.redo
      core.shape.redos.ok (λ w h. (waits (core.at w h).word.state).1)

  -- a test that every line passes, and one that every word passes
  all_lines : (f : Line → Bool) → ((line : Line) → LineOk m.opened line → f line ≡ true) → all f m.lines ≡ true
  all_lines f pass = all_true (LineOk m.opened) f m.lines pass core.shape.lines_ok

  all_words : (f : ℕ → Bool) → ((w : ℕ) → w < m.sizes.words → f w ≡ true) → all f (up_to m.sizes.words) ≡ true
  all_words f pass = all_true (λ w. f w ≡ true) f (up_to m.sizes.words) (λ w e. e) (every-listed (λ w. f w ≡ true) m.sizes.words (λ w. w) pass)

  -- every entry is within its limits
  all-entries : (es : List Entry) → Every (EntryOk m.sizes.words) es → all (entry_limits m.sizes.words) es ≡ true
  all-entries es ok = all_true _ (entry_limits m.sizes.words) es (entry-limits m.sizes.words) ok

  -- a machine that keeps the invariant, with its log's numbers in order, is consistent
  pub core-consistent : (log : List ℕ) → is_width m.sizes.words ≡ true → 8 ≤ m.sizes.slots → m.sizes.slots ≤ 1024
      → m.span.head + length rs ≤ numbers → length rs ≤ m.sizes.slots → m.span.tail ≡ m.span.head + length rs
      → head_of log ≡ m.span.head → consistent_with m log ≡ true
  unfolding consistent_with consistent within_limits dirty_wait redo_clean entries_held holders_open free_clean
  core-consistent log width least most numbered room tail head =
      let us : List Entry = m.buffers.undo_redo in
      let ds : List Entry = m.buffers.redo in
      both
      (both
      (both (both width (both (le-leb 8 m.sizes.slots least) (le-leb m.sizes.slots 1024 most)))
      (both (both (le-leb m.span.head numbers (omega arith)) (le-leb m.span.tail numbers (omega arith)))
      (both (all_lines line_limits (line-limits m.opened))
      (both (both (le-leb (length us) 16 core.shape.undos.size) (le-leb (length ds) 32 core.shape.redos.size))
      (both (all-entries us core.shape.undos.ok) (all-entries ds core.shape.redos.ok))))))
      (both
      (both (le-leb m.span.head m.span.tail (omega arith))
      (le-leb m.span.tail (m.span.head + m.sizes.slots) (omega arith)))
      (both
      (both
      (all_words (λ w. not (eqb (state_in m.lines w) Dirty) || eqb (length (entries_of w us)) 1)
      (λ w h. (waits (core.at w h).word.state).2))
      (all-in-state Dirty m.lines us undos-wait))
      (both (all-alone Clean m.lines ds redos-wait)
      (both (both (all_held Dirty m.lines us undos-wait) (all_held Clean m.lines ds redos-wait))
      (both (all_lines _ (holder-open m.opened)) (all_lines _ (free-clean m.opened))))))))
      (eq-eqb (head_of log) m.span.head head)
