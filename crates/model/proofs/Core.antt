-- The invariant of a machine that is not lost, word by word; and of a world: its machine is live, or lost with a log
-- from which recovery brings the committed values home.
use Prim.Native.Nat.{ℕ, ◌+◌, ◌%◌, ◌≤◌, ◌*◌, ◌^◌, ◌<◌}
use mathlib.Core.Path.{◌≡◌, sym, ◌∙◌, subst, refl, ap}
use mathlib.Core.Bool.{true, false, Bool, cond}
use mathlib.Core.List.{List, [], ◌∷◌, ◌++◌}
use mathlib.Core.Logic.{◌⊎◌}
use mathlib.Core.Option.{Option, none, some}
use borrow.Author.Tests.{leb-true, eqb-true}
use lib.ListN.{length, get_or, take}
use Rattle.log_region.specs.declared.Record.{Record}
use Rattle.log_region.specs.Holding.{Holds, Every, Valid}
use Rattle.log_region.specs.Stores.{Store}
use Rattle.parts.specs.declared.Entry.{Entry}
use Rattle.parts.specs.declared.Line.{Line}
use Rattle.parts.specs.FreeLine.{nobody}
use Rattle.parts.specs.States.{Clean, Dirty, URLog, ULog, state_at}
use Rattle.model.specs.Machine.{Machine, Memory, state_in, holder_in, dirty_in}
use Rattle.model.specs.Consistent.{is_width, entries_of}
use Rattle.model.specs.Book.{Book}
use Rattle.model.specs.Recovery.{redo_writes, undo_writes}
use Rattle.model.proofs.Lists.{halves}
use Rattle.model.proofs.LastTo.{or, last_to}
use Rattle.model.proofs.Records.{redos, Own}

-- What the log says of a word: the oldest undo of an open record of it, the newest redo of a closed one and of any; and both newest redos
-- of the recent records alone.
pub record Says : Type 0 where
  pub undo : Option ℕ
  pub redo : Option ℕ
  pub new : Option ℕ
  pub late_redo : Option ℕ
  pub late : Option ℕ

-- the records that the last write-back of a line does not cover: all if the line is dirty, else none
abbrev pub recent : Bool → List Record → List Record
recent dirty rs = cond dirty rs []

abbrev pub says : ℕ → Bool → List Record → Says
says w dirty rs =
    record {
      undo = last_to w (undo_writes rs);
      redo = last_to w (redo_writes rs);
      new = last_to w (redos rs);
      late_redo = last_to w (redo_writes (recent dirty rs));
      late = last_to w (redos (recent dirty rs));
    }

-- The newest value of a word is its working one: no redo is newer, and the recent records, else its home word, have it.
pub record Newest (g : Says) (hm x : ℕ) : Type 0 where
  pub any : or g.new x ≡ x
  pub home : or g.late hm ≡ x

-- What holds of a word by its state. g is what the log says of it, s its committed value, hm its home word, x its working word, h its holder;
-- us and ds are its entries in the undo+redo and the redo buffer.
pub data State (g : Says) (s hm x h : ℕ) (dirty : Bool) (st : ℕ) (us ds : List Entry) : Type 0 where
  clean : st ≡ Clean → us ≡ [] → ds ≡ [] → or g.undo x ≡ s → Newest g hm x → State g s hm x h dirty st us ds
  clean_waiting : (e : Entry) → st ≡ Clean → us ≡ [] → ds ≡ e ∷ [] → e.thread ≡ h → e.redo ≡ x → or g.undo x ≡ s
      → State g s hm x h dirty st us ds
  changed : (e : Entry) → st ≡ Dirty → us ≡ e ∷ [] → ds ≡ [] → e.thread ≡ h → e.redo ≡ x → or g.undo e.undo ≡ s → dirty ≡ true
      → State g s hm x h dirty st us ds
  urlog : st ≡ URLog → us ≡ [] → ds ≡ [] → g.undo ≡ some s → Newest g hm x → State g s hm x h dirty st us ds
  ulog : st ≡ ULog → us ≡ [] → ds ≡ [] → g.undo ≡ some s → State g s hm x h dirty st us ds

-- Who holds the word's line: nobody, and its working word is the committed one; or a thread, and its working word is the last value that this
-- thread stored (`mine`), else the committed one.
pub data Holding (mine : Option ℕ) (s x h st : ℕ) (us ds : List Entry) : Type 0 where
  free : h ≡ nobody → x ≡ s → st ≡ Clean → us ≡ [] → ds ≡ [] → Holding mine s x h st us ds
  held : h < 8 → x ≡ or mine s → Holding mine s x h st us ds

-- All that holds of one word. `calm` is what a flag that is not set says; the rest speaks of the recent records alone.
pub record Word (g : Says) (mine : Option ℕ) (s hm x h : ℕ) (dirty : Bool) (st : ℕ) (us ds : List Entry) : Type 0 where
  pub crash : or g.undo (or g.late_redo hm) ≡ s
  pub closed : or g.redo s ≡ s
  pub calm : dirty ≡ false → or g.late hm ≡ x
  pub state : State g s hm x h dirty st us ds
  pub holder : Holding mine s x h st us ds

-- an entry's numbers are within their limits
pub record EntryOk (words : ℕ) (e : Entry) : Type 0 where
  pub thread : e.thread < 8
  pub word : e.word < words

-- a buffer's entries are few enough and within their limits
pub record Entries (words limit : ℕ) (es : List Entry) : Type 0 where
  pub size : length es ≤ limit
  pub ok : Every (EntryOk words) es

-- a line is free and all Clean, or a thread with an open transaction holds it
pub record LineOk (opened : List Bool) (line : Line) : Type 0 where
  pub states : line.states < 2 ^ 16
  pub holder : ((line.holder ≡ nobody) × (line.states ≡ 0)) ⊎ ((line.holder < 8) × (get_or opened line.holder false ≡ true))

-- the numbers of a machine's parts, and of its home and working words
pub record Shape (words : ℕ) (opened : List Bool) (lines : List Line) (us ds : List Entry) (home working : List ℕ) : Type 0 where
  pub line_count : words ≡ 8 * length lines
  pub home_size : length home ≡ words
  pub working_size : length working ≡ words
  pub threads : length opened ≡ 8
  pub lines_ok : Every (LineOk opened) lines
  pub undos : Entries words 16 us
  pub redos : Entries words 32 ds

-- All that holds of word w of a machine: of its open records, of what other threads stored, and of the word itself.
pub record At (opened : List Bool) (rs : List Record) (p : ℕ → List Store) (w s hm x h : ℕ) (dirty : Bool) (st : ℕ) (us ds : List Entry) : Type 0 where
  pub own : Own w h rs
  pub others : (t : ℕ) → t < 8 → get_or opened t false ≡ true → (t ≡ h → ⊥) → last_to w (p t) ≡ none
  pub word : Word (says w dirty rs) (last_to w (p h)) s hm x h dirty st us ds

-- all that, of a word whose line is the last argument
abbrev pub AtLine : List Bool → List Record → (ℕ → List Store) → ℕ → (s hm x : ℕ) → (us ds : List Entry) → Line → Type 0
AtLine opened rs p w s hm x us ds line =
    At opened rs p w s hm x line.holder line.dirty (state_at line.states (w % 8)) us ds

-- The invariant, of the parts of a machine, the records in the log, home and working words, and the book. A step shows what it changes of the
-- shape, by the laws below, of the records, and of each word.
pub record Core (words : ℕ) (opened : List Bool) (ls : List Line) (us ds : List Entry) (rs : List Record) (home working : List ℕ)
    (s : ℕ → ℕ) (p : ℕ → List Store) : Type 0 where
  pub shape : Shape words opened ls us ds home working
  pub valid : Every (Valid words) rs
  pub at : (w : ℕ) → w < words
      → At opened rs p w (s w) (get_or home w 0) (get_or working w 0) (holder_in ls w) (dirty_in ls w) (state_in ls w) (entries_of w us) (entries_of w ds)

module _ {words : ℕ} {opened : List Bool} {ls : List Line} {us ds : List Entry} {home working : List ℕ}
    (shape : Shape words opened ls us ds home working) where
  -- other lines, open transactions, entries, home and working words
  reshaped : {ls' : List Line} {opened' : List Bool} {us' ds' : List Entry} {home' working' : List ℕ}
      → length ls' ≡ length ls → length opened' ≡ length opened → Every (LineOk opened') ls'
      → Entries words 16 us' → Entries words 32 ds' → length home' ≡ length home → length working' ≡ length working
      → Shape words opened' ls' us' ds' home' working'
  reshaped same still ok in_undo in_redo same_home same_working =
      record {
        line_count = shape.line_count ∙ ap (λ n. 8 * n) (sym same);
        home_size = same_home ∙ shape.home_size;
        working_size = same_working ∙ shape.working_size;
        threads = still ∙ shape.threads;
        lines_ok = ok;
        undos = in_undo;
        redos = in_redo;
      }

  pub shape-owners : {ls' : List Line} {opened' : List Bool} → length ls' ≡ length ls → length opened' ≡ length opened
      → Every (LineOk opened') ls' → Shape words opened' ls' us ds home working
  shape-owners same still ok = reshaped same still ok shape.undos shape.redos refl refl

  pub shape-lines : {ls' : List Line} → length ls' ≡ length ls → Every (LineOk opened) ls' → Shape words opened ls' us ds home working
  shape-lines same ok = shape-owners same refl ok

  pub shape-words : {us' ds' : List Entry} {home' working' : List ℕ} → Entries words 16 us' → Entries words 32 ds'
      → length home' ≡ length home → length working' ≡ length working → Shape words opened ls us' ds' home' working'
  shape-words = reshaped refl refl shape.lines_ok

  pub shape-entries : {us' ds' : List Entry} → Entries words 16 us' → Entries words 32 ds' → Shape words opened ls us' ds' home working
  shape-entries in_undo in_redo = shape-words in_undo in_redo refl refl

-- What a power cut leaves: recovery would bring every word's committed value home.
unfoldable pub Safe : ℕ → List Record → List ℕ → (ℕ → ℕ) → Type 0
Safe words rs home s = (w : ℕ) → w < words → or (last_to w (undo_writes rs)) (or (last_to w (redo_writes rs)) (get_or home w 0)) ≡ s w

-- the invariant of a machine with its home and working words and the book
abbrev pub CoreOf : Machine → List ℕ → List ℕ → Book → List Record → Type 0
CoreOf m home working b rs =
    Core m.sizes.words m.opened m.lines m.buffers.undo_redo m.buffers.redo rs home working b.committed b.pending

-- What a step that only appends records has to show: before all of them are there a power cut is safe, and after all the invariant holds.
pub record Appends (m : Machine) (home : List ℕ) (b : Book) (rs new : List Record) (next : Machine) (working : List ℕ) (book : Book) : Type 0 where
  pub safe : (k : ℕ) → k < length new → Safe m.sizes.words (rs ++ take k new) home b.committed
  pub core : CoreOf next home working book (rs ++ new)

-- what recovery would leave of a word, once the recent records alone bring its committed value home
pub or-recent : (undo redo : Option ℕ) (hm s : ℕ) → or undo hm ≡ s → or redo s ≡ s → or undo (or redo hm) ≡ s
or-recent none redo hm s e c = ap (or redo) e ∙ c
or-recent (some a) redo hm s e c = e

pub crash-all : (w : ℕ) (dirty : Bool) (rs : List Record) (hm s : ℕ) → or (last_to w (undo_writes rs)) (or (last_to w (redo_writes (recent dirty rs))) hm) ≡ s
    → or (last_to w (redo_writes rs)) s ≡ s → or (last_to w (undo_writes rs)) (or (last_to w (redo_writes rs)) hm) ≡ s
unfolding redo_writes last_to
crash-all w true rs hm s e c = e
crash-all w false rs hm s e c = or-recent (last_to w (undo_writes rs)) (last_to w (redo_writes rs)) hm s e c

-- a machine that is not lost is safe too
pub core-safe : {words : ℕ} {opened : List Bool} {ls : List Line} {us ds : List Entry} {rs : List Record} {home working : List ℕ}
    {s : ℕ → ℕ} {p : ℕ → List Store} → Core words opened ls us ds rs home working s p → Safe words rs home s
unfolding Safe
core-safe {ls = ls} {rs = rs} {home = home} {s = s} core w h =
    crash-all w (dirty_in ls w) rs (get_or home w 0) (s w) (core.at w h).word.crash (core.at w h).word.closed

-- What recovery needs of the buffers: l slots that hold the records rs from head on, and home words that are safe with them.
pub record Kept (l : ℕ) (mem : Memory) (s : ℕ → ℕ) : Type 0 where
  pub rs : List Record
  pub head : ℕ
  pub width : is_width (length mem.home) ≡ true
  pub working : length mem.working ≡ length mem.home
  pub holds : Holds (length mem.home) l mem.log head rs
  pub safe : Safe (length mem.home) rs mem.home s

-- A machine that is not lost, with its buffers and the book.
pub record Live (l : ℕ) (m : Machine) (mem : Memory) (b : Book) : Type 0 where
  pub rs : List Record
  pub alive : m.lost ≡ false
  pub width : is_width m.sizes.words ≡ true
  pub slots : m.sizes.slots ≡ l
  pub holds : Holds m.sizes.words l mem.log m.span.head rs
  pub tail : m.span.tail ≡ m.span.head + length rs
  pub core : CoreOf m mem.home mem.working b rs

pub data Ready (l : ℕ) (m : Machine) (mem : Memory) (b : Book) : Type 0 where
  live : Live l m mem b → Ready l m mem b
  dark : m.lost ≡ true → Kept l mem b.committed → Ready l m mem b

-- buffers of so many words that recovery can use
pub kept : {l : ℕ} (words : ℕ) (mem : Memory) (s : ℕ → ℕ) (rs : List Record) (head : ℕ) → is_width words ≡ true → length mem.home ≡ words
    → length mem.working ≡ words → Holds words l mem.log head rs → Safe words rs mem.home s → Kept l mem s
kept {l} words mem s rs head width size working holds safe =
    record {
      rs = rs;
      head = head;
      width = rw size width;
      working = working ∙ sym size;
      holds = subst (λ (n : ℕ). Holds n l mem.log head rs) (sym size) holds;
      safe = subst (λ (n : ℕ). Safe n rs mem.home s) (sym size) safe;
    }

-- those of a live machine
pub live-kept : {l : ℕ} (m : Machine) (mem : Memory) (b : Book) → Live l m mem b → Kept l mem b.committed
live-kept m mem b world =
    kept m.sizes.words mem b.committed world.rs m.span.head world.width world.core.shape.home_size world.core.shape.working_size
    world.holds
    (core-safe world.core)

-- the limits of a width
pub width-limits : (n : ℕ) → is_width n ≡ true → (8 ≤ n) × (n ≤ 512) × (n % 8 ≡ 0)
width-limits n e =
    let (least, rest) = halves e in
    let (most, whole) = halves rest in
    (leb-true 8 n least, leb-true n 512 most, eqb-true (n % 8) 0 whole)
