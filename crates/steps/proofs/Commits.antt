-- What a commit logs, and the state after it.
use Prim.Native.Nat.{ℕ, zero, suc, ◌+◌, ◌-◌, ◌*◌, ◌/◌, ◌≤◌, ◌<◌, min}
use mathlib.Core.Path.{◌≡◌, refl, sym, ap, ◌∙◌}
use mathlib.Core.Bool.{true, false}
use mathlib.Core.List.{List, [], ◌∷◌, ◌++◌, map}
use native.Mathlib.Omega.{arith}
use borrow.Author.Tests.{lt-ltb, le-ltb, ltb-false, eq-eqb, eqb-true}
use lib.Dec.{eqb}
use lib.ListN.{length, get_or, set, take, drop, length-append, length-map}
use lib.Seq.{take_all}
use Rattle.log_region.specs.declared.Record.{Record}
use Rattle.log_region.specs.declared.Record.TheVariants.{Redo, Commit}
use Rattle.log_region.specs.Stores.{stored_under}
use Rattle.log_region.specs.Region.{numbers, slots_of, record_stores}
use Rattle.log_region.specs.Holding.{Every}
use Rattle.log_region.specs.Appended.{Appended}
use Rattle.log_region.proofs.Appended.{appended_one, appended_then}
use Rattle.parts.specs.declared.Entry.{Entry}
use Rattle.parts.specs.declared.Line.{Line}
use Rattle.parts.specs.States.{URLog, ULog}
use Rattle.lines.specs.Lines.{first_lines}
use Rattle.lines.specs.Newest.{newest_records}
use Rattle.lines.proofs.LinesInUse.{first-logged}
use Rattle.lines.proofs.ReleasedLines.{released-all}
use Rattle.lines.proofs.NewestRecords.{newest-of}
use Rattle.lines.proofs.NewestWords.{newest-few}
use Rattle.buffers.specs.declared.entries.Buffer.{Buffer}
use Rattle.buffers.specs.Waiting.{waiting, present}
use Rattle.buffers.proofs.Waiting.{length-waiting, present-waiting}
use Rattle.model.specs.Lists.{up_to}
use Rattle.model.specs.Machine.{Machine as Model, Memory, line_of, state_in, holder_in, changed, marked, words_marked, all_logged}
use Rattle.model.specs.Refusals.{number_of, common, no_room}
use Rattle.model.specs.Steps.{undo_redo_record, redo_record, newest_words, newest_redos, prepare_records, prepare_next, released}
use Rattle.model.specs.Steps.{commit_records, commit_rows, commit_next}
use Rattle.model.specs.Step.{commit}
use Rattle.model.proofs.Lists.{both_left, every-kept, every-listed}
use Rattle.model.proofs.Lines.{holder-marked, holder-logged, length-words}
use Rattle.model.proofs.Rows.{None, none-apply, own-refusals, room}
use Rattle.state.specs.declared.Machine.{Machine}
use Rattle.state.specs.View.{view, memory}
use Rattle.steps.specs.Allowed.{Bounded}
use Rattle.steps.proofs.Outcome.{common-fit, bounded}
use Rattle.steps.proofs.AppendWays.{AppendWay}

-- all that waits in a buffer, with the number of its entries as the code takes them
pub oldest-all : {n : ℕ} (b : Buffer n) → b.len ≤ n → take b.len (present b) ≡ waiting b
oldest-all b few =
    ap (take b.len) (present-waiting b few) ∙ take_all b.len (waiting b) (omega (arith, length-waiting b))

-- the number of records that a commit logs
pub commit-size : (m : Model) (mem : Memory) (t : ℕ)
    → length (commit_records m mem t)
    ≡ length m.buffers.undo_redo + (length m.buffers.redo + (length (newest_words m.lines t m.sizes.words) + 1))
unfolding commit_records prepare_records newest_redos
commit-size m mem t = simp (length-append, length-map) (omega arith)

-- the ULog words that the code counts
pub commit-newest : (s : Machine) (t r : ℕ) → Bounded s
    → r ≡ length (newest_words (first_lines (min (s.words / 8) 64) s.lines) t (8 * min (s.words / 8) 64))
    → r ≡ length (newest_words (view s).lines t s.words)
commit-newest s t r b e =
    let n : min (s.words / 8) 64 ≡ s.words / 8 = omega arith in
    let v : 8 * (s.words / 8) ≡ s.words = omega arith in
    rw (n, v) at e

-- at most as many as there are words
pub commit-few : (s : Machine) (t r : ℕ)
    → r ≡ length (newest_words (first_lines (min (s.words / 8) 64) s.lines) t (8 * min (s.words / 8) 64)) → r ≤ 512
commit-few s t r e =
    omega (arith, newest-few (first_lines (min (s.words / 8) 64) s.lines) t (8 * min (s.words / 8) 64))

-- the number of records, by what the code counts
pub commit-count : (s : Machine) (mem : Memory) (t r : ℕ) → Bounded s
    → r ≡ length (newest_words (first_lines (min (s.words / 8) 64) s.lines) t (8 * min (s.words / 8) 64))
    → s.undos.len + s.redos.len + r + 1 ≡ length (commit_records (view s) mem t)
commit-count s mem t r b e =
    omega (
      arith,
      commit-newest s t r b e,
      commit-size (view s) mem t,
      length-waiting s.undos,
      length-waiting s.redos,
    )

-- the rows of a commit: the thread is unknown, its transaction is not open, or its records have no room
module _ (m : Model) (mem : Memory) (t : ℕ) where
  pub commit-unknown : 7 < t → 4 ≡ number_of (commit_rows m mem t)
  unfolding number_of
  commit-unknown h = rw (lt-ltb 7 t h)

  pub commit-idle : t ≤ 7 → get_or m.opened t false ≡ false → 6 ≡ number_of (commit_rows m mem t)
  unfolding number_of
  commit-idle h idle = rw (le-ltb 7 t h, idle)

  pub commit-room : (count n : ℕ) → t ≤ 7 → get_or m.opened t false ≡ true → count ≡ length (commit_records m mem t)
      → n ≡ number_of (no_room m mem count) → n ≡ number_of (commit_rows m mem t)
  unfolding number_of
  commit-room count n h opened counted e = rw (le-ltb 7 t h, opened, ← counted) e

-- a line that t holds is released whatever the states of its words
release-changed : (t : ℕ) (f : Line → Line) (i : ℕ) (ls : List Line)
    → released t (f (line_of ls i)) ≡ released t (line_of ls i)
    → map (released t) (changed f i ls) ≡ map (released t) ls
unfolding changed
release-changed t f i [] e = refl
release-changed t f zero (l ∷ ls) e = ap (λ (x : Line). x ∷ map (released t) ls) e
release-changed t f (suc i) (l ∷ ls) e = ap (λ (ls : List Line). released t l ∷ ls) (release-changed t f i ls e)

release-words : (t s : ℕ) (ws : List ℕ) (ls : List Line) → Every (λ w. holder_in ls w ≡ t) ws
    → map (released t) (words_marked s ws ls) ≡ map (released t) ls
unfolding words_marked marked holder_in released
release-words t s [] ls held = refl
release-words t s (w ∷ ws) ls held =
    release-words t s ws (marked s w ls) (simp holder-marked held.1)
    ∙ release-changed t _ (w / 8) ls (rw (eq-eqb (line_of ls (w / 8)).holder t held.0))

-- the words whose newest values are logged are t's
newest-held : (ls : List Line) (t n : ℕ) → Every (λ w. holder_in ls w ≡ t) (newest_words ls t n)
unfolding newest_words
newest-held ls t n =
    every-kept (λ w. holder_in ls w ≡ t) _ (up_to n)
    (every-listed _ n (λ w. w)
    (λ w h e. eqb-true (holder_in ls w) t (both_left (eqb (holder_in ls w) t) (eqb (state_in ls w) ULog) e)))

-- the state that the code makes: other lines, other buffers, the transaction closed, and the tail past `count` records
abbrev pub closed : Machine → ℕ → ℕ → List Line → Buffer 16 → Buffer 32 → Machine
closed s t count ls us rs =
    record {
      lost = s.lost;
      words = s.words;
      slots = s.slots;
      opened = set s.opened t false;
      lines = ls;
      head = s.head;
      undos = us;
      tail = s.tail + count;
      redos = rs;
    }

-- where the entries' words are marked and the lines in use are released, and nothing waits, it is that after the commit
pub commit-next : (s : Machine) (mem : Memory) (t count : ℕ) (marks ls : List Line) (us : Buffer 16) (rs : Buffer 32)
    → length s.lines ≡ 64 → s.words ≤ 512
    → count ≡ length (commit_records (view s) mem t)
    → marks ≡ all_logged (waiting s.undos) s.lines
    → ls ≡ map (released t) (take (s.words / 8) marks) ++ drop (s.words / 8) marks
    → waiting us ≡ []
    → waiting rs ≡ []
    → view (closed s t count ls us rs) ≡ commit_next (view s) mem t
unfolding prepare_next commit_records
commit-next s mem t count marks ls us rs places narrow counted logged freed no_undo no_redo =
    let n : ℕ = s.words / 8 in
    let few : n ≤ 64 = omega arith in
    let size : count ≡ length (prepare_records (view s) mem t) + 1 =
    counted ∙ length-append (prepare_records (view s) mem t) (Commit t ∷ []) in
    let tail : s.tail + count ≡ s.tail + length (prepare_records (view s) mem t) + 1 = omega arith in
    let first : List Line = all_logged (waiting s.undos) (first_lines n s.lines) in
    let all : length marks ≡ 64 =
    ap length logged ∙ length-words URLog (map (λ e. e.word) (waiting s.undos)) s.lines ∙ places in
    let held : Every (λ w. holder_in first w ≡ t) (newest_words (view s).lines t s.words) =
    simp holder-logged (newest-held (view s).lines t s.words) in
    let lines : first_lines n ls ≡ map (released t) (words_marked URLog (newest_words (view s).lines t s.words) first) =
    ap (first_lines n) freed
    ∙ released-all t n marks all few
    ∙ ap (map (released t)) (ap (first_lines n) logged ∙ first-logged n s.lines (waiting s.undos) places few)
    ∙ sym (release-words t URLog (newest_words (view s).lines t s.words) first held) in
    rw (tail, lines, no_undo, no_redo)

-- the code appends its records in four parts
module _ (s : Machine) (t : ℕ) (home working log : List ℕ) (width : length working ≡ s.words) (b : Bounded s) where
  pub commit-appended : {c k₁ k₂ k₃ k₄ : ℕ} {log₁ log₂ log₃ log₄ : List ℕ} (us rs : List Entry) (r : ℕ)
      → us ≡ take s.undos.len (present s.undos)
      → rs ≡ take s.redos.len (present s.redos)
      → r ≡ length (newest_words (first_lines (min (s.words / 8) 64) s.lines) t (8 * min (s.words / 8) 64))
      → Appended c log s.tail (map undo_redo_record us) log₁ k₁
      → Appended k₁ log₁ (s.tail + length us) (map redo_record rs) log₂ k₂
      → Appended k₂ log₂ (s.tail + length us + length rs) (newest_records s.lines working t) log₃ k₃
      → k₄ ≡ k₃ - length (record_stores (slots_of log₃) (s.tail + length us + length rs + r) (Commit t))
      → log₄ ≡ stored_under k₃ log₃ (record_stores (slots_of log₃) (s.tail + length us + length rs + r) (Commit t))
      → Appended c log s.tail (commit_records (view s) (memory home working log) t) log₄ k₄
  unfolding commit_records prepare_records newest_redos
  commit-appended {c} {k₁} {k₂} {k₃} {k₄} {log₁} {log₂} {log₃} {log₄} us rs r undo redo counted first second third
      left after =
      let ns : List Record = newest_redos (view s) (memory home working log) t in
      let us-records : List Record = map undo_redo_record (waiting s.undos) in
      let rs-records : List Record = map redo_record (waiting s.redos) in
      let us-is : us ≡ waiting s.undos = undo ∙ oldest-all s.undos b.undos in
      let rs-is : rs ≡ waiting s.redos = redo ∙ oldest-all s.redos b.redos in
      let us-size : length us ≡ length us-records =
      ap length us-is ∙ sym (length-map (waiting s.undos) undo_redo_record) in
      let rs-size : length rs ≡ length rs-records =
      ap length rs-is ∙ sym (length-map (waiting s.redos) redo_record) in
      let words : List ℕ = newest_words (view s).lines t s.words in
      let ns-size : r ≡ length ns =
      commit-newest s t r b counted ∙ sym (length-map words (λ w. Redo t w (get_or working w 0))) in
      let one : Appended c log s.tail us-records log₁ k₁ = rw us-is at first in
      let two : Appended k₁ log₁ (s.tail + length us-records) rs-records log₂ k₂ = rw (us-size, rs-is) at second in
      let three : Appended k₂ log₂ (s.tail + length us-records + length rs-records) ns log₃ k₃ =
      rw (us-size, rs-size, newest-of s.lines working t (omega arith) (rw width b.round), width) at third in
      let all : List Record = us-records ++ (rs-records ++ ns) in
      let last : s.tail + length us + length rs + r ≡ s.tail + length all =
      omega (arith, length-append us-records (rs-records ++ ns), length-append rs-records ns) in
      appended_then all (Commit t ∷ [])
      (appended_then us-records (rs-records ++ ns) one (appended_then rs-records ns two three))
      (rw last at (appended_one (Commit t) left after))

module _ (s : Machine) (mem : Memory) (zero : number_of (common (view s) mem) ≡ 0) where
  -- a commit that its own rows do not refuse
  module _ (t : ℕ) (own : 0 ≡ number_of (commit_rows (view s) mem t)) where
    none : None (commit_rows (view s) mem t)
    none = none-apply (commit_rows (view s) mem t) (own-refusals (commit t) (view s) mem) (sym own)

    pub known-thread : t < 8
    known-thread = omega (arith, ltb-false 7 t none.0)

    -- it appends its records
    pub commit-appends : AppendWay (commit t) (view s) mem (commit_records (view s) mem t) (commit_next (view s) mem t)
        mem.working
    commit-appends =
        record {
          way = record { first = zero; own = sym own; work = refl };
          fits = common-fit (view s) mem zero;
          room = room (view s) mem (length (commit_records (view s) mem t)) none.1.1;
        }

    -- and their numbers are those of records
    pub commit-numbered : (count : ℕ) → count ≡ length (commit_records (view s) mem t) → s.tail + count ≤ numbers
    commit-numbered count counted = rw counted (commit-appends.room.numbered (bounded s mem zero).tail)
