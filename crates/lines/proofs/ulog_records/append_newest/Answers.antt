-- `append_newest` meets its contract: nothing is appended, or the records of all lines.
use Prim.Native.Nat.{ℕ, ◌+◌, ◌*◌, ◌/◌, ◌≤◌, ◌<◌}
use mathlib.Core.Path.{◌≡◌, subst}
use mathlib.Core.List.{List, map-append, append-nil}
use native.Mathlib.Omega.{arith}
use lib.ListN.{length, get_or, take, length-map}
use lib.Seq.{get_or-take}
use Rattle.std.proofs.lemmas.List.{length-take}
use Rattle.parts.specs.declared.Line.{Line}
use Rattle.log_region.specs.declared.Record.TheVariants.{Redo}
use Rattle.log_region.specs.Region.{slots_of}
use Rattle.log_region.specs.Appended.{Progressed}
use Rattle.log_region.proofs.Appended.{progressed-none, progressed-then, progressed-length, appended-none, appended_nothing}
use Rattle.log_region.proofs.Appending.{records-beyond}
use Rattle.lines.specs.Lines.{no_line, line_at, first_lines}
use Rattle.lines.specs.Newest.{newest_in_line, redos_of, newest_words}
use Rattle.lines.proofs.NewestWords.{newest-nothing, newest-line, newest-other, newest-few}
use Rattle.lines.proofs.NewestRecords.{newest-large, newest-uneven, newest-appended}
use Rattle.lines.proofs.ulog_records.append_newest.Goals as goal
use Rattle.lines.proofs.ulog_records.append_newest.Goals.{then-line-thread, else-line-thread}
use Rattle.lines.proofs.ulog_records.append_newest.Goals.{then-number-ge-NUMBERS-via-then-number-ge-NUMBERS}
use Rattle.lines.proofs.ulog_records.append_newest.Goals.{then-number-ge-NUMBERS-via-else-number-ge-NUMBERS+then-words-gt512}
use Rattle.lines.proofs.ulog_records.append_newest.Goals.{then-number-ge-NUMBERS-via-else-number-ge-NUMBERS+else-words-gt512+then-words-ne0}

-- one line more, which the thread holds or not
module _ (working before between : List ℕ) (ls : List Line) (t p i c n k m : ℕ) (line : Line) (below : i < p) (there : line ≡ line_at ls i)
    (first : Progressed c before n (redos_of working t (newest_words (first_lines p ls) t (8 * i))) between m k) where
  held : (after : List ℕ) (next rest : ℕ) → line.holder ≡ t
      → Progressed k between m (redos_of working line.holder (newest_in_line line.holder i line.holder line.states 8)) after next rest
      → Progressed c before n (redos_of working t (newest_words (first_lines p ls) t (8 * (i + 1)))) after next rest
  held after next rest e second =
      rw (newest-line ls p t i below, map-append)
      (progressed-then (redos_of working t (newest_words (first_lines p ls) t (8 * i)))
      (redos_of working t (newest_in_line t i (line_at ls i).holder (line_at ls i).states 8)) first
      (subst (λ (l : Line). Progressed k between m (redos_of working t (newest_in_line t i l.holder l.states 8)) after next rest) there
      (subst (λ (u : ℕ). Progressed k between m (redos_of working u (newest_in_line u i line.holder line.states 8)) after next rest) e second)))

  other : (line.holder ≡ t → ⊥) → Progressed c before n (redos_of working t (newest_words (first_lines p ls) t (8 * (i + 1)))) between m k
  other ne =
      rw (newest-line ls p t i below, ← there, newest-other t i line.holder line.states 8 ne, append-nil) first

pub returns-then-number-ge-NUMBERS : goal.returns-then-number-ge-NUMBERS
returns-then-number-ge-NUMBERS c =
    let a = c.args in
    elim c.then-number-ge-NUMBERS.branch [
      | then-number-ge-NUMBERS-via-then-number-ge-NUMBERS w ↦
          appended_nothing a.supply a.log.now a.number _ (records-beyond (slots_of a.log.now) a.number _ w.if-number-ge-NUMBERS.true)
      | then-number-ge-NUMBERS-via-else-number-ge-NUMBERS+then-words-gt512 w ↦
          rw (newest-large a.lines.now a.working.now a.thread w.if-words-gt512.true) (appended-none a.supply a.log.now a.number)
      | then-number-ge-NUMBERS-via-else-number-ge-NUMBERS+else-words-gt512+then-words-ne0 w ↦
          rw (newest-uneven a.lines.now a.working.now a.thread w.if-words-ne0.true) (appended-none a.supply a.log.now a.number)
    ]

pub loop-i-init : goal.loop-i-init
loop-i-init c =
    let a = c.args in
    rw newest-nothing (progressed-none a.supply a.log.now a.number)

pub append_line-at-requires : goal.append_line-at-requires
append_line-at-requires c =
    let l = c.loop-i in
    let a = c.args in
    let all = length-take (length a.working.now / 8) a.lines.now in
    let lines : List Line = first_lines (length a.working.now / 8) a.lines.now in
    let few : l.at.number ≤ a.number + 8 * l.i =
    omega (
      arith,
      l.invariant.number,
      length-map (newest_words lines a.thread (8 * l.i)) (λ w. Redo a.thread w (get_or a.working.now w 0)),
      newest-few lines a.thread (8 * l.i),
    ) in
    (omega arith, (omega arith, omega arith))

pub loop-i-preserved : goal.loop-i-preserved
loop-i-preserved c =
    let l = c.loop-i in
    let a = c.args in
    let all = length-take (length a.working.now / 8) a.lines.now in
    let n : ℕ = length a.working.now / 8 in
    let line : Line = get_or (take n a.lines.now) l.i no_line in
    let below : l.i < n = omega arith in
    let there : line ≡ line_at a.lines.now l.i = get_or-take n a.lines.now l.i no_line below in
    elim c.if-line-thread.branch [
      | then-line-thread w ↦
          let r = w.append_line-at in
          rw (w.log-is, w.at-is)
          (held a.working.now a.log.now l.log a.lines.now a.thread n l.i a.supply a.number l.at.left l.at.number line below there l.invariant
          r.new.log r.result.number r.result.left w.if-line-thread.true r.ensures)
      | else-line-thread w ↦
          rw (w.log-is, w.at-is)
          (other a.working.now a.log.now l.log a.lines.now a.thread n l.i a.supply a.number l.at.left l.at.number line below there l.invariant
          w.if-line-thread.false)
    ]

pub returns : goal.returns
returns c =
    let l = c.loop-i in
    let a = c.args in
    let all = length-take (length a.working.now / 8) a.lines.now in
    let e : l.i ≡ length a.working.now / 8 = omega arith in
    newest-appended a.lines.now a.working.now a.thread c.if-words-gt512.false c.if-words-ne0.false (rw e at l.invariant)

pub shape_of-log : goal.shape_of-log
shape_of-log c = progressed-length c.loop-i.invariant
