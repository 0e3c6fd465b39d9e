-- `append_line` meets its contract. Before each turn the records of the words passed are appended.
use Prim.Native.Nat.{ℕ, ◌+◌, ◌-◌, ◌*◌}
use mathlib.Core.Path.{◌≡◌, refl, sym, ap, ◌∙◌}
use mathlib.Core.Bool.{true, false}
use mathlib.Core.List.{List, [], ◌∷◌, map-append, append-nil}
use native.Mathlib.Omega.{arith}
use lib.Dec.{eqb}
use lib.ListN.{length, get_or}
use Rattle.parts.specs.declared.WordState.TheVariants as word
use Rattle.parts.specs.States.{state_at, ULog}
use Rattle.parts.proofs.States.{state-tested}
use Rattle.log_region.specs.declared.Record.TheVariants.{Redo}
use Rattle.log_region.specs.Stores.{stored_under}
use Rattle.log_region.specs.Region.{slots_of, record_stores}
use Rattle.log_region.specs.Appended.{Progressed}
use Rattle.log_region.proofs.Appended.{progressed-none, progressed-one, progressed-then, progressed-length}
use Rattle.lines.specs.Newest.{redos_of, newest_in_line}
use Rattle.lines.proofs.NewestWords.{newest-start, newest-word}
use Rattle.lines.proofs.ulog_records.append_line.Goals as goal
use Rattle.lines.proofs.ulog_records.append_line.Goals.{then-eq, else-eq}

-- one word more, which is ULog or another
module _ (working before between : List ℕ) (t i states j c n k m : ℕ)
    (first : Progressed c before n (redos_of working t (newest_in_line t i t states j)) between m k) where
  one : (after : List ℕ) (rest : ℕ) → eqb (state_at states j) ULog ≡ true
      → rest ≡ k - length (record_stores (slots_of between) m (Redo t (8 * i + j) (get_or working (8 * i + j) 0)))
      → after ≡ stored_under k between (record_stores (slots_of between) m (Redo t (8 * i + j) (get_or working (8 * i + j) 0)))
      → Progressed c before n (redos_of working t (newest_in_line t i t states (j + 1))) after (m + 1) rest
  one after rest e left log =
      rw (newest-word t i t states j refl, map-append, e)
      (progressed-then (redos_of working t (newest_in_line t i t states j)) (Redo t (8 * i + j) (get_or working (8 * i + j) 0) ∷ []) first
      (progressed-one (Redo t (8 * i + j) (get_or working (8 * i + j) 0)) left log))

  none : eqb (state_at states j) ULog ≡ false
      → Progressed c before n (redos_of working t (newest_in_line t i t states (j + 1))) between m k
  none e = rw (newest-word t i t states j refl, e, append-nil) first

pub loop-j-init : goal.loop-j-init
loop-j-init c =
    let a = c.args in
    (omega arith, rw (newest-start a.line.holder a.i a.line.holder a.line.states) (progressed-none a.start.left a.log.now a.start.number))

pub loop-j-preserved : goal.loop-j-preserved
loop-j-preserved c =
    let l = c.loop-j in
    let a = c.args in
    let tested : eqb (state_at a.line.states l.j) ULog ≡ c.eq.result =
    sym (ap (λ (s : ℕ). eqb s ULog) c.state_at.ensures) ∙ sym (state-tested c.state_at.result word.ULog) ∙ sym c.eq.ensures in
    elim c.if-eq.branch [
      | then-eq w ↦
          let r = w.append-left in
          rw (w.log-is, w.at-is) (
            omega arith,
            one a.working.now a.log.now l.log a.line.holder a.i a.line.states l.j a.start.left a.start.number l.at.left l.at.number l.invariant.1
                r.new.log r.result (tested ∙ w.if-eq.true) r.ensures.value r.ensures.log_after,
          )
      | else-eq w ↦
          rw (w.log-is, w.at-is) (
            omega arith,
            none a.working.now a.log.now l.log a.line.holder a.i a.line.states l.j a.start.left a.start.number l.at.left l.at.number l.invariant.1
                (tested ∙ w.if-eq.false),
          )
    ]

pub returns : goal.returns
returns c = let e : c.loop-j.j ≡ 8 = omega arith in rw e at c.loop-j.invariant.1

pub shape_of-log : goal.shape_of-log
shape_of-log c = progressed-length c.loop-j.invariant.1
