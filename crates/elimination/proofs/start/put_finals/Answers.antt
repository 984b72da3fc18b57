use mathlib.Core.Path.{sym}
use native.Mathlib.Omega.{arith}
use Rattle.elimination.proofs.Starting.{finals-skip, finals-start, finals-take}
use Rattle.elimination.proofs.start.put_finals.Goals as goal
use Rattle.elimination.proofs.start.put_finals.Goals.{then-has, else-has}

pub loop-q-init : goal.loop-q-init
loop-q-init c = let a = c.args in finals-start a.list.now a.finals.0

pub loop-q-preserved : goal.loop-q-preserved
loop-q-preserved c =
    let a = c.args in
    let l = c.loop-q in
    elim c.if-has.branch [
      | then-has w ↦
          let n = c.requires.n_le_state_width in
          let t = c.loop-q-test.true in
          rw (w.list-is, w.push.ensures) (finals-take a.list.now a.finals.0 l.list l.q l.invariant (omega arith) (sym w.if-has.ensures) w.row.result w.row.ensures)
      | else-has w ↦ rw w.list-is (finals-skip a.list.now a.finals.0 l.list l.q l.invariant (sym w.if-has.ensures))
    ]
