use mathlib.Core.Path.{refl, ◌∙◌}
use native.Mathlib.Omega.{arith}
use Rattle.automaton.specs.Answers.{held_by}
use Rattle.elimination.proofs.Promises.{partly-short, partly-stopped, partly-too-far}
use Rattle.elimination.proofs.partly_of.Goals as goal

pub returns-then-states-k : goal.returns-then-states-k
returns-then-states-k c =
    let a = c.args in
    let t = c.if-states-k.true in
    partly-too-far (held_by a.given.now.value) a.k a.nodes.now (omega arith)

pub returns-in-Ok : goal.returns-in-Ok
returns-in-Ok c =
    let a = c.args in
    let h = c.if-states-k.false in
    let rows = c.rows-rows.ensures.rows in
    rw rows
    (partly-stopped (held_by a.given.now.value) a.k a.nodes.now (omega arith) c.partly.new.words c.in-Ok.field-0 c.in-Ok.ensures c.list_rows.result
    (c.list_rows.ensures ∙ rw rows refl))

pub returns-in-Err : goal.returns-in-Err
returns-in-Err c =
    let a = c.args in
    let h = c.if-states-k.false in
    rw c.zero.ensures
    (partly-short (held_by a.given.now.value) a.k a.nodes.now (omega arith) c.in-Err.reason c.in-Err.ensures c.partly.new.words c.partly.auto.words)
