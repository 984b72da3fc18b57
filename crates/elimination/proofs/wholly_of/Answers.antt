use Rattle.automaton.specs.Answers.{held_by}
use Rattle.elimination.proofs.Promises.{wholly-ended, wholly-short}
use Rattle.elimination.proofs.wholly_of.Goals as goal

pub returns-in-Ok : goal.returns-in-Ok
returns-in-Ok c =
    let a = c.args in
    wholly-ended (held_by a.given.now.value) a.nodes.now c.wholly.new.words c.in-Ok.field-0 c.in-Ok.ensures

pub returns-in-Err : goal.returns-in-Err
returns-in-Err c =
    let a = c.args in
    rw c.zero.ensures (wholly-short (held_by a.given.now.value) a.nodes.now c.in-Err.short c.in-Err.ensures c.wholly.new.words c.wholly.auto.words)
