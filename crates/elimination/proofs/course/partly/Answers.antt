use Rattle.std.proofs.lemmas.Result.{err_from_is_err_and}
use Rattle.automaton.specs.Answers.{held_by}
use Rattle.elimination.proofs.Conversion.{partly-full, partly-gives}
use Rattle.elimination.proofs.course.partly.Goals as goal

pub returns-in_err-begun : goal.returns-in_err-begun
returns-in_err-begun c =
    let a = c.args in
    let given = a.given.now in
    let p = err_from_is_err_and c.from_residual.result c.from_residual.ensures.1 in
    rw (p.1, p.2) (partly-full (held_by given.value) given.handed.valid a.words.now c.begin.new.words a.k c.requires c.in_err-begun.field-0.0 c.in_err-begun.ensures)

pub returns : goal.returns
returns c =
    let a = c.args in
    let given = a.given.now in
    let x = c.take_first in
    partly-gives (held_by given.value) given.handed.valid a.words.now c.begin.new.words a.k c.requires c.in_ok-begun.begun c.in_ok-begun.ensures x.new.words x.result x.ensures
