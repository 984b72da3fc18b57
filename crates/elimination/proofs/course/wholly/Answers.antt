use Rattle.std.proofs.lemmas.Result.{err_from_is_err_and}
use Rattle.automaton.specs.Answers.{held_by}
use Rattle.elimination.proofs.Conversion.{wholly-full, wholly-gives}
use Rattle.elimination.proofs.course.wholly.Goals as goal

pub returns-in_err-staged : goal.returns-in_err-staged
returns-in_err-staged c =
    let a = c.args in
    let given = a.given.now in
    let p = err_from_is_err_and c.from_residual.result c.from_residual.ensures.1 in
    rw (p.1, p.2) (wholly-full (held_by given.value) given.handed.valid a.words.now c.partly.new.words c.states.result c.states.ensures c.in_err-staged.field-0.0 c.in_err-staged.ensures)

pub returns : goal.returns
returns c =
    let a = c.args in
    let given = a.given.now in
    let x = c.join_rows in
    wholly-gives (held_by given.value) given.handed.valid a.words.now c.partly.new.words c.states.result c.states.ensures c.in_ok-staged.staged c.in_ok-staged.ensures x.new.words x.result (rw c.rows.ensures.rows at x.ensures)
