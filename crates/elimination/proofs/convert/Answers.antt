use mathlib.Core.Path.{refl}
use Rattle.std.specs.Prelude.{Ok}
use Rattle.std.proofs.lemmas.Result.{err_from_is_err_and}
use Rattle.automaton.specs.Answers.{read_of}
use Rattle.automaton.proofs.Refusing.{number-some}
use Rattle.elimination.specs.Answers.{wholly_answer}
use Rattle.elimination.proofs.Promises.{wholly-held, wholly-refused}
use Rattle.elimination.proofs.convert.Goals as goal

pub returns-in_err-read : goal.returns-in_err-read
returns-in_err-read c =
    let a = c.args in
    let p = err_from_is_err_and c.from_residual.result c.from_residual.ensures.1 in
    rw (p.1, p.2) (wholly-refused a.file.now _ c.in_err-read.ensures a.nodes.now (number-some c.in_err-read.field-0.0))

pub returns : goal.returns
returns c =
    let a = c.args in
    wholly-held a.file.now (read_of (Ok c.in_ok-read.field-0.value)) c.in_ok-read.ensures a.nodes.now c.wholly_of.new.nodes (wholly_answer c.wholly_of.result) refl c.wholly_of.ensures
