use mathlib.Core.Path.{sym, ap, subst, ◌∙◌}
use Rattle.std.proofs.lemmas.Result.{err_from_is_err_and}
use Rattle.automaton.specs.Held.{Held}
use Rattle.trees.specs.Promises.{no_run, RunPromise}
use Rattle.trees.specs.Piles.{words_answer}
use Rattle.trees.proofs.Promised.{run-fault, run-held}
use Rattle.automaton.proofs.Handing.{result-fault, result-held}
use Rattle.trees.proofs.run.Goals as goal

pub of-requires : goal.of-requires
of-requires c = (result-held c.args.file.now c.in_ok-read.field-0 c.in_ok-read.ensures).handed.valid

pub returns-in_err-read : goal.returns-in_err-read
returns-in_err-read c =
    let args = c.args in
    let p = err_from_is_err_and c.from_residual.result c.from_residual.ensures.1 in
    let fault = result-fault args.file.now c.in_err-read.field-0.0 c.in_err-read.ensures in
    rw (p.1, p.2)
    (subst (RunPromise args.file.now args.words.now) (sym (ap no_run fault.given))
    (run-fault args.file.now args.words.now fault.number fault.offset fault.in_file))

pub returns : goal.returns
returns c =
    let args = c.args in
    let handed = result-held args.file.now c.in_ok-read.field-0 c.in_ok-read.ensures in
    subst (RunPromise args.file.now args.words.now) (sym (c.answer.ensures ∙ ap (λ (held : Held). words_answer held args.words.now) (c.of.ensures ∙ handed.said)))
    (run-held args.file.now args.words.now handed.held handed.in_file)
