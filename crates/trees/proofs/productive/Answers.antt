use mathlib.Core.Path.{sym, ap, subst, refl, ◌∙◌}
use Rattle.std.proofs.lemmas.Result.{err_from_is_err_and}
use Rattle.automaton.specs.Held.{Held}
use Rattle.trees.specs.Runs.{ProductiveSet}
use Rattle.trees.specs.Promises.{no_states, ProductivePromise}
use Rattle.trees.proofs.Promised.{productive-fault, productive-held}
use Rattle.automaton.proofs.Handing.{result-fault, result-held}
use Rattle.trees.proofs.productive.Goals as goal

pub of-requires : goal.of-requires
of-requires c = (result-held c.args.file.now c.in_ok-value.value c.in_ok-value.ensures).handed.valid

pub returns-in_err-value : goal.returns-in_err-value
returns-in_err-value c =
    let file = c.args.file.now in
    let p = err_from_is_err_and c.from_residual.result c.from_residual.ensures.1 in
    let fault = result-fault file c.in_err-value.field-0.0 c.in_err-value.ensures in
    rw (p.1, p.2) (subst (ProductivePromise file) (sym (ap no_states fault.given)) (productive-fault file fault.number fault.offset fault.in_file))

pub returns : goal.returns
returns c =
    let file = c.args.file.now in
    let handed = result-held file c.in_ok-value.value c.in_ok-value.ensures in
    let found = subst (λ (held : Held). ProductiveSet held.rules c.rounds.result) (c.of.ensures ∙ handed.said) c.rounds.ensures in
    productive-held file handed.held _ handed.in_file (record { done = refl; productive = found })
