use mathlib.Core.Bool.{Bool}
use mathlib.Core.Path.{ap}
use native.Mathlib.Omega.{arith}
use Rattle.std.proofs.lemmas.Result.{err_from_is_err_and}
use Rattle.automaton.specs.Refusals.{no_refusal}
use Rattle.trees.specs.Piles.{run_to, tree_answer}
use Rattle.trees.proofs.Stacking.{err-left, ok-left, meets-and}
use Rattle.trees.proofs.climb.reached.Goals as goal

pub returns-in_err-set : goal.returns-in_err-set
unfolding tree_answer
returns-in_err-set c =
    let p = err_from_is_err_and c.from_residual.result c.from_residual.ensures.1 in
    let e = err-left c.args.set c.in_err-set.field-0.0 c.in_err-set.ensures.value in
    rw (p.1, p.2, e.0, e.1)

pub returns : goal.returns
unfolding run_to tree_answer
returns c =
    let set = c.in_ok-set.set in
    rw (ok-left c.args.set set c.in_ok-set.ensures.value)
    (ap (λ (b : Bool). record { refusal = no_refusal; states = record { 0 = set }; yes = b }) (meets-and set c.args.finals.0 (omega arith) (omega arith)))
