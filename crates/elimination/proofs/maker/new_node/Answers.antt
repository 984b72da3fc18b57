use mathlib.Core.Path.{refl}
use native.Mathlib.Omega.{arith}
use Rattle.std.proofs.lemmas.Result.{err_from_is_err_and}
use Rattle.automaton.specs.Refusals.{no_refusal}
use Rattle.expressions.specs.Nodes.{shape_of}
use Rattle.elimination.proofs.Makers.{new-few, new-made, new_none}
use Rattle.elimination.proofs.maker.new_node.Goals as goal

pub returns-in_err-make : goal.returns-in_err-make
returns-in_err-make c =
    let a = c.args in
    let p = err_from_is_err_and c.from_residual.result c.from_residual.ensures.1 in
    rw (p.1, p.2) (new_none a.words.now a.count (shape_of a.kind a.label a.first a.second a.third) c.make.new.words c.in_err-make.field-0.0 c.in_err-make.ensures)

pub overflow_add-result : goal.overflow_add-result
overflow_add-result c =
    let a = c.args in
    omega (arith, new-few a.words.now a.count (shape_of a.kind a.label a.first a.second a.third) c.make.new.words no_refusal c.in_ok-make.ensures refl)

pub returns : goal.returns
returns c =
    let a = c.args in
    new-made a.words.now a.count (shape_of a.kind a.label a.first a.second a.third) c.make.new.words no_refusal c.in_ok-make.ensures refl
