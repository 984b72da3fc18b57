-- `expressions::measure` meets its contract: one law for each outcome.
use Rattle.std.proofs.Common.{rules, arith, ap, length, ◌∙◌}
use lib.ListN.{length-map}
use Rattle.expressions.specs.Words.{decode}
use Rattle.expressions.specs.Sizes.{sizes_of}
use Rattle.expressions.proofs.Words.{length-table}
use Rattle.expressions.proofs.Written.{measures-done}
use Rattle.expressions.proofs.measure.Goals as goal

pub fill-requires-clause-as_many : goal.fill-requires-clause-as_many
fill-requires-clause-as_many c =
    omega (arith, c.in-Some-split_at_mut_checked.ensures.cases.1, length-map c.in-Some.nodes.now decode, ap length c.in-Some.ensures.1, length-table c.args.words.now c.args.count)

pub returns : goal.returns
returns c =
    let a = c.args in
    let cut = c.in-Some-split_at_mut_checked.ensures.cases in
    measures-done a.words.now a.count a.answer a.scratch.now c.in-Some.ensures.0 (omega (arith, cut.4)) (c.fill.ensures ∙ ap sizes_of c.in-Some.ensures.1) (search rules)
