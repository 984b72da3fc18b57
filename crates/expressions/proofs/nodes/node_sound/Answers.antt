-- `nodes::node_sound` meets its contract.
use Rattle.std.proofs.Common.{arith}
use lib.ListN.{length-map}
use Rattle.expressions.specs.Words.{decode}
use Rattle.expressions.specs.Inside.{nodes_of}
use Rattle.ground.proofs.Deciding.{refuted}
use Rattle.expressions.proofs.Checks.{node-unfit, node-decided}
use Rattle.expressions.proofs.nodes.node_sound.Goals as goal

pub returns-then-shape_fits : goal.returns-then-shape_fits
returns-then-shape_fits c h =
    let e = c.nth-node.ensures in
    let f = c.shape_fits.ensures.only c.if-shape_fits.true in
    rw e (node-decided (nodes_of c.args.nodes.now) c.args.i (omega (arith, length-map c.args.nodes.now decode)) (rw e at f) (rw e at c.open_of.ensures))

pub returns-else-shape_fits : goal.returns-else-shape_fits
returns-else-shape_fits c h =
    let e = c.nth-node.ensures in
    rw c.if-shape_fits.false
    (node-unfit (nodes_of c.args.nodes.now) c.args.i (omega (arith, length-map c.args.nodes.now decode)) (rw e at (refuted c.shape_fits.ensures c.if-shape_fits.false)))
