use Rattle.std.proofs.Common.{arith, ◌≡◌, ◌<◌, ◌∙◌, sym, ap, ℕ, [], length}
use lib.ListN.{set, length-map}
use Rattle.std.proofs.lemmas.List.{get_or-map}
use Rattle.expressions.specs.Nodes.{no_node}
use Rattle.expressions.specs.Words.{decode}
use Rattle.expressions.specs.Inside.{nodes_of}
use Rattle.expressions.proofs.Soundness.{fits-at}
use Rattle.expressions.proofs.Written.{so-far-none, so-far-all, so_far_more}
use Rattle.expressions.proofs.sizes.fill.Goals as goal

pub loop-i-init : goal.loop-i-init
loop-i-init c = so-far-none (nodes_of c.args.nodes.now) c.args.sizes.now

pub loop-i-preserved : goal.loop-i-preserved
loop-i-preserved c =
    let i = c.loop-i.i in
    let table = nodes_of c.args.nodes.now in
    let h : i < length table = omega (arith, length-map c.args.nodes.now decode) in
    let e = c.of_words.ensures ∙ sym (get_or-map decode c.args.nodes.now i [] no_node (omega arith)) in
    ap (λ (x : ℕ). set c.loop-i.sizes i x) (rw e at c.size_at.ensures)
    ∙ rw c.loop-i.invariant (so_far_more table c.args.sizes.now i h (fits-at table c.requires.sound i h) c.loop-i-test.true)

pub returns : goal.returns
returns c =
    let e : c.loop-i.i ≡ length c.args.sizes.now = omega arith in
    c.loop-i.invariant ∙ rw e (so-far-all (nodes_of c.args.nodes.now) c.args.sizes.now (omega (arith, length-map c.args.nodes.now decode)))
