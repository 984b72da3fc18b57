-- `nodes::all_sound` meets its contract.
use Rattle.std.proofs.Common.{rules, ◌<◌, arith, length, take, sym, refl, true, false}
use lib.ListN.{length-map}
use Rattle.ground.specs.Decides.{Decides}
use Rattle.std.proofs.lemmas.Iterator.{cases_from_all, YieldsList-from_range}
use Rattle.ground.proofs.Deciding.{refuted}
use Rattle.expressions.specs.Nodes.{node_at}
use Rattle.expressions.specs.Words.{decode}
use Rattle.expressions.specs.Soundness.{SoundNode}
use Rattle.expressions.specs.Inside.{nodes_of}
use Rattle.expressions.proofs.Checks.{sound-decided}
use Rattle.expressions.proofs.nodes.all_sound.Goals as goal

pub returns : goal.returns
returns c =
    let table = nodes_of c.args.nodes.now in
    let n = length c.args.nodes.now in
    sound-decided table (sym (length-map c.args.nodes.now decode)) c.all.result
    (cases_from_all _ _ _ (λ i. i < n → SoundNode (take i table) (node_at table i)) (λ i. i < n → SoundNode (take i table) (node_at table i) → ⊥) c.all.ensures.ran
    (YieldsList-from_range 0 n n (cc) (omega arith))
    (λ x q k. (search rules, λ l. let d : x < n → Decides (SoundNode (take x table) (node_at table x)) true = search rules in (d l).only refl))
    (λ x q k l. let d : x < n → Decides (SoundNode (take x table) (node_at table x)) false = search rules in refuted (d l) refl))
