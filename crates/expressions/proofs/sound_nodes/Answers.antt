-- `expressions::sound_nodes` meets its contract.
use native.Mathlib.Omega.{arith}
use mathlib.Core.Path.{◌≡◌, ◌∙◌, ap}
use native.Mathlib.Nat.{sub-zero}
use Rattle.ground.proofs.Deciding.{refuted}
use Rattle.expressions.specs.Words.{table_of}
use Rattle.expressions.specs.Inside.{nodes_of}
use Rattle.expressions.proofs.Chunks.{table-chunks}
use Rattle.expressions.proofs.sound_nodes.Goals as goal
use Rattle.expressions.proofs.sound_nodes.Goals.{else-count-le-MOST_NODES-via-then-count-le-MOST_NODES+then-answer-count+else-all_sound, else-count-le-MOST_NODES-via-then-count-le-MOST_NODES+else-answer-count, else-count-le-MOST_NODES-via-else-count-le-MOST_NODES}

pub returns-then-all_sound : goal.returns-then-all_sound
returns-then-all_sound c =
    let l = c.in_ok-nodes.ensures.lookup.0 in
    let e : nodes_of c.in_ok-nodes.nodes.now ≡ table_of c.args.words.now c.args.count =
    ap nodes_of (l.2 ∙ rw (c.as_chunks.ensures.front, sub-zero)) ∙ table-chunks c.args.words.now c.args.count (omega (arith, l.1, c.as_chunks.ensures.front_len)) in
    (record { some = omega arith; few = omega arith; roomy = omega (arith, l.1, c.as_chunks.ensures.front_len); within = omega arith; kept = rw e at (c.all_sound.ensures.only c.if-all_sound.true) }, e)

pub returns-else-count-le-MOST_NODES : goal.returns-else-count-le-MOST_NODES
returns-else-count-le-MOST_NODES c s =
    elim c.else-count-le-MOST_NODES.branch [
      | else-count-le-MOST_NODES-via-then-count-le-MOST_NODES+then-answer-count+else-all_sound w ↦
          let l = c.in_ok-nodes.ensures.lookup.0 in
          let e : nodes_of c.in_ok-nodes.nodes.now ≡ table_of c.args.words.now c.args.count =
          ap nodes_of (l.2 ∙ rw (c.as_chunks.ensures.front, sub-zero)) ∙ table-chunks c.args.words.now c.args.count (omega (arith, l.1, c.as_chunks.ensures.front_len)) in
          refuted w.all_sound.ensures w.if-all_sound.false (rw e s.kept)
      | else-count-le-MOST_NODES-via-then-count-le-MOST_NODES+else-answer-count w ↦ absurd (omega arith)
      | else-count-le-MOST_NODES-via-else-count-le-MOST_NODES w ↦ absurd (omega arith)
    ]
