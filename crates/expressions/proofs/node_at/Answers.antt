-- `expressions::node_at` meets its contract.
use mathlib.Core.Path.{◌∙◌}
use Rattle.expressions.proofs.Chunks.{node-chunk}
use Rattle.expressions.proofs.node_at.Goals as goal

pub returns : goal.returns
returns c = rw c.as_chunks.ensures.front at c.nth.ensures ∙ node-chunk c.args.words.now c.args.i
