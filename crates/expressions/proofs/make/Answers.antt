-- `expressions::make` meets its contract where the node is made.
use native.Mathlib.Omega.{arith}
use mathlib.Core.Path.{◌≡◌, refl, ◌∙◌, ap}
use Rattle.expressions.specs.Nodes.{shape_of, node_at}
use Rattle.expressions.specs.Words.{table_of, put_node}
use Rattle.expressions.specs.Soundness.{opens_in, completed}
use Rattle.expressions.proofs.Words.{put-part}
use Rattle.expressions.proofs.Chunks.{table-front}
use Rattle.expressions.proofs.Checks.{makes-done}
use Rattle.expressions.proofs.make.Goals as goal

pub returns : goal.returns
unfolding completed
returns c =
    let a = c.args in
    let w = a.words.now in
    let shape = shape_of a.kind a.label a.first a.second a.third in
    let cut = c.in-Some.ensures.cases in
    let chunk = c.in-Some-first_chunk_mut.ensures.cases in
    let o : c.open_of-opens.result ≡ opens_in (λ i. (node_at (table_of w a.count) i).opens) shape = rw (c.as_chunks.ensures.front, table-front w a.count cut.2 cut.1) at c.open_of-opens.ensures in
    makes-done w a.count shape _ (c.shape_fits.ensures.only c.if-not-shape_fits.false) (record { few = omega arith; roomy = omega (arith, cut.4, chunk.enough) })
    (rw (cut.2, cut.3) (put-part w a.count (record { shape = shape; opens = c.open_of-opens.result }) refl c.words.ensures)
    ∙ ap (put_node w a.count) (λ x. record { shape = shape; opens = o x }))
