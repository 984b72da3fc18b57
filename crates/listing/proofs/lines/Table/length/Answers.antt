use native.Mathlib.Omega.{arith}
use mathlib.Core.Path.{◌≡◌, sym, ◌∙◌, ap}
use Prim.Native.Nat.{ℕ, ◌<◌}
use mathlib.Core.List.{List}
use Rattle.buffers.proofs.Decimal.{digits-twenty}
use lib.ListN.{length, length-append}
use Rattle.expressions.specs.Words.{read_node, node_in, table_of}
use Rattle.expressions.specs.Soundness.{Fits, Sound}
use Rattle.expressions.proofs.Words.{length-table, table_at, node-whole}
use Rattle.expressions.proofs.Soundness.{fits-at}
use Rattle.listing.specs.Listing.{plain_label, node_line}
use Rattle.listing.proofs.Listing.{lines_to, lines_none, lines_more, answer-size, listing-size}
use Rattle.listing.proofs.Longest.{line-most}
use Rattle.listing.proofs.lines.Table.length.Goals as goal

pub loop-i-init : goal.loop-i-init
loop-i-init c = (sym (ap length (lines_none c.args.self.now.words.now)), omega arith)

-- a node that the loop comes to has the shape of one of a sound table
shape-fits : (words : List ℕ) (count answer i : ℕ) → Sound words count answer → i < count → Fits i (node_in words i).shape
shape-fits words count answer i s h =
    let t : i < length (table_of words count) = omega (arith, length-table words count) in
    rw (node-whole words i (omega (arith, s.roomy)) ∙ sym (table_at words count i h)) (fits-at (table_of words count) s.kept i t)

pub line_length-total-requires-clause-fits : goal.line_length-total-requires-clause-fits
line_length-total-requires-clause-fits c = rw c.node_at.ensures (shape-fits c.args.self.now.words.now c.args.self.now.count c.args.self.now.answer c.loop-i.i c.args.self.now.sound c.loop-i-test.true)

pub overflow_add-total : goal.overflow_add-total
overflow_add-total c =
    let w = c.args.self.now.words.now in
    let i = c.loop-i.i in
    let few = c.args.self.now.sound.few in
    let f = shape-fits w c.args.self.now.count c.args.self.now.answer i c.args.self.now.sound c.loop-i-test.true in
    omega (arith, rw c.node_at.ensures at c.line_length-total.ensures, line-most i (node_in w i).shape (omega arith) f)

pub loop-i-preserved : goal.loop-i-preserved
loop-i-preserved c =
    let w = c.args.self.now.words.now in
    let i = c.loop-i.i in
    let few = c.args.self.now.sound.few in
    let f = shape-fits w c.args.self.now.count c.args.self.now.answer i c.args.self.now.sound c.loop-i-test.true in
    let n = node-whole w i (omega (arith, c.args.self.now.sound.roomy)) in
    let e = rw c.node_at.ensures at c.line_length-total.ensures in (
      omega (arith, rw n at e, ap length (lines_more w i), length-append (lines_to w i) (node_line plain_label i (read_node w i).shape)),
      omega (arith, e, line-most i (node_in w i).shape (omega arith) f),
    )

pub overflow_add-result-2 : goal.overflow_add-result-2
overflow_add-result-2 c = omega (arith, c.args.self.now.sound.few, c.digits.ensures, digits-twenty c.args.self.now.answer (omega arith))

pub returns : goal.returns
returns c =
    let e : c.loop-i.i ≡ c.args.self.now.count = omega arith in
    omega (arith, rw e at c.loop-i.invariant.0, c.digits.ensures, answer-size c.args.self.now.answer, listing-size c.args.self.now.words.now c.args.self.now.count c.args.self.now.answer)
