use native.Mathlib.Omega.{arith}
use mathlib.Core.Path.{◌≡◌, refl, ◌∙◌, ap}
use Prim.Native.Nat.{ℕ}
use mathlib.Core.List.{List}
use Rattle.std.proofs.Common.{rules}
use Rattle.buffers.specs.Writing.{Wrote}
use lib.ListN.{length}
use lib.Seq.{length-sets}
use Rattle.buffers.proofs.Bytes.{wrote_none, wrote_then}
use Rattle.expressions.proofs.Words.{node-whole}
use Rattle.listing.proofs.Listing.{lines_to, listing-parts, line-room, lines_none, lines_more, listing-size}
use Rattle.listing.proofs.lines.Table.put.Goals as goal

pub loop-i-init : goal.loop-i-init
loop-i-init c = record { same_bytes = refl; wrote = rw (lines_none c.args.self.now.words.now) (wrote_none _ 0) }

pub loop-i-preserved : goal.loop-i-preserved
loop-i-preserved c =
    let l = c.loop-i in
    let w = c.args.self.now.words.now in
    let t = c.loop-i-test.true in
    let n = node-whole w l.i (omega (arith, c.args.self.now.sound.roomy)) in
    let put = rw (c.node_at.ensures, n) at c.line.ensures.wrote in
    let size = ap length l.invariant.wrote.bytes_there ∙ length-sets c.args.out.now 0 (lines_to w l.i) in
    record {
      same_bytes = c.line.ensures.same_bytes ∙ l.invariant.same_bytes;
      wrote = rw (lines_more w l.i) (wrote_then l.invariant.wrote (put (omega (arith, l.invariant.wrote.next_place, line-room w c.args.self.now.count c.args.self.now.answer l.i t, c.requires, size))));
    }

-- the bytes are those that the page had last
ended : {before bytes last after : List ℕ} {at next : ℕ} → after ≡ last → Wrote before at bytes last next → Wrote before at bytes after next
ended e w = rw e w

pub returns : goal.returns
returns c =
    let l = c.loop-i in
    let e : l.i ≡ c.args.self.now.count = omega arith in
    let w = rw e at l.invariant.wrote in
    let size = ap length w.bytes_there ∙ length-sets c.args.out.now 0 (lines_to c.args.self.now.words.now c.args.self.now.count) in
    ended {last = c.answer.new.self.out.now} (search rules)
    (rw (listing-parts c.args.self.now.words.now c.args.self.now.count c.args.self.now.answer)
    (wrote_then w (c.answer.ensures.wrote (omega (arith, w.next_place, listing-size c.args.self.now.words.now c.args.self.now.count c.args.self.now.answer, c.requires, size)))))
