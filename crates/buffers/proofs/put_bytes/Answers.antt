use native.Mathlib.Omega.{arith}
use mathlib.Core.Path.{◌≡◌, refl}
use lib.ListN.{length}
use lib.Seq.{take-length}
use Rattle.buffers.proofs.Bytes.{wrote-more}
use Rattle.buffers.proofs.put_bytes.Goals as goal

pub loop-i-init : goal.loop-i-init
loop-i-init c = record { bytes_there = refl; next_place = refl }

pub loop-i-preserved : goal.loop-i-preserved
loop-i-preserved c =
    let a = c.args in
    let l = c.loop-i in
    wrote-more a.out.now a.bytes.now a.at l.i l.out c.loop-i-test.true l.invariant

pub returns : goal.returns
returns c =
    let a = c.args in
    let h = c.in-Some.ensures in
    let e : c.loop-i.i ≡ length a.bytes.now = omega arith in
    let w = rw (e, take-length a.bytes.now) at c.loop-i.invariant in
    record { fits = λ _. record { bytes_there = w.bytes_there; next_place = h.1 }; short = λ s. absurd (omega (arith, h.0)) }
