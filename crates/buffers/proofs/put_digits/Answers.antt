use native.Mathlib.Omega.{arith}
use Prim.Native.Nat.{◌-◌}
use Rattle.buffers.specs.Decimal.{decimal}
use Rattle.buffers.proofs.Decimal.{digits_more}
use Rattle.buffers.proofs.put_digits.Goals as goal

pub loop-place-preserved : goal.loop-place-preserved
loop-place-preserved c =
    let l = c.loop-place in
    let r = digits_more (decimal c.args.n) l.part l.left l.place (l.place - 1) (omega arith) (omega arith) (omega arith) l.invariant.there (l.invariant.ahead c.loop-place-test.true) in
    rw c.last_digit.ensures (record { there = r.0; ahead = r.1 })
