use native.Mathlib.Omega.{arith}
use Rattle.buffers.proofs.Bytes.{puts_part}
use Rattle.buffers.proofs.put_number.Goals as goal

pub returns : goal.returns
returns c = let h = c.in-Some.ensures in puts_part (omega (arith, h.0, c.digits.ensures)) (omega (arith, h.1, c.digits.ensures)) c.put_digits.ensures
