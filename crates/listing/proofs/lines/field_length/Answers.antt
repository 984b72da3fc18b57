-- `lines::field_length` meets its contract.
use native.Mathlib.Omega.{arith}
use Rattle.buffers.proofs.Decimal.{digits-twenty}
use Rattle.listing.proofs.lines.field_length.Goals as goal

pub overflow_add-result : goal.overflow_add-result
overflow_add-result c = let e = rw c.from.ensures at c.digits.ensures in omega (arith, digits-twenty c.args.n (omega arith))

pub returns : goal.returns
returns c = let e = rw c.from.ensures at c.digits.ensures in omega arith
