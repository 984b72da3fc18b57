use native.Mathlib.Omega.{arith}
use mathlib.Core.Path.{sym, ap}
use lib.ListN.{length}
use Rattle.buffers.proofs.Decimal.{decimal-one, digits-log}
use Rattle.buffers.proofs.digits.Goals as goal

pub returns-then-n-ge10000 : goal.returns-then-n-ge10000
returns-then-n-ge10000 c = sym (digits-log c.ilog10.result c.args.n c.ilog10.ensures.power_le c.ilog10.ensures.next_power_gt)

pub returns-in-0-to-9 : goal.returns-in-0-to-9
returns-in-0-to-9 c = sym (ap length (decimal-one c.args.n (omega arith)))

pub returns-in-10-to-99 : goal.returns-in-10-to-99
returns-in-10-to-99 c = sym (digits-log 1 c.args.n (omega arith) (omega arith))

pub returns-in-100-to-999 : goal.returns-in-100-to-999
returns-in-100-to-999 c = sym (digits-log 2 c.args.n (omega arith) (omega arith))

pub returns-in_default : goal.returns-in_default
returns-in_default c = sym (digits-log 3 c.args.n (omega arith) (omega arith))
