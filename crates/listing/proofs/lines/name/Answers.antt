-- `lines::name` meets its contract for a number of no kind.
use native.Mathlib.Omega.{arith}
use Rattle.expressions.proofs.KindLaws.{other-kind}
use Rattle.listing.specs.Listing.{kind_name}
use Rattle.listing.proofs.lines.name.Goals as goal

pub returns-in_default : goal.returns-in_default
unfolding kind_name
returns-in_default c = rw (other-kind c.args.kind (omega arith))
