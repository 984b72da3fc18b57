use Prim.Native.Nat.{◌<◌}
use mathlib.Core.Path.{◌≡◌}
use lib.ListN.{drop, take}
use Rattle.buffers.specs.Decimal.{decimal}
use Rattle.buffers.proofs.put_digits.Given as goal

-- from the place on the digits stand, and those before it are the digits of what is left
abbrev pub invariant-loop-place : goal.invariant-loop-place
invariant-loop-place l = record { there : drop l.place l.part ≡ drop l.place (decimal l.n); ahead : 0 < l.place → decimal l.left ≡ take l.place (decimal l.n) }
