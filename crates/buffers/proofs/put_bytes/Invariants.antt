-- The bytes passed are written.
use Prim.Native.Nat.{◌+◌}
use lib.ListN.{take}
use Rattle.buffers.specs.Writing.{Wrote}
use Rattle.buffers.proofs.put_bytes.Given as goal

abbrev pub invariant-loop-i : goal.invariant-loop-i
invariant-loop-i l = Wrote l.initial.out l.at (take l.i l.bytes) l.out (l.at + l.i)
