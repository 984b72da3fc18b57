-- `Table::length` meets its contract. The invariant: the total is the length of the lines passed.
use mathlib.Core.Path.{◌≡◌}
use Prim.Native.Nat.{◌*◌, ◌≤◌}
use lib.ListN.{length}
use Rattle.listing.proofs.Listing.{lines_to}
use Rattle.listing.proofs.lines.Table.length.Given as goal

abbrev pub invariant-loop-i : goal.invariant-loop-i
invariant-loop-i l = (l.total ≡ length (lines_to l.self.words.now l.i)) × (l.total ≤ 30 * l.i)
