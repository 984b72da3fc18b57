-- `Table::put` meets its contract. The invariant: the lines passed are written.
use Rattle.std.proofs.Common.{◌≡◌}
use Rattle.buffers.specs.Writing.{Wrote}
use Rattle.listing.proofs.Listing.{lines_to}
use Rattle.listing.proofs.lines.Table.put.Given as goal

abbrev pub invariant-loop-i : goal.invariant-loop-i
invariant-loop-i l =
    record {
      same_bytes : l.page.out.ghost_name ≡ l.initial.page.out.ghost_name;
      wrote : Wrote l.initial.page.out.now 0 (lines_to l.self.words.now l.i) l.page.out.now l.page.at;
    }
