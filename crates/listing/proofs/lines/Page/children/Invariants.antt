-- `Page::children` meets its contract. The invariant: the children passed are written.
use Rattle.std.proofs.Common.{◌≡◌, map}
use Rattle.buffers.specs.Decimal.{decimal}
use Rattle.listing.specs.Listing.{spaced}
use Rattle.listing.specs.Inside.{FitsThen}
use Rattle.listing.proofs.lines.Page.children.Given as goal

abbrev pub invariant-loop-child : goal.invariant-loop-child
invariant-loop-child l =
    record {
      same_bytes : l.self.out.ghost_name ≡ l.initial.self.out.ghost_name;
      wrote : FitsThen l.initial.self.out.now l.initial.self.at (spaced (map decimal (map (λ x. x.now) l.yielded))) l.self.out.now l.self.at;
    }
