-- `Table::fits_in` meets its contract where the longest lines fit.
use native.Mathlib.Omega.{arith}
use borrow.Author.Tests.{le-leb}
use Rattle.ground.proofs.Deciding.{decides-yes}
use Rattle.listing.proofs.Longest.{listing-bound}
use Rattle.listing.proofs.lines.Table.fits_in.Goals as goal

pub returns-then-self-room : goal.returns-then-self-room
returns-then-self-room c =
    rw (le-leb _ _ c.if-self-room.true) (decides-yes (omega (arith, listing-bound c.args.self.now.words.now c.args.self.now.count c.args.self.now.answer c.args.self.now.sound)))
