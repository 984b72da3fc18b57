-- `Page::answer` meets its contract: the parts of the last line, one after the other.
use Rattle.buffers.proofs.Bytes.{fits-then}
use Rattle.listing.proofs.Listing.{answer-parts}
use Rattle.listing.proofs.lines.Page.answer.Goals as goal

pub returns-clause-wrote : goal.returns-clause-wrote
returns-clause-wrote c = rw (answer-parts c.args.answer) (fits-then c.put.ensures.wrote (fits-then c.number.ensures.wrote c.put-2.ensures.wrote))
