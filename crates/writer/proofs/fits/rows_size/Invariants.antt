use Rattle.std.proofs.Common.{take}
use Rattle.writer.specs.Inside.{RowsFit}
use Rattle.writer.proofs.fits.rows_size.Given as goal

abbrev pub invariant-loop-row : goal.invariant-loop-row
invariant-loop-row l = RowsFit l.states l.arities (take l.row-index l.rows) l.length
