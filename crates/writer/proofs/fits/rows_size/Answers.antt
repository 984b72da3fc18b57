use Rattle.std.proofs.Common.{[]}
use Rattle.writer.proofs.Fitting.{rows-none, rows-more, row-valid}
use Rattle.writer.proofs.fits.rows_size.Goals as goal

pub loop-row-init : goal.loop-row-init
loop-row-init c = rows-none c.args.states c.args.arities.now

pub returns-in_err-length : goal.returns-in_err-length
returns-in_err-length c =
    let a = c.args in
    rw c.from_residual.ensures
    (λ valid. c.in_err-length.ensures (row-valid a.states a.arities.now a.rows.now c.loop-row.row-index (record { symbol = 0; target = 0; sources = [] }) c.loop-row-test.true valid))

pub loop-row-preserved : goal.loop-row-preserved
loop-row-preserved c =
    let a = c.args in
    rows-more a.states a.arities.now a.rows.now c.loop-row.row-index (record { symbol = 0; target = 0; sources = [] }) c.loop-row.length _ c.loop-row-test.true c.loop-row.invariant c.in_ok-length.ensures
