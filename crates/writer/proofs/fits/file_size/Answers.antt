use Rattle.std.proofs.Common.{rules, arith, ◌≡◌, ◌≤◌, length, take, length-take-le, sym, ◌∙◌}
use Rattle.ground.proofs.Deciding.{refuted}
use Rattle.writer.proofs.Fitting.{all-decides, states-few, states-many, finals-past, symbols-few, symbols-many, rows-many, arities-wide, rows-unfit, file-fits}
use Rattle.writer.proofs.fits.file_size.Goals as goal
use Rattle.writer.proofs.fits.file_size.Goals.{then-value-lt1-via-then-value-lt1, then-value-lt1-via-else-value-lt1+then-value-gt-MOST_STATES, then-value-lt1-via-else-value-lt1+else-value-gt-MOST_STATES+then-past, then-value-lt1-2-via-then-value-lt1-2, then-value-lt1-2-via-else-value-lt1-2+then-value-gt-MOST_SYMBOLS, then-value-lt1-2-via-else-value-lt1-2+else-value-gt-MOST_SYMBOLS+then-value-gt-MOST_ROWS}

pub returns-then-value-lt1 : goal.returns-then-value-lt1
returns-then-value-lt1 c =
    let value = c.args.value.now in
    elim c.then-value-lt1.branch [
      | then-value-lt1-via-then-value-lt1 w ↦ states-few value w.if-value-lt1.true
      | then-value-lt1-via-else-value-lt1+then-value-gt-MOST_STATES w ↦ states-many value w.if-value-gt-MOST_STATES.true
      | then-value-lt1-via-else-value-lt1+else-value-gt-MOST_STATES+then-past w ↦ finals-past value (sym w.past.ensures ∙ w.if-past.true)
    ]

pub returns-then-value-lt1-2 : goal.returns-then-value-lt1-2
returns-then-value-lt1-2 c =
    let value = c.args.value.now in
    elim c.then-value-lt1-2.branch [
      | then-value-lt1-2-via-then-value-lt1-2 w ↦ symbols-few value w.if-value-lt1-2.true
      | then-value-lt1-2-via-else-value-lt1-2+then-value-gt-MOST_SYMBOLS w ↦ symbols-many value w.if-value-gt-MOST_SYMBOLS.true
      | then-value-lt1-2-via-else-value-lt1-2+else-value-gt-MOST_SYMBOLS+then-value-gt-MOST_ROWS w ↦ rows-many value w.if-value-gt-MOST_ROWS.true
    ]

pub returns-then-not-all : goal.returns-then-not-all
returns-then-not-all c =
    let value = c.args.value.now in
    let symbols : length value.arities ≡ 32 = search rules in
    let rows : length value.rows ≡ 64 = search rules in
    arities-wide value (omega arith) (omega arith)
    (refuted (rw c.from.ensures at (all-decides (λ a. a ≤ 3) (take c.from.result value.arities) c.all.result (search rules))) c.if-not-all.true)

pub rows_size-requires-clause-all : goal.rows_size-requires-clause-all
rows_size-requires-clause-all c = (all-decides (λ a. a ≤ 3) (take c.from.result c.args.value.now.arities) c.all.result (search rules)).only c.if-not-all.false

pub returns-in_err-length : goal.returns-in_err-length
returns-in_err-length c =
    let value = c.args.value.now in
    let symbols : length value.arities ≡ 32 = search rules in
    let rows : length value.rows ≡ 64 = search rules in
    rw c.from_residual.ensures (rows-unfit value (omega arith) (omega arith) (rw (c.from.ensures, c.from-2.ensures) at c.in_err-length.ensures))

pub returns : goal.returns
returns c =
    let value = c.args.value.now in
    let symbols : length value.arities ≡ 32 = search rules in
    let rows : length value.rows ≡ 64 = search rules in
    let small = (all-decides (λ a. a ≤ 3) (take c.from.result value.arities) c.all.result (search rules)).only c.if-not-all.false in
    rw (c.from.ensures, length-take-le value.symbols value.arities (omega arith))
    (file-fits value (omega arith) (omega arith) c.if-value-lt1.false c.if-value-gt-MOST_STATES.false (sym c.past.ensures ∙ c.if-past.false)
    c.if-value-lt1-2.false c.if-value-gt-MOST_SYMBOLS.false c.if-value-gt-MOST_ROWS.false (rw c.from.ensures at small) c.in_ok-length.length
    (rw (c.from.ensures, c.from-2.ensures) at c.in_ok-length.ensures))
