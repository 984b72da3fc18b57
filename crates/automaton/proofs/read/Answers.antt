use Rattle.std.proofs.Common.{rules, arith}
use Rattle.std.proofs.lemmas.Result.{err_from_is_err_and}
use Rattle.automaton.specs.Checks.{given}
use Rattle.automaton.proofs.Finding.Whole.{read-start, first-refused, few-symbols, next-refused, no-head, symbol-long, symbol-refused, symbol-next, row-two, row-five, row-refused, row-next, read-done, read-past}
use Rattle.automaton.proofs.read.Goals as goal
use Rattle.automaton.proofs.read.Goals.{in-Symbol+in_ok-add_symbol-in-Symbol, in-Row+in_ok-add_row-in-Row}

pub returns-in_err-states : goal.returns-in_err-states
returns-in_err-states c =
    let p = err_from_is_err_and c.from_residual.result c.from_residual.ensures.1 in
    rw (p.1, p.2) (first-refused c.args.file.now _ c.in_err-states.ensures)

pub loop-record-init : goal.loop-record-init
loop-record-init c = rw c.no_rows.ensures (read-start c.args.file.now c.in_ok-states.states c.in_ok-states.finals c.in_ok-states.rest.now c.in_ok-states.ensures)

pub returns-in_err-record : goal.returns-in_err-record
returns-in_err-record c =
    let s = c.loop-record.invariant in
    let p = err_from_is_err_and c.from_residual-in_err-record.result c.from_residual-in_err-record.ensures.1 in
    rw (p.1, p.2) (next-refused _ _ _ s _ (c.in_err-record.ensures (given s.held) (λ kind yes post. search (rules, post))))

pub unreachable-requires : goal.unreachable-requires
unreachable-requires c = let s = c.loop-record.invariant in no-head _ _ _ s _ _ _ (c.in_ok-record.ensures (given s.held) (λ kind yes post. search (rules, post))) c.in-Head.is

pub add_symbol-requires : goal.add_symbol-requires
add_symbol-requires c = let s = c.loop-record.invariant in symbol-long _ _ _ s _ _ _ (c.in_ok-record.ensures (given s.held) (λ kind yes post. search (rules, post))) c.in-Symbol.is

pub returns-in_err-add_symbol-in-Symbol : goal.returns-in_err-add_symbol-in-Symbol
returns-in_err-add_symbol-in-Symbol c =
    let s = c.loop-record.invariant in
    let p = err_from_is_err_and c.from_residual-in_err-add_symbol-in-Symbol.result c.from_residual-in_err-add_symbol-in-Symbol.ensures.1 in
    rw (p.1, p.2)
    (symbol-refused _ _ _ s _ _ _ (c.in_ok-record.ensures (given s.held) (λ kind yes post. search (rules, post))) c.in-Symbol.is _ (c.in_err-add_symbol-in-Symbol.ensures s.held s.says))

pub add_row-requires-clause-few : goal.add_row-requires-clause-few
add_row-requires-clause-few c = few-symbols _ _ _ c.loop-record.invariant

pub add_row-requires-clause-two : goal.add_row-requires-clause-two
add_row-requires-clause-two c = let s = c.loop-record.invariant in row-two _ _ _ s _ _ _ (c.in_ok-record.ensures (given s.held) (λ kind yes post. search (rules, post))) c.in-Row.is

pub add_row-requires-clause-five : goal.add_row-requires-clause-five
add_row-requires-clause-five c = let s = c.loop-record.invariant in row-five _ _ _ s _ _ _ (c.in_ok-record.ensures (given s.held) (λ kind yes post. search (rules, post))) c.in-Row.is

pub returns-in_err-add_row-in-Row : goal.returns-in_err-add_row-in-Row
returns-in_err-add_row-in-Row c =
    let s = c.loop-record.invariant in
    let p = err_from_is_err_and c.from_residual-in_err-add_row-in-Row.result c.from_residual-in_err-add_row-in-Row.ensures.1 in
    rw (p.1, p.2)
    (row-refused _ _ _ s _ _ _ (c.in_ok-record.ensures (given s.held) (λ kind yes post. search (rules, post))) c.in-Row.is _ (c.in_err-add_row-in-Row.ensures s.held s.says))

pub returns-in-End : goal.returns-in-End
returns-in-End c =
    let s = c.loop-record.invariant in
    read-done _ _ _ s _ _ _ (c.in_ok-record.ensures (given s.held) (λ kind yes post. search (rules, post))) c.in-End.is (cc)

pub returns-in-End-2 : goal.returns-in-End-2
returns-in-End-2 c =
    let s = c.loop-record.invariant in
    read-past _ _ _ s _ _ _ (c.in_ok-record.ensures (given s.held) (λ kind yes post. search (rules, post))) c.in-End-2.is (cc)

pub loop-record-smaller : goal.loop-record-smaller
loop-record-smaller c =
    let s = c.loop-record.invariant in
    omega (arith, (c.in_ok-record.ensures (given s.held) (λ kind yes post. search (rules, post))).shorter)

pub loop-record-preserved : goal.loop-record-preserved
loop-record-preserved c =
    let s = c.loop-record.invariant in
    let read = c.in_ok-record.ensures (given s.held) (λ kind yes post. search (rules, post)) in
    elim c.match-record.branch [
      | in-Symbol+in_ok-add_symbol-in-Symbol w ↦ rw w.found-is (symbol-next _ _ _ s _ _ _ read w.in-Symbol.is _ (w.in_ok-add_symbol-in-Symbol.ensures s.held s.says))
      | in-Row+in_ok-add_row-in-Row w ↦ rw w.found-is (row-next _ _ _ s _ _ _ read w.in-Row.is _ (w.in_ok-add_row-in-Row.ensures s.held s.says))
    ]
