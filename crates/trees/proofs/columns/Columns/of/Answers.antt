use Prim.Native.Nat.{ℕ}
use mathlib.Core.Path.{◌≡◌, ap, ap₂, subst, ◌∙◌}
use mathlib.Core.List.{List}
use lib.ListN.{get_or, take, length-take}
use lib.Seq.{take_all}
use native.Mathlib.Omega.{arith}
use Rattle.automaton.specs.declared.Row.{Row}
use Rattle.automaton.specs.Held.{Rule}
use Rattle.automaton.specs.Answers.{held_by}
use Rattle.trees.specs.Columns.{Tabled, entered}
use Rattle.trees.proofs.Values.{row_at, rule_at, row-read, so-many-rows, row_inside, symbol-at, target_at_lem, symbol-small, aimed-at, source-small, need-at}
use Rattle.trees.proofs.Tabling.{table_none, table-next}
use Rattle.trees.proofs.columns.Columns.of.Goals as goal

pub shared_ref_as_front-rows : goal.shared_ref_as_front-rows
shared_ref_as_front-rows c = omega (arith, so-many-rows c.args.a.now, c.requires.few_rules)

pub loop-i-init : goal.loop-i-init
loop-i-init c = table_none

pub bounds-a-from : goal.bounds-a-from
bounds-a-from c =
    let a = c.args.a.now in
    let r = row-read a c.from.result c.loop-i.i c.from.ensures c.loop-i-test.true in
    rw (c.from-in-loop-i.ensures, r.1) (symbol-small a c.loop-i.i r.0 c.requires)

pub enter-requires : goal.enter-requires
enter-requires c =
    let a = c.args.a.now in
    let i = c.loop-i.i in
    let r = row-read a c.from.result i c.from.ensures c.loop-i-test.true in
    record {
      i_lt_most_rows = omega (arith, r.0, so-many-rows a, c.requires.few_rules);
      symbol_lt_most_symbols = rw r.1 (symbol-small a i r.0 c.requires);
      target_lt_state_width = rw r.1 (aimed-at a i r.0 c.requires);
      by_index = rw (c.from-in-loop-i.ensures, r.1) (source-small a i r.0 c.requires);
    }

pub loop-i-preserved : goal.loop-i-preserved
unfolding rule_at
loop-i-preserved c =
    let a = c.args.a.now in
    let i = c.loop-i.i in
    let v = c.requires in
    let r = row-read a c.from.result i c.from.ensures c.loop-i-test.true in
    let h = r.0 in
    let arity = c.from-in-loop-i.ensures ∙ ap (λ (row : Row). row.symbol) r.1 in
    table-next (held_by a).rules i _ c.loop-i.columns _ (row_at a i) (get_or a.arities (row_at a i).symbol 0) (row_inside a i h) v.few_rules (symbol-small a i h v)
    (symbol-at a i h) (target_at_lem a i h) (need-at a i h v) c.enter.ensures.whole
    (c.enter.ensures.made ∙ ap₂ (λ (row : Row) (f : ℕ). entered i row (get_or a.arities f 0) c.loop-i.columns) r.1 arity) c.loop-i.invariant

pub returns : goal.returns
returns c =
    let a = c.args.a.now in
    let all : take c.loop-i.i (held_by a).rules ≡ (held_by a).rules = take_all c.loop-i.i (held_by a).rules (omega (arith, so-many-rows a, c.requires.few_rules, length-take c.from.result a.rows)) in
    subst (λ (rules : List Rule). Tabled rules c.loop-i.columns) all c.loop-i.invariant
