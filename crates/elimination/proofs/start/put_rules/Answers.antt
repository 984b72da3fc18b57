use Rattle.std.proofs.lemmas.Result.{err_from_is_err_and}
use Rattle.elimination.proofs.Starting.{rule-arity, rule-symbol, rules-end, rules-full, rules-next, rules-start}
use Rattle.elimination.proofs.start.put_rules.Goals as goal

pub loop-rule-init : goal.loop-rule-init
loop-rule-init c =
    let a = c.args in
    let given = a.given.now in
    let items = c.rules-rule-items in
    rw c.new-list.ensures (rules-start given.value given.handed items.result.now items.ensures a.words.now a.begun)

pub rule_shape-kind-requires : goal.rule_shape-kind-requires
rule_shape-kind-requires c =
    let given = c.args.given.now in
    let items = c.rules-rule-items in
    let l = c.loop-rule in
    record {
      symbol_lt_most_symbols = rule-symbol given.value given.handed items.result.now items.ensures l.rule-index c.loop-rule-test.true;
      symbol_bound = rule-arity given.value given.handed items.result.now items.ensures l.rule-index c.loop-rule-test.true;
    }

pub returns-in_err-got : goal.returns-in_err-got
returns-in_err-got c =
    let a = c.args in
    let given = a.given.now in
    let items = c.rules-rule-items in
    let l = c.loop-rule in
    let shape = c.rule_shape-kind in
    let p = err_from_is_err_and c.from_residual.result c.from_residual.ensures.1 in
    rw (p.1, p.2)
    (rules-full given.value given.handed items.result.now items.ensures a.words.now a.begun l.words l.count l.list l.rule-index l.invariant c.loop-rule-test.true shape.result shape.ensures c.new_node.new.words c.in_err-got.field-0.0 c.in_err-got.ensures)

pub loop-rule-preserved : goal.loop-rule-preserved
loop-rule-preserved c =
    let a = c.args in
    let given = a.given.now in
    let items = c.rules-rule-items in
    let l = c.loop-rule in
    let shape = c.rule_shape-kind in
    rw c.push.ensures
    (rules-next given.value given.handed items.result.now items.ensures a.words.now a.begun l.words l.count l.list l.rule-index l.invariant c.loop-rule-test.true shape.result shape.ensures c.new_node.new.words c.in_ok-got.got c.in_ok-got.ensures c.row.result c.row.ensures)

pub returns : goal.returns
returns c =
    let a = c.args in
    let given = a.given.now in
    let items = c.rules-rule-items in
    let l = c.loop-rule in
    rules-end given.value given.handed items.result.now items.ensures a.words.now a.begun l.words l.count l.list l.rule-index l.invariant c.loop-rule-test.false
