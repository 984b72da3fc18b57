use Rattle.elimination.proofs.Starting.{RuleLoop}
use Rattle.elimination.proofs.start.put_rules.Given as goal

abbrev pub invariant-loop-rule : goal.invariant-loop-rule
invariant-loop-rule l = RuleLoop l.fn.given.value l.fn.words l.fn.begun l.words l.count l.list l.rule-index
