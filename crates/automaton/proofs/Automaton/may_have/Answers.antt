use mathlib.Core.Logic.{inl, inr}
use Rattle.automaton.proofs.Finding.Growing.{may-head, may-symbol, may-row, may-end}
use Rattle.automaton.proofs.Automaton.may_have.Goals as goal

pub returns-in-Head : goal.returns-in-Head
returns-in-Head c = λ held s. rw c.in-Head.is (may-head held c.args.self.now s)

pub returns-in-Symbol : goal.returns-in-Symbol
returns-in-Symbol c = λ held s. rw c.in-Symbol.is (may-symbol held c.args.self.now s)

pub returns-in-Row : goal.returns-in-Row
returns-in-Row c = λ held s. elim c.in-Row.is [ inl e ↦ rw e (may-row held c.args.self.now s) | inr e ↦ rw e (may-end held c.args.self.now s) ]
