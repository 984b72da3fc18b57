-- `printed` meets its contract: one law for each way to an answer.
use Rattle.std.proofs.Common.{ap, refl}
use Rattle.automaton.specs.Refusals.{number_of}
use Rattle.automaton.proofs.Refusing.{number-some}
use Rattle.automaton.proofs.Handing.{number-short}
use Rattle.elimination.specs.Answers.{refused_whole}
use Rattle.front.proofs.Outcomes.{prints-no-nodes, prints-refused, prints-no-bytes, prints-listed}
use Rattle.front.proofs.printed.Goals as goal

pub returns-in_default : goal.returns-in_default
returns-in_default c =
    prints-no-bytes c.args.file.now c.args.nodes.now c.convert.new.nodes _ c.in-Ok.ensures refl
    c.args.out.now c.list.new.out _ c.in_default.ensures
    c.zero.new.words c.zero.ensures c.convert.auto.nodes (number-some c.in_default.field-0)

pub returns-in-Ok-list : goal.returns-in-Ok-list
returns-in-Ok-list c =
    prints-listed c.args.file.now c.args.nodes.now c.convert.new.nodes _ c.in-Ok.ensures refl
    c.args.out.now c.list.new.out _ c.in-Ok-list.ensures refl

pub returns-in-Short : goal.returns-in-Short
unfolding refused_whole
returns-in-Short c =
    let six = ap number_of c.in-Short.is in
    rw c.in-Short.is (prints-no-nodes c.args.file.now c.args.nodes.now c.convert.new.nodes _ c.in-Err.ensures c.args.out.now six)

pub returns-in_default-reason : goal.returns-in_default-reason
unfolding refused_whole
returns-in_default-reason c =
    let reason = c.in-Err.reason in
    prints-refused c.args.file.now c.args.nodes.now c.convert.new.nodes _ c.in-Err.ensures (number-some reason) (λ six. c.in_default-reason.not-Short (number-short reason six))
    c.refuse.new.nodes c.args.out.now c.refuse.new.out _ c.refuse.ensures
