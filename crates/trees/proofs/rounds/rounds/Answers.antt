use mathlib.Core.Bool.{false≢true}
use mathlib.Core.Path.{sym, subst, ◌∙◌}
use Rattle.automaton.specs.Held.{Held}
use Rattle.trees.specs.Columns.{Ready}
use Rattle.sets.proofs.Bits.{has-zero}
use Rattle.trees.proofs.Producing.{round-productive, round-all, grows}
use native.Mathlib.Omega.{arith}
use Rattle.trees.proofs.rounds.rounds.Goals as goal

pub loop-have-init : goal.loop-have-init
loop-have-init c = λ q e. absurd (false≢true (sym (has-zero q) ∙ e))

pub returns-then-next-have : goal.returns-then-next-have
returns-then-next-have c =
    round-all c.args.runner.now c.runner.inside.columns (subst (λ (held : Held). Ready held c.runner.inside.columns) c.runner.view_is c.runner.invariant) c.loop-have.have c.scan-more.result c.scan-more.ensures c.loop-have.invariant c.if-next-have.true

pub loop-have-smaller : goal.loop-have-smaller
loop-have-smaller c = omega (arith, grows c.loop-have.have c.scan-more.result c.if-next-have.false)

pub loop-have-preserved : goal.loop-have-preserved
loop-have-preserved c =
    round-productive c.args.runner.now c.runner.inside.columns (subst (λ (held : Held). Ready held c.runner.inside.columns) c.runner.view_is c.runner.invariant) c.loop-have.have c.scan-more.result c.scan-more.ensures c.loop-have.invariant
