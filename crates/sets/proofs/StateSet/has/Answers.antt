use native.Mathlib.Omega.{arith}
use mathlib.Core.Path.{sym, ◌∙◌}
use borrow.Author.Tests.{le-ltb}
use Rattle.std.proofs.lemmas.Nat.Bits.{shr_and_one}
use Rattle.sets.specs.Members.{has, state_width}
use Rattle.sets.proofs.Bits.{has-high}
use Rattle.sets.proofs.StateSet.has.Goals as goal

pub returns-then-state-lt-BITS : goal.returns-then-state-lt-BITS
unfolding has
returns-then-state-lt-BITS c = rw shr_and_one

pub returns-else-state-lt-BITS : goal.returns-else-state-lt-BITS
returns-else-state-lt-BITS c =
    le-ltb c.args.state 16 c.if-state-lt-BITS.false ∙ sym (has-high state_width c.args.self.0 c.args.state (omega arith) c.if-state-lt-BITS.false)
