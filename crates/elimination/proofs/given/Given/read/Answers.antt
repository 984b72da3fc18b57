use Rattle.automaton.proofs.Handing.{result-held}
use Rattle.elimination.proofs.given.Given.read.Goals as goal

pub invariant_of-result : goal.invariant_of-result
invariant_of-result c = record { handed = (result-held c.args.file.now c.in_ok-value.value c.in_ok-value.ensures).handed }
