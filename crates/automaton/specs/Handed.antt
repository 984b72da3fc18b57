-- What `read` hands to the rooms above, for their private functions: a value that a file holds.
use Rattle.std.specs.Prelude.{◌≡◌}
use Rattle.automaton.specs.declared.Automaton.{Automaton}
use Rattle.automaton.specs.Held.{Valid}
use Rattle.automaton.specs.Answers.{placed, held_by}

-- the value says something that a file can hold, and its unused places are 0
pub record Handed (value : Automaton) : Type 0 where
  pub is : value ≡ placed (held_by value)
  pub valid : Valid (held_by value)
