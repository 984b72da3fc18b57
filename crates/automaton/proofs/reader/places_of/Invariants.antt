use Rattle.std.proofs.Common.{◌≡◌, take, true}
use Rattle.ground.specs.Lists.{filled}
use Rattle.automaton.specs.Checks.{all_below}
use Rattle.automaton.proofs.reader.places_of.Given as goal

abbrev pub invariant-loop-i : goal.invariant-loop-i
invariant-loop-i l = record { below : all_below l.states (take l.i l.sources) ≡ true; placed : l.place-items ≡ filled 3 0 (take l.i l.sources) }
