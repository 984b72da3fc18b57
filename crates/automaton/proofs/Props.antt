-- `Handed` is a proposition: it has one proof at most, so a struct may keep it as a ghost field.
use Prim.Native.Nat.{ℕ}
use mathlib.Core.List.{List}
use denote.Struct.Props.{props}
use Rattle.ground.proofs.Lists.{all-prop}
use Rattle.automaton.specs.declared.Automaton.{Automaton}
use Rattle.automaton.specs.Held.{Rule, Held, ValidRule, Valid}
use Rattle.automaton.specs.Handed.{Handed}

rule-prop : (states : ℕ) (arities : List ℕ) (rule : Rule) → IsProp (ValidRule states arities rule)
rule-prop states arities rule = Prim.hlevel (props, all-prop)

valid-prop : (held : Held) → IsProp (Valid held)
valid-prop held = Prim.hlevel (props, all-prop, rule-prop)

pub handed-prop : (value : Automaton) → IsProp (Handed value)
handed-prop value = Prim.hlevel (props, valid-prop)
