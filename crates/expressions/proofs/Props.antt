-- Soundness is a proposition: it has one proof at most, so a struct may keep it as a ghost field.
use Prim.Native.Nat.{ℕ}
use mathlib.Core.List.{List}
use denote.Struct.Props.{props}
use Rattle.ground.proofs.Lists.{all-prop}
use Rattle.expressions.specs.declared.Shape.{Shape}
use Rattle.expressions.specs.declared.Node.{Node}
use Rattle.expressions.specs.Nodes.{Kind, emptyᴷ, holeᴷ, symbolᴷ, altᴷ, catᴷ, iterᴷ, otherᴷ, Table}
use Rattle.expressions.specs.Soundness.{LabelledAs, Fits, SoundNode, SoundNodes, Sound}

labelled-prop : (kind : Kind) (label : ℕ) → IsProp (LabelledAs kind label)
labelled-prop emptyᴷ label = Prim.hlevel props
labelled-prop holeᴷ label = Prim.hlevel props
labelled-prop symbolᴷ label = Prim.hlevel props
labelled-prop altᴷ label = Prim.hlevel props
labelled-prop catᴷ label = Prim.hlevel props
labelled-prop iterᴷ label = Prim.hlevel props
labelled-prop otherᴷ label = Prim.hlevel props

fits-prop : (number : ℕ) (shape : Shape) → IsProp (Fits number shape)
fits-prop number shape = Prim.hlevel (props, labelled-prop, all-prop)

node-prop : (earlier : Table) (node : Node) → IsProp (SoundNode earlier node)
node-prop earlier node = Prim.hlevel (props, fits-prop)

nodes-prop : (table : Table) → IsProp (SoundNodes table)
unfolding SoundNodes
nodes-prop table = Prim.hlevel (props, node-prop)

pub sound-prop : (words : List ℕ) (count answer : ℕ) → IsProp (Sound words count answer)
sound-prop words count answer = Prim.hlevel (props, nodes-prop)
