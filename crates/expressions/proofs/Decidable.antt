-- Soundness, and what it rests on, is decidable.
use Prim.Native.Nat.{ℕ, zero, suc, ◌*◌, ◌<◌}
use native.Mathlib.Decide.{dec_le, dec_lt, ℕ_discrete}
use mathlib.Core.Path.{◌≡◌, ap}
use mathlib.Core.List.{List, [], ◌∷◌}
use lib.ListN.{length}
use Rattle.ground.proofs.Deciding.{both, decided-as, dec-all}
use Rattle.sets.specs.Members.{state_width}
use Rattle.expressions.specs.declared.Shape.{Shape}
use Rattle.expressions.specs.declared.Node.{Node}
use Rattle.expressions.specs.Nodes.{Kind, emptyᴷ, holeᴷ, symbolᴷ, altᴷ, catᴷ, iterᴷ, otherᴷ, kind_of, Table, symbol_of, arity_of, children, unused}
use Rattle.expressions.specs.Words.{node_width, read_node, table_of}
use Rattle.expressions.specs.Soundness.{LabelledAs, Fits, completed, SoundNode, SoundNodes, most_nodes, Sound}
use Rattle.expressions.specs.Making.{Room}
use Rattle.expressions.proofs.Soundness.{sound_none, sound-snoc, sound-front, sound-last}

dec-labelled : (kind : Kind) (label : ℕ) → Dec (LabelledAs kind label)
dec-labelled emptyᴷ label = ℕ_discrete label 0
dec-labelled holeᴷ label = dec_lt label state_width
dec-labelled symbolᴷ label = both (dec_lt (symbol_of label) 32) (dec_le (arity_of label) 3)
dec-labelled altᴷ label = ℕ_discrete label 0
dec-labelled catᴷ label = dec_lt label state_width
dec-labelled iterᴷ label = dec_lt label state_width
dec-labelled otherᴷ label = no (λ h. h)

pub dec-fits : (number : ℕ) (shape : Shape) → Dec (Fits number shape)
dec-fits number shape =
    decided-as
    (both (dec-labelled (kind_of shape.kind) shape.label)
    (both (dec-all (λ c. c < number) (λ c. dec_lt c number) (children shape)) (dec-all (λ c. c ≡ 0) (λ c. ℕ_discrete c 0) (unused shape))))
    (λ p. record { labelled = p.0; earlier = p.1.0; zeros = p.1.1 })
    (λ f. (f.labelled, (f.earlier, f.zeros)))

pub dec-room : (words : List ℕ) (count : ℕ) → Dec (Room words count)
dec-room words count =
    decided-as (both (dec_lt count most_nodes) (dec_le (node_width * suc count) (length words))) (λ p. record { few = p.0; roomy = p.1 }) (λ r. (r.few, r.roomy))

dec-node : (earlier : Table) (node : Node) → Dec (SoundNode earlier node)
unfolding completed
dec-node earlier node =
    decided-as (both (dec-fits (length earlier) node.shape) (ℕ_discrete node.opens (completed earlier node.shape).opens))
    (λ p. record { fits = p.0; right = right p.1 }) (λ s. (s.fits, ap (λ (n : Node). n.opens) s.right))
  where
    right : node.opens ≡ (completed earlier node.shape).opens → node ≡ completed earlier node.shape
    right e = λ x. record { shape = node.shape; opens = e x }

dec-nodes : (words : List ℕ) (count : ℕ) → Dec (SoundNodes (table_of words count))
unfolding table_of
dec-nodes words zero = yes sound_none
dec-nodes words (suc count) =
    decided-as (both (dec-nodes words count) (dec-node (table_of words count) (read_node words count)))
    (λ p. sound-snoc (table_of words count) (read_node words count) p.0 p.1)
    (λ s. (sound-front (table_of words count) (read_node words count ∷ []) s, sound-last (table_of words count) (read_node words count) s))

pub dec-sound : (words : List ℕ) (count answer : ℕ) → Dec (Sound words count answer)
dec-sound words count answer =
    decided-as
    (both (dec_le 1 count) (both (dec_le count most_nodes) (both (dec_le (node_width * count) (length words)) (both (dec_lt answer count) (dec-nodes words count)))))
    (λ p. record { some = p.0; few = p.1.0; roomy = p.1.1.0; within = p.1.1.1.0; kept = p.1.1.1.1 })
    (λ s. (s.some, (s.few, (s.roomy, (s.within, s.kept)))))
