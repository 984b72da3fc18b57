-- The laws of soundness: a table is sound node by node, each over those before it; a made node keeps it sound, and unfolds to the expression of its shape.
use Prim.Native.Nat.{ℕ, ◌<◌}
use native.Mathlib.Omega.{arith}
use native.Mathlib.Decide.{dec_lt}
use mathlib.Core.Path.{◌≡◌, refl, ◌∙◌, ap, subst}
use mathlib.Core.List.{[], ◌∷◌, ◌++◌}
use lib.ListN.{length, take, length-append, get_or-append}
use lib.Seq.{get_or-append_seam, take-append-le, take-append_seam, length-take-le, get_or-take}
use Rattle.ground.specs.Lists.{All}
use Rattle.expressions.specs.declared.Shape.{Shape}
use Rattle.expressions.specs.declared.Node.{Node}
use Rattle.expressions.specs.Nodes.{Table, no_node, node_at, children}
use Rattle.expressions.specs.Unfolding.{built, expr_at}
use Rattle.expressions.specs.Soundness.{Fits, opens_of, opens_in, completed, SoundNode, SoundNodes}
use Rattle.ground.proofs.Lists.{all_map, map_same}
use Rattle.expressions.proofs.Unfolding.{expr-new, expr-at, expr-take, built-same}

pub sound_none : SoundNodes []
unfolding SoundNodes
sound_none i h = absurd (omega arith)

pub sound-snoc : (table : Table) (node : Node) → SoundNodes table → SoundNode table node → SoundNodes (table ++ (node ∷ []))
unfolding SoundNodes
sound-snoc table node s k i h = go (dec_lt i (length table))
  where
    go : Dec (i < length table) → SoundNode (take i (table ++ (node ∷ []))) (node_at (table ++ (node ∷ [])) i)
    go (yes l) = rw (get_or-append table (node ∷ []) no_node i l, take-append-le i table (node ∷ []) (omega arith)) (s i l)
    go (no l) =
        let e : i ≡ length table = omega (arith, length-append table (node ∷ [])) in
        rw (e, get_or-append_seam, take-append_seam) k

pub sound-front : (table more : Table) → SoundNodes (table ++ more) → SoundNodes table
unfolding SoundNodes
sound-front table more s i h =
    rw (get_or-append table more no_node i h, take-append-le i table more (omega arith)) at (s i (omega (arith, length-append table more)))

pub sound-last : (table : Table) (node : Node) → SoundNodes (table ++ (node ∷ [])) → SoundNode table node
unfolding SoundNodes
sound-last table node s =
    rw (get_or-append_seam table node [] no_node, take-append_seam table (node ∷ [])) at (s (length table) (omega (arith, length-append table (node ∷ []))))

-- only the children's open sets count
pub opens-same : (f g : ℕ → ℕ) (shape : Shape) → All (λ c. f c ≡ g c) (children shape) → opens_in f shape ≡ opens_in g shape
unfolding opens_in
opens-same f g shape h = ap (opens_of shape.kind shape.label) (map_same f g (children shape) h)

-- ---- making a node

pub sound-completed : (table : Table) (shape : Shape) → Fits (length table) shape → SoundNode table (completed table shape)
unfolding completed
sound-completed table shape h = record { fits = h; right = refl }

-- a made node keeps a sound table sound
pub sound-made : (table : Table) (shape : Shape) → SoundNodes table → Fits (length table) shape → SoundNodes (table ++ (completed table shape ∷ []))
sound-made table shape s h = sound-snoc table (completed table shape) s (sound-completed table shape h)

-- and unfolds to the expression of its shape
pub expr-made : (table : Table) (shape : Shape) → expr_at (table ++ (completed table shape ∷ [])) (length table) ≡ built (expr_at table) shape
unfolding completed
expr-made table shape = expr-new table (completed table shape)

-- ---- a sound table's nodes, by the table's own numbers

module _ (table : Table) (sound : SoundNodes table) (i : ℕ) (h : i < length table) where
  pub fits-at : Fits i (node_at table i).shape
  unfolding SoundNodes
  fits-at = subst (λ (n : ℕ). Fits n (node_at table i).shape) (length-take-le i table (omega arith)) (sound i h).fits

  pub opens_at : (node_at table i).opens ≡ opens_in (λ c. (node_at table c).opens) (node_at table i).shape
  unfolding SoundNodes completed
  opens_at =
      ap (λ (n : Node). n.opens) (sound i h).right
      ∙ opens-same (λ c. (node_at (take i table) c).opens) (λ c. (node_at table c).opens) (node_at table i).shape
      (all_map (children (node_at table i).shape) (λ c l. ap (λ (n : Node). n.opens) (get_or-take i table c no_node l)) fits-at.earlier)

  -- a node's expression is that of its shape over its children's
  pub expr-shape : expr_at table i ≡ built (expr_at table) (node_at table i).shape
  expr-shape =
      expr-at table i h
      ∙ built-same (expr_at (take i table)) (expr_at table) (node_at table i).shape
      (all_map (children (node_at table i).shape) (λ c l. expr-take table i c (omega arith) l) fits-at.earlier)

-- ---- on words
