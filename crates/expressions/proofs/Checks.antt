-- What the checks of one node come to: its open set from those of its children, the node itself, and the nodes one after the other.
use Prim.Native.Nat.{ℕ, ◌/◌, ◌^◌, ◌%◌, ◌<◌, ◌≤◌}
use native.Mathlib.Omega.{arith}
use native.Mathlib.Nat.{zero-add}
use mathlib.Core.Path.{◌≡◌, refl, sym, ◌∙◌, ap}
use mathlib.Core.Bool.{Bool, true, false}
use mathlib.Core.List.{List}
use lib.Dec.{eqb}
use lib.ListN.{length, take}
use lib.Seq.{get_or-take, length-take-le}
use Rattle.std.specs.Bool.{MatchBool}
use Rattle.std.specs.List.{AllWithin, HoldsAt, range_with_len}
use Rattle.std.proofs.lemmas.List.FromFn.{length-range_with_len, get_or-range_with_len}
use Rattle.sets.specs.Members.{has, union, without, state_width}
use Rattle.ground.specs.Decides.{Decides}
use Rattle.automaton.specs.Refusals.{refusal, no_refusal}
use Rattle.expressions.specs.declared.Shape.{Shape}
use Rattle.expressions.specs.declared.Node.{Node}
use Rattle.expressions.specs.Nodes.{Table, no_node, node_at, children}
use Rattle.expressions.specs.Words.{node_width, table_of, put_node}
use Rattle.expressions.specs.Soundness.{Fits, cat_opens, opens_in, completed, SoundNode, SoundNodes}
use Rattle.expressions.specs.Making.{Room, Makes}
use Rattle.expressions.specs.Inside.{nodes_of}
use Rattle.ground.proofs.Deciding.{decides-no, decides-yes, decides-as, decides_eq}
use Rattle.ground.proofs.Lists.{all_map}
use Rattle.sets.proofs.Membership.{has-cut, union-cut-right, without-cut}
use Rattle.expressions.proofs.Words.{table_at, node-whole}
use Rattle.expressions.proofs.Chunks.{whole, node-chunk}
use Rattle.expressions.proofs.Soundness.{opens-same}

-- ---- the open set

-- the open set of a concatenation, by sets cut to the states
pub cat-joined : (q left right : ℕ) → q < state_width → has (left % 2 ^ state_width) q ≡ true
    → union state_width (without state_width (left % 2 ^ state_width) q) (right % 2 ^ state_width) ≡ cat_opens q left right
unfolding cat_opens
cat-joined q left right h e =
    let t : has left q ≡ true = sym (has-cut state_width left q h) ∙ e in
    rw (t, without-cut state_width left q, union-cut-right state_width (without state_width left q) right)

pub cat-lacks : (q left right : ℕ) → q < state_width → has (left % 2 ^ state_width) q ≡ false → left ≡ cat_opens q left right
unfolding cat_opens
cat-lacks q left right h e = let t : has left q ≡ false = sym (has-cut state_width left q h) ∙ e in rw t

-- the node that is made, by the nodes that the words hold whole
pub completed-whole : (words : List ℕ) (count : ℕ) (shape : Shape) → Fits count shape → count ≤ length words / node_width
    → record { shape = shape; opens = opens_in (λ c. (node_at (nodes_of (whole words)) c).opens) shape } ≡ completed (table_of words count) shape
unfolding completed
completed-whole words count shape f h = λ x. record { shape = shape; opens = same x }
  where
    same : opens_in (λ c. (node_at (nodes_of (whole words)) c).opens) shape ≡ opens_in (λ c. (node_at (table_of words count) c).opens) shape
    same =
        opens-same (λ c. (node_at (nodes_of (whole words)) c).opens) (λ c. (node_at (table_of words count) c).opens) shape
        (all_map (children shape)
        (λ c l. ap (λ (n : Node). n.opens) (node-chunk words c ∙ node-whole words c (omega arith) ∙ sym (table_at words count c l))) f.earlier)

-- ---- one node of a table

module _ (table : Table) (i : ℕ) (h : i < length table) where
  node_fits : SoundNode (take i table) (node_at table i) → Fits i (node_at table i).shape
  node_fits s = rw (length-take-le i table (omega arith)) at s.fits

  -- the open set by the nodes before it is that by the table
  opens-earlier : Fits i (node_at table i).shape
      → opens_in (λ c. (node_at table c).opens) (node_at table i).shape ≡ opens_in (λ c. (node_at (take i table) c).opens) (node_at table i).shape
  opens-earlier f =
      opens-same (λ c. (node_at table c).opens) (λ c. (node_at (take i table) c).opens) (node_at table i).shape
      (all_map (children (node_at table i).shape) (λ c l. sym (ap (λ (n : Node). n.opens) (get_or-take i table c no_node l))) f.earlier)

  -- a node whose shape does not fit is not sound; one whose shape fits is sound exactly when its open word is right
  pub node-unfit : (Fits i (node_at table i).shape → ⊥) → Decides (SoundNode (take i table) (node_at table i)) false
  node-unfit n = decides-no (λ s. n (node_fits s))

  pub node-decided : Fits i (node_at table i).shape → {opens : ℕ} → opens ≡ opens_in (λ c. (node_at table c).opens) (node_at table i).shape
      → Decides (SoundNode (take i table) (node_at table i)) (eqb (node_at table i).opens opens)
  unfolding completed
  node-decided f e =
      let d = e ∙ opens-earlier f in
      decides-as (decides_eq _ _)
      (λ k. record { fits = rw (length-take-le i table (omega arith)) f; right = λ x. record { shape = (node_at table i).shape; opens = (k ∙ d) x } })
      (λ s. ap (λ (n : Node). n.opens) s.right ∙ sym d)

-- ---- the nodes of a table, one after the other

pub sound-decided : (table : Table) {n : ℕ} → n ≡ length table → (r : Bool)
    → MatchBool r (AllWithin (λ i. i < n → SoundNode (take i table) (node_at table i)) (range_with_len 0 n) 0 (length (range_with_len 0 n)))
    ((k : ℕ) × (k < length (range_with_len 0 n)) × HoldsAt (λ i. i < n → SoundNode (take i table) (node_at table i) → ⊥) (range_with_len 0 n) k)
    → Decides (SoundNodes table) r
unfolding SoundNodes
sound-decided table {n} e true h =
    decides-yes (λ i l. (rw (get_or-range_with_len 0 n i 0 (omega arith), zero-add i) at (h i 0 (omega arith) (omega (arith, length-range_with_len 0 n)))) (omega arith))
sound-decided table {n} e false h =
    let l : h.0 < n = omega (arith, h.1, length-range_with_len 0 n) in
    decides-no (λ s. (rw (get_or-range_with_len 0 n h.0 0 l, zero-add h.0) at (h.2 0)) l (s h.0 (omega arith)))

-- ---- making a node: each outcome

module _ (before : List ℕ) (count : ℕ) (shape : Shape) where
  pub makes-unfit : (Fits count shape → ⊥) → Makes before count shape before (refusal 8)
  makes-unfit n = record { unfit = λ _. (refl, refl); full = λ f. absurd (n f); done = λ f. absurd (n f) }

  pub makes-full : Fits count shape → (Room before count → ⊥) → Makes before count shape before (refusal 6)
  makes-full f n = record { unfit = λ u. absurd (u f); full = λ _ _. (refl, refl); done = λ _ r. absurd (n r) }

  pub makes-done : (after : List ℕ) → Fits count shape → Room before count → after ≡ put_node before count (completed (table_of before count) shape)
      → Makes before count shape after no_refusal
  makes-done after f r e = record { unfit = λ u. absurd (u f); full = λ _ n. absurd (n r); done = λ _ _. (refl, e) }
