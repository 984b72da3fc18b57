-- Making a node: what everything that makes one does to the lent words.
use Rattle.std.specs.Prelude.{ℕ, suc, ◌*◌, ◌≤◌, ◌<◌, ◌≡◌, List, length}
use Rattle.automaton.specs.declared.Refusal.{Refusal}
use Rattle.automaton.specs.Refusals.{refusal, no_refusal}
use Rattle.expressions.specs.declared.Shape.{Shape}
use Rattle.expressions.specs.Words.{node_width, table_of, put_node}
use Rattle.expressions.specs.Soundness.{Fits, completed, most_nodes}

-- there is room for one node more: a table may have it, and the words hold it whole [7.17]
pub record Room (words : List ℕ) (count : ℕ) : Type 0 where
  pub few : count < most_nodes
  pub roomy : node_width * suc count ≤ length words

-- what `make` promises, of the words before and after and the answer: 8 for a shape that no sound table has at that number; then 6 where there is no room; else the node stands at its number. Refused, no word changes; done, no other word does [7.15] to [7.19]
pub record Makes (before : List ℕ) (count : ℕ) (shape : Shape) (after : List ℕ) (answer : Refusal) : Type 0 where
  pub unfit : (Fits count shape → ⊥) → (answer ≡ refusal 8) × (after ≡ before)
  pub full : Fits count shape → (Room before count → ⊥) → (answer ≡ refusal 6) × (after ≡ before)
  pub done : Fits count shape → Room before count → (answer ≡ no_refusal) × (after ≡ put_node before count (completed (table_of before count) shape))
