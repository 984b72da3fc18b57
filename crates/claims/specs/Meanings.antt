-- The second demand [1.3 to 1.5]: what a run says of a tree, what the nodes of a table denote, and that nothing is lost between file and value.
use Rattle.std.specs.Prelude.{ℕ, ◌≤◌, ◌<◌, ◌≡◌, true, ◌⊎◌, ◌↔◌, List, [], ◌∷◌, ◌++◌, length, take, drop}
use Rattle.sets.specs.Members.{has}
use Rattle.automaton.specs.declared.Automaton.{Automaton}
use Rattle.automaton.specs.declared.Reading.{Reading}
use Rattle.automaton.specs.declared.Extent.{Extent}
use Rattle.automaton.specs.Held.{Held, Valid}
use Rattle.automaton.specs.File.{file_of}
use Rattle.automaton.specs.Checks.{verdict, holds}
use Rattle.automaton.specs.Refusals.{no_refusal}
use Rattle.automaton.specs.Answers.{placed, read_answer, held_by}
use Rattle.writer.specs.Answers.{writing, Written}
use Rattle.trees.specs.declared.ReachedStates.{ReachedStates}
use Rattle.trees.specs.declared.ProductiveStates.{ProductiveStates}
use Rattle.meaning.specs.Trees.{Tree, Forest, hole, node, []ᶠ, ◌∷ᶠ◌}
use Rattle.trees.specs.Words.{IsTree}
use Rattle.trees.specs.Runs.{Reaches, Accepted, Productive}
use Rattle.trees.specs.Promises.{RunPromise, ProductivePromise}
use Rattle.meaning.specs.Expressions.{Denotes, Concatenated, Iterated}
use Rattle.expressions.specs.declared.Shape.{Shape}
use Rattle.expressions.specs.Nodes.{Table, node_at, symbol_of, children}
use Rattle.expressions.specs.Words.{table_of}
use Rattle.expressions.specs.Unfolding.{expr_at}
use Rattle.expressions.specs.Soundness.{Sound}
use Rattle.claims.specs.Types.{Bytes}

-- ---- what the nodes of a sound table denote, kind by kind [1.4]

-- node c of the table denotes the tree: its expression does [7.14]
abbrev pub NodeDenotes : Table → ℕ → Tree → Type 0
NodeDenotes table c t = Denotes (expr_at table c) t

-- as many trees as nodes, and each node denotes its own [6.4]
abbrev pub OneFromEach : Table → List ℕ → Forest → Type 0
OneFromEach table [] []ᶠ = Unit {0}
OneFromEach table [] (t ∷ᶠ ts) = ⊥
OneFromEach table (c ∷ cs) []ᶠ = ⊥
OneFromEach table (c ∷ cs) (t ∷ᶠ ts) = NodeDenotes table c t × OneFromEach table cs ts

-- by the kind of node i, which trees it denotes [6.2 to 6.7]
pub record NodeMeans (table : Table) (i : ℕ) (shape : Shape) : Type 0 where
  -- there is no other kind [7.2, 7.4]
  pub kinds : shape.kind ≤ 5
  -- empty denotes nothing [6.2]
  pub empty : shape.kind ≡ 0 → (t : Tree) → NodeDenotes table i t → ⊥
  -- a hole denotes itself alone [6.3]
  pub hole_alone : shape.kind ≡ 1 → (t : Tree) → NodeDenotes table i t ↔ (t ≡ hole shape.label)
  -- a symbol: that symbol over trees of its children, in order [6.4]
  pub symbol : shape.kind ≡ 2 → (t : Tree)
      → NodeDenotes table i t ↔ ((ts : Forest) × (t ≡ node (symbol_of shape.label) ts) × OneFromEach table (children shape) ts)
  -- an alternation: what a side denotes [6.5]
  pub alternation : shape.kind ≡ 3 → (t : Tree) → NodeDenotes table i t ↔ (NodeDenotes table shape.first t ⊎ NodeDenotes table shape.second t)
  -- a concatenation over its label: trees of the left, with a tree of the right at each such hole [6.6]
  pub concatenation : shape.kind ≡ 4 → (t : Tree)
      → NodeDenotes table i t ↔ Concatenated shape.label (NodeDenotes table shape.first) (NodeDenotes table shape.second) t
  -- an iteration over its label: the trees of all levels [6.7]
  pub iteration : shape.kind ≡ 5 → (t : Tree) → NodeDenotes table i t ↔ Iterated shape.label (NodeDenotes table shape.first) t

-- ---- the demand

pub record MeansWhatItShould : Type 0 where
  -- of words that are a tree the run's set has just the states that the tree reaches [1.3, 5.5]
  pub reached : (file words : List ℕ) (r : ReachedStates) → RunPromise file words r
      → (held : Held) (tree : Tree) → verdict file ≡ holds held → IsTree held words tree
      → (q : ℕ) → (has r.states.0 q ≡ true) ↔ Reaches held.rules tree q
  -- and the yes says whether the automaton accepts it [1.3, 5.6]
  pub accepted : (file words : List ℕ) (r : ReachedStates) → RunPromise file words r
      → (held : Held) (tree : Tree) → verdict file ≡ holds held → IsTree held words tree → (r.yes ≡ true) ↔ Accepted held tree
  -- that is, whether a final state is in the set [5.6]
  pub meets_finals : (file words : List ℕ) (r : ReachedStates) → RunPromise file words r
      → (held : Held) (tree : Tree) → verdict file ≡ holds held → IsTree held words tree
      → (r.yes ≡ true) ↔ ((q : ℕ) × (has r.states.0 q ≡ true) × (has held.finals q ≡ true))
  -- words are at most one tree, so that there is but one run to speak of [5.3]
  pub one_tree : (held : Held) (words : List ℕ) (tree other : Tree) → IsTree held words tree → IsTree held words other → tree ≡ other
  -- the productive states, all of them and no other [5.7, 5.8]
  pub productive : (file : List ℕ) (r : ProductiveStates) → ProductivePromise file r
      → (held : Held) → verdict file ≡ holds held → (q : ℕ) → (has r.states.0 q ≡ true) ↔ Productive held.rules q
  -- each node of a sound table means what its kind should [1.4]
  pub nodes : (words : List ℕ) (count answer : ℕ) → Sound words count answer
      → (i : ℕ) → i < count → NodeMeans (table_of words count) i (node_at (table_of words count) i).shape
  -- a value that was written is read again as the same, with 0 in its unused places [1.5]
  pub value_and_back : (value : Automaton) (before after : List ℕ) (w : Extent) → Written value before after w → w.refusal.number ≡ 0
      → (r : Reading) → r ≡ read_answer (take w.length after)
      → (r.refusal.number ≡ 0) × (r.automaton ≡ placed (held_by value)) × (held_by r.automaton ≡ held_by value)
  -- a file that was read, written again, is the same bytes [1.5]
  pub file_and_back : (file : List ℕ) → Bytes file → (r : Reading) → r ≡ read_answer file → r.refusal.number ≡ 0
      → (before after : List ℕ) (w : Extent) → length file ≤ length before → Written r.automaton before after w
      → (w ≡ writing no_refusal (length file)) × (after ≡ file ++ drop (length file) before)
  -- bytes hold an automaton exactly when that keeps the limits and they are its file [3.20]
  pub file_exactly : (file : List ℕ) (held : Held) → Bytes file → (verdict file ≡ holds held) ↔ (Valid held × (file ≡ file_of held))
