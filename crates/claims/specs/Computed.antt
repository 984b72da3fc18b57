-- An outside look at the definitions that the promises rest on: cases that are worked by hand from the text of docs/REQUIREMENTS.md.
use Rattle.std.specs.Prelude.{ℕ, zero, suc, ◌<◌, ◌≡◌, Bool, true, false, ◌↔◌, List, [], ◌∷◌, ltb, length, replicate}
use Rattle.sets.specs.Members.{has, set_of, empty_set, one_set, of_word, union, has_past, without, size}
use Rattle.automaton.specs.declared.Refusal.{Refusal}
use Rattle.automaton.specs.Held.{Held}
use Rattle.automaton.specs.Refusals.{refusal}
use Rattle.trees.specs.declared.ProductiveStates.{ProductiveStates}
use Rattle.meaning.specs.Trees.{Tree}
use Rattle.trees.specs.Words.{prefix, IsTree, NoTree}
use Rattle.trees.specs.Runs.{Reaches, Accepted}
use Rattle.trees.specs.Promises.{ProductivePromise}
use Rattle.meaning.specs.Expressions.{Expr, emptyᴱ, holeᴱ, symbolᴱ, altᴱ, catᴱ, iterᴱ, []ᴱ, ◌∷ᴱ◌}
use Rattle.expressions.specs.Words.{node_in, table_of}
use Rattle.expressions.specs.Unfolding.{expr_at}
use Rattle.expressions.specs.Soundness.{cat_opens, opens_of}
use Rattle.expressions.specs.Sizes.{held_size}
use Rattle.expressions.specs.Nodes.{shape_of, no_node, hole_shape, symbol_shape, alt_shape, iter_shape}
use Rattle.buffers.specs.Decimal.{decimal}
use Rattle.listing.specs.Listing.{plain_label, node_line}
use Rattle.expressions.specs.Making.{Makes}
use Rattle.expressions.specs.Answers.{SoundAnswer}
use Rattle.theory.specs.RowLists.{ExprRow, final_target, final_states}
use Rattle.theory.specs.Acceptance.{AcceptsAt, Accepts}
use Rattle.theory.specs.declared.NodeRow.{NodeRow}
use Rattle.theory.specs.Stages.{stage_after, converted, node_bound}
use Rattle.elimination.specs.Answers.{whole_nodes}
use Rattle.front.specs.Answers.{most_made}
use Rattle.claims.specs.DraftFiles.{file_unused}
use Rattle.claims.specs.Slips.{leaf, leafᴱ}
use Rattle.claims.specs.WorkedDrafts.{pair, words_p}
use Rattle.claims.specs.ComputedFiles.{rule, held_p, FileCases}

-- ---- sets of states [2.7 to 2.10]: {0,2} is 5

pub record SetCases : Type 0 where
  pub members : (has 5 0 ≡ true) × (has 5 1 ≡ false) × (has 5 2 ≡ true) × (has 5 3 ≡ false)
  pub last_state : (has 65535 15 ≡ true) × (has 65535 16 ≡ false)
  pub first_three : set_of 16 (λ q. ltb q 3) ≡ 7
  pub none : empty_set 16 ≡ 0
  pub one : (one_set 16 3 ≡ 8) × (one_set 16 15 ≡ 32768) × (one_set 16 16 ≡ 0)
  pub both : union 16 5 6 ≡ 7
  pub past : (has_past 5 2 ≡ true) × (has_past 5 3 ≡ false) × (has_past 65535 15 ≡ true) × (has_past 65535 16 ≡ false)
  pub of_word : (of_word 16 5 ≡ 5) × (of_word 16 65541 ≡ 5)
  pub taken_out : (without 16 7 1 ≡ 5) × (without 16 5 1 ≡ 5) × (without 16 5 16 ≡ 5)
  pub sizes : (size 16 0 ≡ 0) × (size 16 5 ≡ 2) × (size 16 65535 ≡ 16)

-- ---- trees and runs of P [5.1 to 5.8, 10.2]: a is symbol 0, g is symbol 1

pub record RunCases : Type 0 where
  pub words_of : prefix (pair 1 (pair 1 (leaf 0) (leaf 0)) (leaf 0)) ≡ 1 ∷ 1 ∷ 0 ∷ 0 ∷ 0 ∷ []
  pub one_tree : IsTree held_p (1 ∷ 0 ∷ 0 ∷ []) (pair 1 (leaf 0) (leaf 0))
  pub half_a_tree : NoTree held_p (1 ∷ 0 ∷ [])
  pub two_trees : NoTree held_p (0 ∷ 0 ∷ [])
  pub no_words : NoTree held_p []
  pub unknown_symbol : NoTree held_p (2 ∷ [])
  -- one symbol more than a tree may have [2.5]
  pub too_many : (held : Held) (words : List ℕ) → 4096 < length words → NoTree held words
  pub reaches : Reaches held_p.rules (pair 1 (leaf 0) (leaf 0)) 1
  pub not_this : Reaches held_p.rules (pair 1 (leaf 0) (leaf 0)) 0 → ⊥
  pub not_turned : (q : ℕ) → Reaches held_p.rules (pair 1 (leaf 0) (pair 1 (leaf 0) (leaf 0))) q → ⊥
  pub accepted : Accepted held_p (pair 1 (leaf 0) (leaf 0))
  pub not_accepted : Accepted held_p (leaf 0) → ⊥
  -- of draft 10.14, where nothing reaches state 1
  pub productive : (r : ProductiveStates) → ProductivePromise file_unused r → r ≡ record { refusal = refusal 0; states = record { 0 = 5 } }

-- ---- tables

abbrev pub pairᴱ : ℕ → Expr → Expr → Expr
pairᴱ f a b = symbolᴱ f (a ∷ᴱ b ∷ᴱ []ᴱ)

-- each holds the one before it twice: 2 ^ (n + 1) - 1 nodes, written out
unfoldable pub doubled : ℕ → Expr
doubled zero = emptyᴱ
doubled (suc n) = altᴱ (doubled n) (doubled n)

-- whatever answers the check of these words says this
abbrev pub Says : List ℕ → ℕ → ℕ → Bool → Type 0
Says words count answer yes_or_no = (r : Bool) → SoundAnswer words count answer r → r ≡ yes_or_no

pub record TableCases : Type 0 where
  -- the open set of each kind [7.7]
  pub opens_empty : opens_of 0 0 [] ≡ 0
  pub opens_hole : opens_of 1 3 [] ≡ 8
  pub opens_symbol : opens_of 2 768 (1 ∷ 4 ∷ 8 ∷ []) ≡ 13
  pub opens_alternation : opens_of 3 0 (1 ∷ 4 ∷ []) ≡ 5
  pub opens_iteration : opens_of 5 2 (1 ∷ []) ≡ 5
  -- of a concatenation: the letter is not open on the left; it is; it is, and comes back from the right [7.7]
  pub opens_lacking : cat_opens 0 2 4 ≡ 2
  pub opens_joined : cat_opens 1 3 4 ≡ 5
  pub opens_again : cat_opens 1 3 2 ≡ 3
  pub opens_concatenation : opens_of 4 1 (3 ∷ 4 ∷ []) ≡ 5
  -- P's answer as an expression [7.14, 10.3]
  pub p_unfolds : expr_at (table_of words_p 10) 9
      ≡ catᴱ 1 (iterᴱ 1 (catᴱ 0 (pairᴱ 1 (holeᴱ 1) (holeᴱ 0)) (leafᴱ 0))) (catᴱ 0 (pairᴱ 1 (holeᴱ 0) (holeᴱ 0)) (leafᴱ 0))
  -- the largest size that is counted, and larger ones [9.2]
  pub size_below : held_size (doubled 30) ≡ 2147483647
  pub size_just : held_size (doubled 31) ≡ 4294967295
  pub size_held : held_size (doubled 32) ≡ 4294967295
  pub size_held_long : held_size (doubled 4000) ≡ 4294967295
  -- numbers in decimal: 48 is the digit 0 [2.12]
  pub digits : (decimal 0 ≡ 48 ∷ []) × (decimal 10 ≡ 49 ∷ 48 ∷ []) × (decimal 4096 ≡ 52 ∷ 48 ∷ 57 ∷ 54 ∷ [])
  -- two lines of a listing: 4 alt 2 3, and 10 symbol 31 1 2 3 [9.5, 9.7]
  pub line_alt : node_line plain_label 4 (alt_shape 2 3) ≡ 52 ∷ 32 ∷ 97 ∷ 108 ∷ 116 ∷ 32 ∷ 50 ∷ 32 ∷ 51 ∷ 10 ∷ []
  pub line_symbol : node_line plain_label 10 (symbol_shape 799 1 2 3)
      ≡ 49 ∷ 48 ∷ 32 ∷ 115 ∷ 121 ∷ 109 ∷ 98 ∷ 111 ∷ 108 ∷ 32 ∷ 51 ∷ 49 ∷ 32 ∷ 49 ∷ 32 ∷ 50 ∷ 32 ∷ 51 ∷ 10 ∷ []
  -- hole 3 made as node 1: its six words, and no other word changes [7.18]
  pub made_hole : (after : List ℕ) (r : Refusal) → Makes (replicate 13 7) 1 (hole_shape 3) after r
      → (r ≡ refusal 0) × (after ≡ 7 ∷ 7 ∷ 7 ∷ 7 ∷ 7 ∷ 7 ∷ 1 ∷ 3 ∷ 0 ∷ 0 ∷ 0 ∷ 8 ∷ 7 ∷ [])
  -- a node that is its own child is refused before the room is looked at [7.16, 7.17]
  pub made_of_itself : (after : List ℕ) (r : Refusal) → Makes [] 1 (iter_shape 0 1) after r → (r ≡ refusal 8) × (after ≡ [])
  pub made_without_room : (after : List ℕ) (r : Refusal) → Makes (replicate 11 7) 1 (hole_shape 3) after r → (r ≡ refusal 6) × (after ≡ replicate 11 7)
  -- a node read out of words that hold it whole, and out of words that do not [7.20]
  pub node_read : node_in (replicate 12 7) 1 ≡ record { shape = shape_of 7 7 7 7 7; opens = 7 }
  pub node_not_whole : node_in (replicate 11 7) 1 ≡ no_node
  -- one empty node, and whatever stands after it [7.10]
  pub sound_one : Says (0 ∷ 0 ∷ 0 ∷ 0 ∷ 0 ∷ 0 ∷ []) 1 0 true
  pub sound_more_words : Says (0 ∷ 0 ∷ 0 ∷ 0 ∷ 0 ∷ 0 ∷ 7 ∷ 8 ∷ []) 1 0 true
  -- the count, the words, the answer [7.9]
  pub count_0 : (words : List ℕ) (answer : ℕ) → Says words 0 answer false
  pub count_4097 : (words : List ℕ) (answer : ℕ) → Says words 4097 answer false
  pub words_short : Says (0 ∷ 0 ∷ 0 ∷ 0 ∷ 0 ∷ []) 1 0 false
  pub answer_past : Says (0 ∷ 0 ∷ 0 ∷ 0 ∷ 0 ∷ 0 ∷ []) 1 1 false
  -- a kind that is none [7.4]
  pub kind_6 : Says (6 ∷ 0 ∷ 0 ∷ 0 ∷ 0 ∷ 0 ∷ []) 1 0 false
  -- a label and a child that are not used, and not 0 [7.2, 7.5]
  pub label_used : Says (0 ∷ 1 ∷ 0 ∷ 0 ∷ 0 ∷ 0 ∷ []) 1 0 false
  pub child_used : Says (0 ∷ 0 ∷ 0 ∷ 0 ∷ 1 ∷ 0 ∷ []) 1 0 false
  -- the last state, and one more [7.3]
  pub hole_15 : Says (1 ∷ 15 ∷ 0 ∷ 0 ∷ 0 ∷ 32768 ∷ []) 1 0 true
  pub hole_16 : Says (1 ∷ 16 ∷ 0 ∷ 0 ∷ 0 ∷ 0 ∷ []) 1 0 false
  -- the open word counts with all its bits [7.8]
  pub opens_wrong : Says (1 ∷ 0 ∷ 0 ∷ 0 ∷ 0 ∷ 0 ∷ []) 1 0 false
  pub opens_high : Says (1 ∷ 0 ∷ 0 ∷ 0 ∷ 0 ∷ 65537 ∷ []) 1 0 false
  -- a node that is its own child [7.6]
  pub own_child : Says (2 ∷ 256 ∷ 0 ∷ 0 ∷ 0 ∷ 0 ∷ []) 1 0 false
  -- a symbol and an arity too large [7.3]
  pub symbol_32 : Says (2 ∷ 32 ∷ 0 ∷ 0 ∷ 0 ∷ 0 ∷ []) 1 0 false
  pub arity_4 : Says (2 ∷ 1024 ∷ 0 ∷ 0 ∷ 0 ∷ 0 ∷ []) 1 0 false
  -- one symbol with two arities [7.11]
  pub two_arities : Says (2 ∷ 0 ∷ 0 ∷ 0 ∷ 0 ∷ 0 ∷ 2 ∷ 256 ∷ 0 ∷ 0 ∷ 0 ∷ 0 ∷ []) 2 1 true
  -- a wrong node that the answer does not use [7.9]
  pub other_node : Says (0 ∷ 0 ∷ 0 ∷ 0 ∷ 0 ∷ 0 ∷ 6 ∷ 0 ∷ 0 ∷ 0 ∷ 0 ∷ 0 ∷ []) 2 0 false

-- ---- conversions

-- a to 0, b to 0, and no final state
abbrev pub two_leaves : Held
two_leaves = record { states = 1; finals = 0; arities = 0 ∷ 0 ∷ []; rules = rule 0 0 [] ∷ rule 1 0 [] ∷ [] }

-- one state, final, and no rows [8.25]
abbrev pub alone : Held
alone = record { states = 1; finals = 1; arities = 0 ∷ []; rules = [] }

-- a row of the list: this node to this target [8.3]
abbrev pub to : ℕ → ℕ → NodeRow
to i target = record { node = i; target = target }

-- a row that waits for state 0, and one to 0 that waits for nothing [0.11]
abbrev pub waiting : List ExprRow
waiting = record { expr = holeᴱ 0; target = 16 } ∷ record { expr = leafᴱ 0; target = 0 } ∷ []

pub record StageCases : Type 0 where
  -- P at the start [8.2, 8.4]
  pub p_start : (length (stage_after 0 held_p).table ≡ 6) × ((stage_after 0 held_p).rows ≡ to 3 0 ∷ to 4 1 ∷ to 5 1 ∷ to 2 16 ∷ [])
  -- P after both states, not joined [8.21]
  pub p_both : (length (stage_after 2 held_p).table ≡ 10) × ((stage_after 2 held_p).rows ≡ to 9 16 ∷ [])
  -- a row whose node is the empty node stays a row [8.25]
  pub alone_one : (length (stage_after 1 alone).table ≡ 2) × ((stage_after 1 alone).rows ≡ to 0 16 ∷ [])
  -- A, I, B and X are made although no row goes out: the two leaves are joined [8.11]
  pub two_leaves : (length (converted two_leaves).table ≡ 5) × ((converted two_leaves).node ≡ 0)
  -- final states, the lowest first [8.4]
  pub finals_ascend : final_states (record { states = 4; finals = 11; arities = []; rules = [] }) ≡ 0 ∷ 1 ∷ 3 ∷ []
  -- the bound at its largest [8.29, 8.30]
  pub bound_of_most : (node_bound 16 64 16 ≡ 1393) × (most_made ≡ 1393)
  -- how many whole nodes fit [0.25]
  pub whole_nodes : (whole_nodes (replicate 59 0) ≡ 9) × (whole_nodes (replicate 60 0) ≡ 10)
  -- nothing at level 0; a row that waits for a state is filled a level later [8.31, 8.32]
  pub accepts_none_0 : (r : ℕ) (t : Tree) → AcceptsAt waiting 0 r t → ⊥
  pub accepts_none_1 : (t : Tree) → AcceptsAt waiting 1 final_target t → ⊥
  pub accepts_2 : AcceptsAt waiting 2 final_target (leaf 0)
  pub accepts_just : (t : Tree) → Accepts waiting t ↔ (t ≡ leaf 0)

-- ---- all of them

pub record Computed : Type 0 where
  pub files : FileCases
  pub sets : SetCases
  pub runs : RunCases
  pub tables : TableCases
  pub stages : StageCases
