-- The worked drafts as one list under one claim [10.17]. Each starts from the file's bytes and speaks of every outcome that keeps the promise of the public function.
use Rattle.std.specs.Prelude.{ℕ, ◌*◌, ◌≤◌, ◌^◌, ◌≡◌, Bool, true, false, ◌⊎◌, ◌↔◌, length, take, drop, replicate}
use mathlib.Core.List.{List, [], ◌∷◌, ◌++◌, Memᴰ}
use Rattle.automaton.specs.Held.{Held}
use Rattle.automaton.specs.Checks.{holds, verdict}
use Rattle.automaton.specs.Refusals.{refusal}
use Rattle.trees.specs.declared.ReachedStates.{ReachedStates}
use Rattle.meaning.specs.Trees.{Tree, node, []ᶠ, ◌∷ᶠ◌}
use Rattle.trees.specs.Promises.{RunPromise}
use Rattle.expressions.specs.declared.Measured.{Measured}
use Rattle.automaton.specs.declared.Extent.{Extent}
use Rattle.meaning.specs.Expressions.{Denotes}
use Rattle.expressions.specs.Words.{node_width, table_of}
use Rattle.expressions.specs.Unfolding.{expr_at}
use Rattle.expressions.specs.Answers.{Measures, measured}
use Rattle.listing.specs.Answers.{Lists, listed}
use Rattle.elimination.specs.declared.ListRow.{ListRow}
use Rattle.elimination.specs.declared.Partly.{Partly}
use Rattle.elimination.specs.declared.Wholly.{Wholly}
use Rattle.theory.specs.Stages.{bound_of}
use Rattle.theory.specs.RowLists.{list_places}
use Rattle.elimination.specs.Answers.{PartlyAnswered, WhollyAnswered}
use Rattle.front.specs.Answers.{printing, Prints}
use Rattle.claims.specs.Slips.{leaf}
use Rattle.claims.specs.DraftFiles.{file_p, file_pairs, file_nested, file_endless, file_rowless, file_finalless, file_unused, file_order, file_grouping}

-- ---- answers, spelled out

-- of a full conversion: the refusal's number, the node count, the answer [8.26]
abbrev pub whole : (number nodes answer : ℕ) → Wholly
whole number nodes answer = record { refusal = refusal number; nodes = nodes; answer = answer }

-- of a partial conversion: the refusal's number, the node count, the row count, the places of the list [8.21, 8.22]
abbrev pub part : (number nodes rows : ℕ) → List ListRow → Partly
part number nodes rows list = record { refusal = refusal number; nodes = nodes; rows = rows; list = list }

-- a row of the list: its node, its target, its waiting number [8.22]
abbrev pub place : (number target waits : ℕ) → ListRow
place number target waits = record { node = number; target = target; waits = waits }

-- of a run: the refusal's number, the reached set, the yes [5.5]
abbrev pub ran : (number reached : ℕ) → Bool → ReachedStates
ran number reached says = record { refusal = refusal number; states = record { 0 = reached }; yes = says }

-- ---- what a full conversion gives, and what it denotes

-- in words that hold so many nodes or more: this answer, of so many nodes [8.26]
abbrev pub Gives : (file : List ℕ) (answer count : ℕ) → Type 0
Gives file answer count = (before after : List ℕ) (r : Wholly) → node_width * count ≤ length before → WhollyAnswered file before after r → r ≡ whole 0 count answer

-- whenever it is done, the answer in the words denotes the tree [0.13, 8.27]
abbrev pub DenotesTree : (file : List ℕ) → Tree → Type 0
DenotesTree file t =
    (before after : List ℕ) (r : Wholly) → WhollyAnswered file before after r → r.refusal.number ≡ 0 → Denotes (expr_at (table_of after r.nodes) r.answer) t

-- or it denotes these trees and no other
abbrev pub DenotesJust : (file : List ℕ) → (Tree → Type 0) → Type 0
DenotesJust file Trees =
    (before after : List ℕ) (r : Wholly) → WhollyAnswered file before after r → r.refusal.number ≡ 0
    → (t : Tree) → Denotes (expr_at (table_of after r.nodes) r.answer) t ↔ Trees t

-- the trees of the drafts that are no leaf: f(t), f(t,u) [0.6]
abbrev pub over : ℕ → Tree → Tree
over f t = node f (t ∷ᶠ []ᶠ)

abbrev pub pair : ℕ → Tree → Tree → Tree
pair f t u = node f (t ∷ᶠ u ∷ᶠ []ᶠ)

-- ---- what stands in the words and bytes for P

-- a node to a line: its kind, label, three children and open set; g of two subtrees has the label 1 + 2 × 256 [7.1, 7.2]
unfoldable pub words_p : List ℕ
words_p =
    (0 ∷ 0 ∷ 0 ∷ 0 ∷ 0 ∷ 0 ∷ [])
    ++ (1 ∷ 0 ∷ 0 ∷ 0 ∷ 0 ∷ 1 ∷ [])
    ++ (1 ∷ 1 ∷ 0 ∷ 0 ∷ 0 ∷ 2 ∷ [])
    ++ (2 ∷ 0 ∷ 0 ∷ 0 ∷ 0 ∷ 0 ∷ [])
    ++ (2 ∷ 513 ∷ 1 ∷ 1 ∷ 0 ∷ 1 ∷ [])
    ++ (2 ∷ 513 ∷ 2 ∷ 1 ∷ 0 ∷ 3 ∷ [])
    ++ (4 ∷ 0 ∷ 4 ∷ 3 ∷ 0 ∷ 0 ∷ [])
    ++ (4 ∷ 0 ∷ 5 ∷ 3 ∷ 0 ∷ 2 ∷ [])
    ++ (5 ∷ 1 ∷ 7 ∷ 0 ∷ 0 ∷ 2 ∷ [])
    ++ (4 ∷ 1 ∷ 8 ∷ 6 ∷ 0 ∷ 0 ∷ [])

-- the written-out size of each node [9.1]
unfoldable pub sizes_p : List ℕ
sizes_p = 1 ∷ 1 ∷ 1 ∷ 1 ∷ 3 ∷ 3 ∷ 5 ∷ 5 ∷ 6 ∷ 12 ∷ []

-- the listing, copied from 10.3; 32 is the blank, 10 the newline, 48 the digit 0
unfoldable pub listing_p : List ℕ
listing_p =
    -- 0 empty
    (48 ∷ 32 ∷ 101 ∷ 109 ∷ 112 ∷ 116 ∷ 121 ∷ 10 ∷ [])
    -- 1 hole 0
    ++ (49 ∷ 32 ∷ 104 ∷ 111 ∷ 108 ∷ 101 ∷ 32 ∷ 48 ∷ 10 ∷ [])
    -- 2 hole 1
    ++ (50 ∷ 32 ∷ 104 ∷ 111 ∷ 108 ∷ 101 ∷ 32 ∷ 49 ∷ 10 ∷ [])
    -- 3 symbol 0
    ++ (51 ∷ 32 ∷ 115 ∷ 121 ∷ 109 ∷ 98 ∷ 111 ∷ 108 ∷ 32 ∷ 48 ∷ 10 ∷ [])
    -- 4 symbol 1 1 1
    ++ (52 ∷ 32 ∷ 115 ∷ 121 ∷ 109 ∷ 98 ∷ 111 ∷ 108 ∷ 32 ∷ 49 ∷ 32 ∷ 49 ∷ 32 ∷ 49 ∷ 10 ∷ [])
    -- 5 symbol 1 2 1
    ++ (53 ∷ 32 ∷ 115 ∷ 121 ∷ 109 ∷ 98 ∷ 111 ∷ 108 ∷ 32 ∷ 49 ∷ 32 ∷ 50 ∷ 32 ∷ 49 ∷ 10 ∷ [])
    -- 6 cat 0 4 3
    ++ (54 ∷ 32 ∷ 99 ∷ 97 ∷ 116 ∷ 32 ∷ 48 ∷ 32 ∷ 52 ∷ 32 ∷ 51 ∷ 10 ∷ [])
    -- 7 cat 0 5 3
    ++ (55 ∷ 32 ∷ 99 ∷ 97 ∷ 116 ∷ 32 ∷ 48 ∷ 32 ∷ 53 ∷ 32 ∷ 51 ∷ 10 ∷ [])
    -- 8 iter 1 7
    ++ (56 ∷ 32 ∷ 105 ∷ 116 ∷ 101 ∷ 114 ∷ 32 ∷ 49 ∷ 32 ∷ 55 ∷ 10 ∷ [])
    -- 9 cat 1 8 6
    ++ (57 ∷ 32 ∷ 99 ∷ 97 ∷ 116 ∷ 32 ∷ 49 ∷ 32 ∷ 56 ∷ 32 ∷ 54 ∷ 10 ∷ [])
    -- answer 9
    ++ (97 ∷ 110 ∷ 115 ∷ 119 ∷ 101 ∷ 114 ∷ 32 ∷ 57 ∷ 10 ∷ [])

-- ---- what stands in the words for the last two

-- in the order A, I, B, X: nodes 6 to 9 [10.15]
unfoldable pub words_order : List ℕ
words_order =
    (0 ∷ 0 ∷ 0 ∷ 0 ∷ 0 ∷ 0 ∷ [])
    ++ (1 ∷ 0 ∷ 0 ∷ 0 ∷ 0 ∷ 1 ∷ [])
    ++ (2 ∷ 0 ∷ 0 ∷ 0 ∷ 0 ∷ 0 ∷ [])
    ++ (2 ∷ 1 ∷ 0 ∷ 0 ∷ 0 ∷ 0 ∷ [])
    ++ (2 ∷ 258 ∷ 1 ∷ 0 ∷ 0 ∷ 1 ∷ [])
    ++ (2 ∷ 259 ∷ 1 ∷ 0 ∷ 0 ∷ 1 ∷ [])
    ++ (3 ∷ 0 ∷ 4 ∷ 5 ∷ 0 ∷ 1 ∷ [])
    ++ (5 ∷ 0 ∷ 6 ∷ 0 ∷ 0 ∷ 1 ∷ [])
    ++ (3 ∷ 0 ∷ 2 ∷ 3 ∷ 0 ∷ 0 ∷ [])
    ++ (4 ∷ 0 ∷ 7 ∷ 8 ∷ 0 ∷ 0 ∷ [])

-- joins of three grouped to the left: nodes 8 and 9, nodes 11 and 12 [10.16]
unfoldable pub words_grouping : List ℕ
words_grouping =
    (0 ∷ 0 ∷ 0 ∷ 0 ∷ 0 ∷ 0 ∷ [])
    ++ (1 ∷ 0 ∷ 0 ∷ 0 ∷ 0 ∷ 1 ∷ [])
    ++ (2 ∷ 0 ∷ 0 ∷ 0 ∷ 0 ∷ 0 ∷ [])
    ++ (2 ∷ 1 ∷ 0 ∷ 0 ∷ 0 ∷ 0 ∷ [])
    ++ (2 ∷ 2 ∷ 0 ∷ 0 ∷ 0 ∷ 0 ∷ [])
    ++ (2 ∷ 259 ∷ 1 ∷ 0 ∷ 0 ∷ 1 ∷ [])
    ++ (2 ∷ 260 ∷ 1 ∷ 0 ∷ 0 ∷ 1 ∷ [])
    ++ (2 ∷ 261 ∷ 1 ∷ 0 ∷ 0 ∷ 1 ∷ [])
    ++ (3 ∷ 0 ∷ 5 ∷ 6 ∷ 0 ∷ 1 ∷ [])
    ++ (3 ∷ 0 ∷ 8 ∷ 7 ∷ 0 ∷ 1 ∷ [])
    ++ (5 ∷ 0 ∷ 9 ∷ 0 ∷ 0 ∷ 1 ∷ [])
    ++ (3 ∷ 0 ∷ 2 ∷ 3 ∷ 0 ∷ 0 ∷ [])
    ++ (3 ∷ 0 ∷ 11 ∷ 4 ∷ 0 ∷ 0 ∷ [])
    ++ (4 ∷ 0 ∷ 10 ∷ 12 ∷ 0 ∷ 0 ∷ [])

-- one of these leaves under any number of these symbols [10.15, 10.16]
pub data Chain (leaves overs : List ℕ) : Tree → Type 0 where
  ends : {f : ℕ} → Memᴰ f leaves → Chain leaves overs (leaf f)
  goes : {f : ℕ} {t : Tree} → Memᴰ f overs → Chain leaves overs t → Chain leaves overs (over f t)

-- ---- the list

pub record WorkedDrafts : Type 0 where
  -- P converted: 10 nodes, answer 9, and in more than 60 words those past the 60 stay [10.4, 10.6]
  pub p_whole : (before after : List ℕ) (r : Wholly) → 60 ≤ length before → WhollyAnswered file_p before after r
      → (r ≡ whole 0 10 9) × (after ≡ words_p ++ drop 60 before)
  pub p_in_60 : (before after : List ℕ) (r : Wholly) → length before ≡ 60 → WhollyAnswered file_p before after r
      → (r ≡ whole 0 10 9) × (after ≡ words_p)
  -- its written-out size [10.4]
  pub p_size : (before after scratch sizes : List ℕ) (r : Wholly) (m : Measured) → 60 ≤ length before → WhollyAnswered file_p before after r
      → 10 ≤ length scratch → Measures after r.nodes r.answer scratch sizes m
      → (m ≡ measured 0 12) × (sizes ≡ sizes_p ++ drop 10 scratch)
  -- its listing, of 123 bytes [10.3]
  pub p_listing : (before after out bytes : List ℕ) (r : Wholly) (l : Extent) → 60 ≤ length before → WhollyAnswered file_p before after r
      → 123 ≤ length out → Lists after r.nodes r.answer out bytes l
      → (l ≡ listed 0 123) × (bytes ≡ listing_p ++ drop 123 out)
  -- which is also the text for P [9.11, 10.3]
  pub p_printed : (nodes after out bytes : List ℕ) (r : Extent) → 60 ≤ length nodes → 123 ≤ length out → Prints file_p nodes after out bytes r
      → (r ≡ printing 0 123) × (bytes ≡ listing_p ++ drop 123 out)
  -- the bound for P [10.4]
  pub p_bound : (held : Held) → verdict file_p ≡ holds held → bound_of held ≡ 17
  -- P after one state [10.5]
  pub p_one_step : (before after : List ℕ) (r : Partly) → 48 ≤ length before → PartlyAnswered file_p 1 before after r
      → (r ≡ part 0 8 3 (place 6 1 0 ∷ place 7 1 1 ∷ place 2 16 1 ∷ replicate 77 (place 0 0 0))) × (after ≡ take 48 words_p ++ drop 48 before)
  -- P in 59 words [10.6]
  pub p_in_59 : (before after : List ℕ) (r : Wholly) → length before ≡ 59 → WhollyAnswered file_p before after r
      → (r ≡ whole 6 0 0) × (after ≡ replicate 59 0)
  -- P for three states [10.7]
  pub p_three_steps : (before after : List ℕ) (r : Partly) → PartlyAnswered file_p 3 before after r
      → (r ≡ part 9 0 0 (replicate list_places (place 0 0 0))) × (after ≡ before)
  -- the runs of P: g(a,a) [10.8]
  pub p_100 : (r : ReachedStates) → RunPromise file_p (1 ∷ 0 ∷ 0 ∷ []) r → r ≡ ran 0 (2 ^ 1) true
  -- g(g(a,a),a) [10.8]
  pub p_11000 : (r : ReachedStates) → RunPromise file_p (1 ∷ 1 ∷ 0 ∷ 0 ∷ 0 ∷ []) r → r ≡ ran 0 (2 ^ 1) true
  -- g(a,g(a,a)) [10.8]
  pub p_10100 : (r : ReachedStates) → RunPromise file_p (1 ∷ 0 ∷ 1 ∷ 0 ∷ 0 ∷ []) r → r ≡ ran 0 0 false
  -- a [10.8]
  pub p_0 : (r : ReachedStates) → RunPromise file_p (0 ∷ []) r → r ≡ ran 0 (2 ^ 0) false
  -- half a tree, two trees, none [10.8]
  pub p_10 : (r : ReachedStates) → RunPromise file_p (1 ∷ 0 ∷ []) r → r ≡ ran 7 0 false
  pub p_00 : (r : ReachedStates) → RunPromise file_p (0 ∷ 0 ∷ []) r → r ≡ ran 7 0 false
  pub p_none : (r : ReachedStates) → RunPromise file_p [] r → r ≡ ran 7 0 false
  -- the four pairs [10.9]
  pub pairs_gives : Gives file_pairs 7 8
  pub pairs_denotes : DenotesJust file_pairs
      (λ t. (t ≡ pair 2 (leaf 0) (leaf 0)) ⊎ (t ≡ pair 2 (leaf 0) (leaf 1)) ⊎ (t ≡ pair 2 (leaf 1) (leaf 0)) ⊎ (t ≡ pair 2 (leaf 1) (leaf 1)))
  -- g over g over a, among others [10.10]
  pub nested_gives : Gives file_nested 5 6
  pub nested_denotes : DenotesTree file_nested (pair 1 (pair 1 (leaf 0) (leaf 0)) (leaf 0))
  -- nothing, since nothing begins [10.11]
  pub endless_gives : Gives file_endless 4 5
  pub endless_denotes : DenotesJust file_endless (λ t. ⊥)
  -- nothing, without rows [10.12]
  pub rowless_gives : Gives file_rowless 0 2
  pub rowless_denotes : DenotesJust file_rowless (λ t. ⊥)
  -- nothing, without a final state [10.13]
  pub finalless_gives : Gives file_finalless 0 3
  pub finalless_denotes : DenotesJust file_finalless (λ t. ⊥)
  -- g(a) alone [10.14]
  pub unused_gives : Gives file_unused 9 10
  pub unused_denotes : DenotesJust file_unused (λ t. t ≡ over 2 (leaf 0))
  -- a or b under any number of g and h; the words fix the order A, I, B, X [10.15]
  pub order_whole : (before after : List ℕ) (r : Wholly) → 60 ≤ length before → WhollyAnswered file_order before after r
      → (r ≡ whole 0 10 9) × (after ≡ words_order ++ drop 60 before)
  pub order_denotes : DenotesJust file_order (Chain (0 ∷ 1 ∷ []) (2 ∷ 3 ∷ []))
  -- a, b or c under any number of g, h and k; the words fix how a join groups [10.16]
  pub grouping_whole : (before after : List ℕ) (r : Wholly) → 84 ≤ length before → WhollyAnswered file_grouping before after r
      → (r ≡ whole 0 14 13) × (after ≡ words_grouping ++ drop 84 before)
  pub grouping_denotes : DenotesJust file_grouping (Chain (0 ∷ 1 ∷ 2 ∷ []) (3 ∷ 4 ∷ 5 ∷ []))
