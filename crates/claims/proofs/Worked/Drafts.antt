-- What the definitions give for the worked drafts, node by node, and which trees they denote.
use Prim.Native.Nat.{ℕ, ◌^◌}
use native.Mathlib.Omega.{arith}
use mathlib.Core.Path.{◌≡◌, refl, sym, ◌∙◌, ap, subst}
use mathlib.Core.Bool.{true, false≢true}
use mathlib.Core.List.Memᴰ
use mathlib.Core.List.{List, [], ◌∷◌, ◌++◌, map, Memᴰ}
use mathlib.Core.Logic.{◌⊎◌, inl, inr, ◌↔◌}
use lib.ListN.{length, get_or}
use borrow.Author.Tests.{eqb-true, eq-eqb}
use Rattle.sets.specs.Members.{has, set_of, empty_set, one_set, union, without}
use Rattle.sets.proofs.Bits.{has-pow, has-zero}
use Rattle.automaton.specs.Held.{Rule, Held, Valid}
use Rattle.meaning.specs.Trees.{Tree, Forest, hole, node, []ᶠ, ◌∷ᶠ◌}
use Rattle.trees.specs.Runs.{Reaches, ReachesEach, Accepted}
use Rattle.meaning.specs.Expressions.{Denotes}
use Rattle.expressions.specs.Nodes.{label_of, children, child_count}
use Rattle.expressions.specs.Words.{encode, words_of}
use Rattle.expressions.specs.Unfolding.{expr_at}
use Rattle.expressions.specs.Soundness.{cat_opens, opens_of, opens_in, completed}
use Rattle.ground.specs.Lists.{those}
use Rattle.theory.specs.RowLists.{ascending, final_states}
use Rattle.theory.specs.Stages.{holes_table, rule_shape, rules_table, start_table, rule_rows, start, alt_made, cat_made, iter_made, join_made_from, join_made, looping_node, incoming_node, outgoing_node, stand_in_made, replaced_made, replaced_rows, remains_node, eliminated_stage, eliminated_stages, stage_after, join_stage, converted, node_bound, bound_of}
use Rattle.theory.proofs.Theorem.{wholly-ascending}
use Rattle.claims.specs.Slips.{leaf}
use Rattle.claims.specs.WorkedDrafts.{over, pair, words_p, words_order, words_grouping, Chain, ends, goes}
use Rattle.claims.specs.ComputedFiles.{rule, held_p}

-- what the drafts' files hold [10.2, 10.9 to 10.16]
abbrev pub P : Held
P = held_p

abbrev pub pairs : Held
pairs = record { states = 2; finals = 2; arities = 0 ∷ 0 ∷ 2 ∷ []; rules = rule 0 0 [] ∷ rule 1 0 [] ∷ rule 2 1 (0 ∷ 0 ∷ []) ∷ [] }

abbrev pub nested : Held
nested = record { states = 1; finals = 1; arities = 0 ∷ 2 ∷ []; rules = rule 0 0 [] ∷ rule 1 0 (0 ∷ 0 ∷ []) ∷ [] }

abbrev pub endless : Held
endless = record { states = 1; finals = 1; arities = 1 ∷ []; rules = rule 0 0 (0 ∷ []) ∷ [] }

abbrev pub rowless : Held
rowless = record { states = 1; finals = 1; arities = 0 ∷ []; rules = [] }

abbrev pub finalless : Held
finalless = record { states = 1; finals = 0; arities = 0 ∷ []; rules = rule 0 0 [] ∷ [] }

abbrev pub unused : Held
unused = record { states = 3; finals = 4; arities = 0 ∷ 1 ∷ 1 ∷ []; rules = rule 0 0 [] ∷ rule 1 0 (1 ∷ []) ∷ rule 2 2 (0 ∷ []) ∷ [] }

-- leaves to 0, and symbols over 0 to 0
abbrev pub chain_rules : List ℕ → List ℕ → List Rule
chain_rules leaves overs = map (λ f. rule f 0 []) leaves ++ map (λ f. rule f 0 (0 ∷ [])) overs

abbrev pub order : Held
order = record { states = 1; finals = 1; arities = 0 ∷ 0 ∷ 1 ∷ 1 ∷ []; rules = chain_rules (0 ∷ 1 ∷ []) (2 ∷ 3 ∷ []) }

abbrev pub grouping : Held
grouping = record { states = 1; finals = 1; arities = 0 ∷ 0 ∷ 0 ∷ 1 ∷ 1 ∷ 1 ∷ []; rules = chain_rules (0 ∷ 1 ∷ 2 ∷ []) (3 ∷ 4 ∷ 5 ∷ []) }

-- P with its symbols exchanged
abbrev pub exchanged : Held
exchanged = record { states = 2; finals = 2; arities = 2 ∷ 0 ∷ []; rules = rule 1 0 [] ∷ rule 0 1 (0 ∷ 0 ∷ []) ∷ rule 0 1 (1 ∷ 0 ∷ []) ∷ [] }

-- an answer of so many nodes
abbrev pub Gives : Held → ℕ → ℕ → Type 0
Gives held answer count = ((converted held).node ≡ answer) × (length (converted held).table ≡ count)

pub record Numbers : Type 0 where
  pub p_gives : Gives P 9 10
  pub p_bound : bound_of P ≡ 17
  pub p_words : words_of (converted P).table ≡ words_p
  pub p_one_nodes : length (stage_after 1 P).table ≡ 8
  pub pairs_gives : Gives pairs 7 8
  pub nested_gives : Gives nested 5 6
  pub endless_gives : Gives endless 4 5
  pub rowless_gives : Gives rowless 0 2
  pub finalless_gives : Gives finalless 0 3
  pub unused_gives : Gives unused 9 10
  pub order_gives : Gives order 9 10
  pub order_words : words_of (converted order).table ≡ words_order
  pub grouping_gives : Gives grouping 13 14
  pub grouping_words : words_of (converted grouping).table ≡ words_grouping
  pub exchanged_gives : Gives exchanged 9 10
  -- the label of the first symbol node, and of the one after it, where others than P have another
  pub pairs_label : (rest : List ℕ) → get_or (words_of (converted pairs).table ++ rest) 25 0 ≡ 1
  pub exchanged_label : (rest : List ℕ) → get_or (words_of (converted exchanged).table ++ rest) 19 0 ≡ 1
  -- the kind of P's node 6, and of its node 8: past the table as long as it is not made
  pub p_none_6 : (rest : List ℕ) → get_or (words_of (stage_after 0 P).table ++ rest) 36 0 ≡ get_or rest 0 0
  pub p_one_6 : (rest : List ℕ) → get_or (words_of (stage_after 1 P).table ++ rest) 36 0 ≡ 4
  pub p_one_8 : (rest : List ℕ) → get_or (words_of (stage_after 1 P).table ++ rest) 48 0 ≡ get_or rest 0 0
  pub p_both_8 : (rest : List ℕ) → get_or (words_of (stage_after 2 P).table ++ rest) 48 0 ≡ 5

pub numbers : Numbers
unfolding words_p words_order words_grouping node_bound words_of encode converted stage_after eliminated_stages eliminated_stage start start_table holes_table rules_table rule_shape rule_rows final_states those ascending join_stage join_made join_made_from alt_made cat_made iter_made stand_in_made replaced_rows replaced_made looping_node incoming_node outgoing_node remains_node completed opens_in opens_of cat_opens children child_count label_of has union without one_set empty_set set_of
numbers = record {
  p_gives = (refl, refl);
  p_bound = refl;
  p_words = refl;
  p_one_nodes = refl;
  pairs_gives = (refl, refl);
  nested_gives = (refl, refl);
  endless_gives = (refl, refl);
  rowless_gives = (refl, refl);
  finalless_gives = (refl, refl);
  unused_gives = (refl, refl);
  order_gives = (refl, refl);
  order_words = refl;
  grouping_gives = (refl, refl);
  grouping_words = refl;
  exchanged_gives = (refl, refl);
  pairs_label = λ rest. refl;
  exchanged_label = λ rest. refl;
  p_none_6 = λ rest. refl;
  p_one_6 = λ rest. refl;
  p_one_8 = λ rest. refl;
  p_both_8 = λ rest. refl;
}

-- ---- which trees they denote

pairs-valid : Valid pairs
pairs-valid = omega arith

nested-valid : Valid nested
nested-valid = omega arith

endless-valid : Valid endless
endless-valid = omega arith

unused-valid : Valid unused
unused-valid = omega arith

rowless-valid : Valid rowless
rowless-valid = omega arith

finalless-valid : Valid finalless
finalless-valid = omega arith

order-valid : Valid order
order-valid = omega arith

grouping-valid : Valid grouping
grouping-valid = omega arith

-- the answer denotes the tree
abbrev pub AnswerDenotes : Held → Tree → Type 0
AnswerDenotes held t = Denotes (expr_at (converted held).table (converted held).node) t

-- the one final state
only-final : (f q : ℕ) → has (2 ^ f) q ≡ true → q ≡ f
only-final f q h = eqb-true q f (sym (has-pow f q) ∙ h)

is-final : (f : ℕ) → has (2 ^ f) f ≡ true
is-final f = has-pow f f ∙ eq-eqb f f refl

module _ (rules : List Rule) where
  each_none : (ts : Forest) → ReachesEach rules ts [] → ts ≡ []ᶠ
  each_none []ᶠ x = refl
  each_none (t ∷ᶠ ts) x = absurd x

  each-one : (ts : Forest) (q : ℕ) → ReachesEach rules ts (q ∷ []) → (t : Tree) × (ts ≡ t ∷ᶠ []ᶠ) × Reaches rules t q
  each-one []ᶠ q x = absurd x
  each-one (t ∷ᶠ ts) q x = (t, ap (t ∷ᶠ◌) (each_none ts x.1), x.0)

  each_two : (ts : Forest) (q p : ℕ) → ReachesEach rules ts (q ∷ p ∷ []) → (t u : Tree) × (ts ≡ t ∷ᶠ u ∷ᶠ []ᶠ) × Reaches rules t q × Reaches rules u p
  each_two []ᶠ q p x = absurd x
  each_two (t ∷ᶠ ts) q p x = let c = each-one ts p x.1 in (t, c.0, ap (t ∷ᶠ◌) c.1, x.0, c.2)

  -- the sources of a known row
  each_of : (ts : Forest) (r s : Rule) → r ≡ s → ReachesEach rules ts r.sources → ReachesEach rules ts s.sources
  each_of ts r s e x = subst (λ (r : Rule). ReachesEach rules ts r.sources) e x

-- ---- the four pairs

abbrev pub Leaf : Tree → Type 0
Leaf t = (t ≡ leaf 0) ⊎ (t ≡ leaf 1)

pairs-leaf : (t : Tree) → Reaches pairs.rules t 0 → Leaf t
pairs-leaf (hole p) x = absurd x
pairs-leaf (node f ts) x = go x.0 x.1 x.2 x.3 x.4
  where
    go : (r : Rule) → Memᴰ r pairs.rules → r.symbol ≡ f → r.target ≡ 0 → ReachesEach pairs.rules ts r.sources → Leaf (node f ts)
    go r (Memᴰ.head e) i j k = let z = each_none pairs.rules ts (each_of pairs.rules ts r (rule 0 0 []) e k) in inl (cc)
    go r (Memᴰ.tail (Memᴰ.head e)) i j k = let z = each_none pairs.rules ts (each_of pairs.rules ts r (rule 1 0 []) e k) in inr (cc)
    go r (Memᴰ.tail (Memᴰ.tail (Memᴰ.head e))) i j k = absurd (let z = ap (λ (r : Rule). r.target) e in omega arith)
    go r (Memᴰ.tail (Memᴰ.tail (Memᴰ.tail m))) i j k = absurd (Memᴰ.not-nil m)

pairs-pair : (t : Tree) → Reaches pairs.rules t 1 → (u v : Tree) × (t ≡ pair 2 u v) × Leaf u × Leaf v
pairs-pair (hole p) x = absurd x
pairs-pair (node f ts) x = go x.0 x.1 x.2 x.3 x.4
  where
    go : (r : Rule) → Memᴰ r pairs.rules → r.symbol ≡ f → r.target ≡ 1 → ReachesEach pairs.rules ts r.sources → (u v : Tree) × (node f ts ≡ pair 2 u v) × Leaf u × Leaf v
    go r (Memᴰ.head e) i j k = absurd (let z = ap (λ (r : Rule). r.target) e in omega arith)
    go r (Memᴰ.tail (Memᴰ.head e)) i j k = absurd (let z = ap (λ (r : Rule). r.target) e in omega arith)
    go r (Memᴰ.tail (Memᴰ.tail (Memᴰ.head e))) i j k =
        let c = each_two pairs.rules ts 0 0 (each_of pairs.rules ts r (rule 2 1 (0 ∷ 0 ∷ [])) e k) in
        let z = c.2 in
        (c.0, c.1, (cc), pairs-leaf c.0 c.3, pairs-leaf c.1 c.4)
    go r (Memᴰ.tail (Memᴰ.tail (Memᴰ.tail m))) i j k = absurd (Memᴰ.not-nil m)

leaf-pairs : (t : Tree) → Leaf t → Reaches pairs.rules t 0
leaf-pairs t (inl e) = rw e (rule 0 0 [], Memᴰ.head refl, refl, refl, tt)
leaf-pairs t (inr e) = rw e (rule 1 0 [], Memᴰ.tail (Memᴰ.head refl), refl, refl, tt)

pub pairs_denotes : (t : Tree) → AnswerDenotes pairs t ↔ ((u v : Tree) × (t ≡ pair 2 u v) × Leaf u × Leaf v)
pairs_denotes t = (λ x. of (((wholly-ascending pairs pairs-valid).denotes t).0 x), λ x. ((wholly-ascending pairs pairs-valid).denotes t).1 (to x))
  where
    of : Accepted pairs t → (u v : Tree) × (t ≡ pair 2 u v) × Leaf u × Leaf v
    of x = pairs-pair t (rw (only-final 1 x.0 x.1) at x.2)

    to : (u v : Tree) × (t ≡ pair 2 u v) × Leaf u × Leaf v → Accepted pairs t
    to x =
        rw x.2
        (1, is-final 1, (rule 2 1 (0 ∷ 0 ∷ []), Memᴰ.tail (Memᴰ.tail (Memᴰ.head refl)), refl, refl, (leaf-pairs x.0 x.3, (leaf-pairs x.1 x.4, tt))))

-- ---- among others

pub nested_denotes : AnswerDenotes nested (pair 1 (pair 1 (leaf 0) (leaf 0)) (leaf 0))
nested_denotes = ((wholly-ascending nested nested-valid).denotes (pair 1 (pair 1 (leaf 0) (leaf 0)) (leaf 0))).1 (0, is-final 0, g (pair 1 (leaf 0) (leaf 0)) (leaf 0) (g (leaf 0) (leaf 0) a a) a)
  where
    a : Reaches nested.rules (leaf 0) 0
    a = (rule 0 0 [], Memᴰ.head refl, refl, refl, tt)

    g : (t u : Tree) → Reaches nested.rules t 0 → Reaches nested.rules u 0 → Reaches nested.rules (pair 1 t u) 0
    g t u x y = (rule 1 0 (0 ∷ 0 ∷ []), Memᴰ.tail (Memᴰ.head refl), refl, refl, (x, (y, tt)))

-- ---- nothing

rowless-none : (t : Tree) (q : ℕ) → Reaches rowless.rules t q → ⊥
rowless-none (hole p) q x = x
rowless-none (node f ts) q x = Memᴰ.not-nil x.1

pub rowless_denotes : (t : Tree) → AnswerDenotes rowless t → ⊥
rowless_denotes t x = let c = ((wholly-ascending rowless rowless-valid).denotes t).0 x in rowless-none t c.0 c.2

pub finalless_denotes : (t : Tree) → AnswerDenotes finalless t → ⊥
finalless_denotes t x = let c = ((wholly-ascending finalless finalless-valid).denotes t).0 x in false≢true (sym (has-zero c.0) ∙ c.1)

endless-sources : (ts : Forest) (r : Rule) → Memᴰ r endless.rules → ReachesEach endless.rules ts r.sources → ReachesEach endless.rules ts (0 ∷ [])
endless-sources ts r (Memᴰ.head e) x = each_of endless.rules ts r (rule 0 0 (0 ∷ [])) e x
endless-sources ts r (Memᴰ.tail m) x = absurd (Memᴰ.not-nil m)

mutual
  endless-none : (t : Tree) (q : ℕ) → Reaches endless.rules t q → ⊥
  endless-none (hole p) q x = x
  endless-none (node f ts) q x = endless-nones ts (endless-sources ts x.0 x.1 x.4)

  endless-nones : (ts : Forest) → ReachesEach endless.rules ts (0 ∷ []) → ⊥
  endless-nones []ᶠ x = x
  endless-nones (t ∷ᶠ ts) x = endless-none t 0 x.0

pub endless_denotes : (t : Tree) → AnswerDenotes endless t → ⊥
endless_denotes t x = let c = ((wholly-ascending endless endless-valid).denotes t).0 x in endless-none t c.0 c.2

-- ---- one tree

unused-none : (t : Tree) → Reaches unused.rules t 1 → ⊥
unused-none (hole p) x = x
unused-none (node f ts) x = go x.0 x.1 x.3
  where
    go : (r : Rule) → Memᴰ r unused.rules → r.target ≡ 1 → ⊥
    go r (Memᴰ.head e) j = let z = ap (λ (r : Rule). r.target) e in omega arith
    go r (Memᴰ.tail (Memᴰ.head e)) j = let z = ap (λ (r : Rule). r.target) e in omega arith
    go r (Memᴰ.tail (Memᴰ.tail (Memᴰ.head e))) j = let z = ap (λ (r : Rule). r.target) e in omega arith
    go r (Memᴰ.tail (Memᴰ.tail (Memᴰ.tail m))) j = Memᴰ.not-nil m

unused-leaf : (t : Tree) → Reaches unused.rules t 0 → t ≡ leaf 0
unused-leaf (hole p) x = absurd x
unused-leaf (node f ts) x = go x.0 x.1 x.2 x.3 x.4
  where
    go : (r : Rule) → Memᴰ r unused.rules → r.symbol ≡ f → r.target ≡ 0 → ReachesEach unused.rules ts r.sources → node f ts ≡ leaf 0
    go r (Memᴰ.head e) i j k = let z = each_none unused.rules ts (each_of unused.rules ts r (rule 0 0 []) e k) in cc
    go r (Memᴰ.tail (Memᴰ.head e)) i j k =
        let c = each-one unused.rules ts 1 (each_of unused.rules ts r (rule 1 0 (1 ∷ [])) e k) in
        absurd (unused-none c.0 c.2)
    go r (Memᴰ.tail (Memᴰ.tail (Memᴰ.head e))) i j k = absurd (let z = ap (λ (r : Rule). r.target) e in omega arith)
    go r (Memᴰ.tail (Memᴰ.tail (Memᴰ.tail m))) i j k = absurd (Memᴰ.not-nil m)

unused-over : (t : Tree) → Reaches unused.rules t 2 → t ≡ over 2 (leaf 0)
unused-over (hole p) x = absurd x
unused-over (node f ts) x = go x.0 x.1 x.2 x.3 x.4
  where
    go : (r : Rule) → Memᴰ r unused.rules → r.symbol ≡ f → r.target ≡ 2 → ReachesEach unused.rules ts r.sources → node f ts ≡ over 2 (leaf 0)
    go r (Memᴰ.head e) i j k = absurd (let z = ap (λ (r : Rule). r.target) e in omega arith)
    go r (Memᴰ.tail (Memᴰ.head e)) i j k = absurd (let z = ap (λ (r : Rule). r.target) e in omega arith)
    go r (Memᴰ.tail (Memᴰ.tail (Memᴰ.head e))) i j k =
        let c = each-one unused.rules ts 0 (each_of unused.rules ts r (rule 2 2 (0 ∷ [])) e k) in
        let z = c.1 in
        let z' = unused-leaf c.0 c.2 in
        cc
    go r (Memᴰ.tail (Memᴰ.tail (Memᴰ.tail m))) i j k = absurd (Memᴰ.not-nil m)

pub unused_denotes : (t : Tree) → AnswerDenotes unused t ↔ (t ≡ over 2 (leaf 0))
unused_denotes t = (λ x. of (((wholly-ascending unused unused-valid).denotes t).0 x), λ e. ((wholly-ascending unused unused-valid).denotes t).1 (rw e to))
  where
    of : Accepted unused t → t ≡ over 2 (leaf 0)
    of x = unused-over t (rw (only-final 2 x.0 x.1) at x.2)

    to : Accepted unused (over 2 (leaf 0))
    to = (
      2,
      is-final 2,
      (rule 2 2 (0 ∷ []), Memᴰ.tail (Memᴰ.tail (Memᴰ.head refl)), refl, refl, ((rule 0 0 [], Memᴰ.head refl, refl, refl, tt), tt)),
    )

-- ---- leaves under any number of symbols

module _ (leaves overs : List ℕ) where
  ends_at : (f : ℕ) (ts : Forest) → Memᴰ f leaves → ReachesEach (chain_rules leaves overs) ts [] → Chain leaves overs (node f ts)
  ends_at f []ᶠ m x = ends m
  ends_at f (t ∷ᶠ ts) m x = absurd x

  -- the row that was used is a leaf's, or one over a subtree
  row_of : (f : ℕ) (ts : Forest) → (Memᴰ f overs → ReachesEach (chain_rules leaves overs) ts (0 ∷ []) → Chain leaves overs (node f ts))
      → (r : Rule) → r.symbol ≡ f → ReachesEach (chain_rules leaves overs) ts r.sources
      → Memᴰ r (map (λ g. rule g 0 []) leaves) ⊎ Memᴰ r (map (λ g. rule g 0 (0 ∷ [])) overs) → Chain leaves overs (node f ts)
  row_of f ts over-one r s x (inl m) =
      let c = Memᴰ.of_map (λ g. rule g 0 []) leaves m in
      ends_at f ts (Memᴰ.cast (sym s ∙ sym (ap (λ (a : Rule). a.symbol) c.2)) c.1) (each_of (chain_rules leaves overs) ts r (rule c.0 0 []) (sym c.2) x)
  row_of f ts over-one r s x (inr m) =
      let c = Memᴰ.of_map (λ g. rule g 0 (0 ∷ [])) overs m in
      over-one (Memᴰ.cast (sym s ∙ sym (ap (λ (a : Rule). a.symbol) c.2)) c.1) (each_of (chain_rules leaves overs) ts r (rule c.0 0 (0 ∷ [])) (sym c.2) x)

  mutual
    chain-of : (t : Tree) → Reaches (chain_rules leaves overs) t 0 → Chain leaves overs t
    chain-of (hole p) x = absurd x
    chain-of (node f ts) x = row_of f ts (λ m y. chain-over f ts m y) x.0 x.2 x.4 (Memᴰ.append_cases (map (λ g. rule g 0 []) leaves) x.1)

    chain-over : (f : ℕ) (ts : Forest) → Memᴰ f overs → ReachesEach (chain_rules leaves overs) ts (0 ∷ []) → Chain leaves overs (node f ts)
    chain-over f []ᶠ m x = absurd x
    chain-over f (t ∷ᶠ []ᶠ) m x = goes m (chain-of t x.0)
    chain-over f (t ∷ᶠ u ∷ᶠ ts) m x = absurd x.1

  of-chain : (t : Tree) → Chain leaves overs t → Reaches (chain_rules leaves overs) t 0
  of-chain t (ends {f = f} m) = (rule f 0 [], Memᴰ.append_left _ (Memᴰ.map (λ g. rule g 0 []) m), refl, refl, tt)
  of-chain t (goes {f = f} {t = u} m c) =
      (rule f 0 (0 ∷ []), Memᴰ.append_right (map (λ g. rule g 0 []) leaves) (Memᴰ.map (λ g. rule g 0 (0 ∷ [])) m), refl, refl, (of-chain u c, tt))

  -- with state 0 final
  accepts-chain : (held : Held) → held.finals ≡ 1 → held.rules ≡ chain_rules leaves overs → (t : Tree) → Accepted held t ↔ Chain leaves overs t
  accepts-chain held e d t = (λ x. chain-of t (rw (d, only-final 0 x.0 (rw e at x.1)) at x.2), λ c. (0, rw e (is-final 0), rw d (of-chain t c)))

pub order_denotes : (t : Tree) → AnswerDenotes order t ↔ Chain (0 ∷ 1 ∷ []) (2 ∷ 3 ∷ []) t
order_denotes t =
    let a = accepts-chain (0 ∷ 1 ∷ []) (2 ∷ 3 ∷ []) order refl refl t in
    let d = (wholly-ascending order order-valid).denotes t in
    (λ x. a.0 (d.0 x), λ c. d.1 (a.1 c))

pub grouping_denotes : (t : Tree) → AnswerDenotes grouping t ↔ Chain (0 ∷ 1 ∷ 2 ∷ []) (3 ∷ 4 ∷ 5 ∷ []) t
grouping_denotes t =
    let a = accepts-chain (0 ∷ 1 ∷ 2 ∷ []) (3 ∷ 4 ∷ 5 ∷ []) grouping refl refl t in
    let d = (wholly-ascending grouping grouping-valid).denotes t in
    (λ x. a.0 (d.0 x), λ c. d.1 (a.1 c))
