-- The bound on a conversion's nodes, for every order of the states.
use Prim.Native.Nat.{ℕ, zero, suc, ◌+◌, ◌*◌, ◌<◌, ◌≤◌, ◌-◌}
use native.Mathlib.Omega.{arith}
use native.Mathlib.Nat.{suc-mul, mul-le-mul_left, mul-le-mul_right, mul-le-mul, add-zero, add-suc}
use mathlib.Core.Path.{◌≡◌, refl, ◌∙◌, ap, ap₂, sym}
use mathlib.Core.Bool.{Bool, true, false, cond}
use mathlib.Core.List.Memᴰ
use mathlib.Core.List.{List, [], ◌∷◌, ◌++◌, map, Memᴰ}
use lib.ListN.{length, length-append, length-map}
use lib.Dec.{eqb}
use borrow.Author.Tests.{ne_eqb, eq-eqb}
use Rattle.sets.specs.Members.{has, how_many, size, state_width}
use Rattle.sets.proofs.Bits.{has-high}
use Rattle.automaton.specs.Held.{Rule, Held, Valid}
use Rattle.ground.specs.Lists.{All, those}
use Rattle.expressions.specs.Nodes.{Table}
use Rattle.expressions.specs.Soundness.{SoundNodes}
use Rattle.theory.proofs.Expressions.OnExpressions.{is_empty}
use Rattle.theory.specs.RowLists.{ascending, final_target, final_states}
use Rattle.theory.specs.declared.NodeRow.{NodeRow}
use Rattle.theory.specs.Stages.{Stage, unfolded_row, holes_table, rule_shape, rules_table, start_table, rule_rows, final_node_row, start, with_node, is_empty_node, nodes, stand_in_made, replaced_made, replaced_rows, remains_node, eliminated_stage, eliminated_stages, join_stage, node_bound, bound_of}
use Rattle.ground.proofs.Lists.{all_map, those-length, those-append, to-all}
use Rattle.theory.proofs.Lists.{Distinct, ascending-length, distinct-few}
use Rattle.theory.proofs.Expressions.Whole.{aimed-last}
use Rattle.theory.proofs.Nodes.Fitting.{empty-node}
use Rattle.theory.proofs.Nodes.Mirror.{Begins, begins-grown}
use Rattle.theory.proofs.Nodes.MirrorRows.{LowRows, step-mirrors}
use Rattle.theory.proofs.Nodes.StartTable.{with-length, holes-table, start-mirrors, start-begins}
use Rattle.theory.proofs.Nodes.Converted.{stage-mirrors}
use Rattle.theory.proofs.Nodes.Turns.{those-none, those-take, those-skip}
use Rattle.theory.proofs.Counting.Room.{join-room, step_room}

-- ---- rows

replaced_rows-count : (q X : ℕ) (table : Table) (rows : List NodeRow) → length (replaced_rows q X table rows).rows ≡ length rows
unfolding replaced_rows
replaced_rows-count q X table [] = refl
replaced_rows-count q X table (row ∷ rows) = ap suc (replaced_rows-count q X (replaced_made q X table row).table rows)

pub step-rows : (q : ℕ) (stage : Stage) → length (eliminated_stage q stage).rows ≤ length stage.rows
unfolding eliminated_stage
step-rows q stage =
    omega (arith, replaced_rows-count q (stand_in_made q stage).node (stand_in_made q stage).table (those (remains_node q stage.table) stage.rows), those-length (remains_node q stage.table) stage.rows)

-- ---- the states of a list

first-empty : (n : ℕ) (table : Table) → Begins n table → SoundNodes table → is_empty_node table 0 ≡ true
unfolding is_empty
first-empty n table b s = empty-node table s 0 b.some_node ∙ ap is_empty b.empty_first

pub steps-room : (n : ℕ) (gone : List ℕ) (stage : Stage) → n ≤ 16 → All (λ q. q < n) gone → Begins n stage.table → SoundNodes stage.table → LowRows stage.table stage.rows
    → length (eliminated_stages gone stage).table ≤ length stage.table + length gone * suc (length stage.rows)
unfolding eliminated_stages
steps-room n [] stage few a b s low = omega arith
steps-room n (q ∷ gone) stage few a b s low =
    let m = step-mirrors n q stage a.0 few b s low in
    let next = eliminated_stage q stage in
    let h = step-rows q stage in
    let k : suc (length next.rows) ≤ suc (length stage.rows) = omega arith in
    omega (
      arith,
      step_room q stage (first-empty n stage.table b s),
      steps-room n gone next few a.1 (begins-grown m.grown b) m.sound m.low,
      mul-le-mul_left (length gone) k,
      suc-mul (length gone) (suc (length stage.rows)),
    )

-- ---- the start

rules-room : (table : Table) (rules : List Rule) → length (rules_table table rules) ≡ length table + length rules
unfolding rules_table
rules-room table [] = omega arith
rules-room table (rule ∷ rules) = omega (arith, with-length table (rule_shape rule), rules-room (with_node table (rule_shape rule)) rules)

pub rule_rows-count : (number : ℕ) (rules : List Rule) → length (rule_rows number rules) ≡ length rules
unfolding rule_rows
rule_rows-count number [] = refl
rule_rows-count number (rule ∷ rules) = ap suc (rule_rows-count (suc number) rules)

-- k = 0: 1 + n + t nodes and t + f rows
pub start-room : (held : Held) → Valid held → length (start held).table ≡ 1 + held.states + length held.rules
unfolding start start_table
start-room held v = omega (arith, rules-room (holes_table held.states) held.rules, (holes-table held.states v.few_states).count)

pub start_rows : (held : Held) → length (start held).rows ≡ length held.rules + length (final_states held)
unfolding start
start_rows held =
    omega (
      arith,
      length-append (rule_rows (suc held.states) held.rules) (map final_node_row (final_states held)),
      rule_rows-count (suc held.states) held.rules,
      length-map (final_states held) final_node_row,
    )

-- ---- rows with target 16

final : NodeRow → Bool
final row = eqb row.target final_target

replaced_rows-final : (q X : ℕ) (table : Table) (rows : List NodeRow) → length (those final (replaced_rows q X table rows).rows) ≡ length (those final rows)
unfolding replaced_rows those final
replaced_rows-final q X table [] = refl
replaced_rows-final q X table (row ∷ rows) =
    let next = replaced_made q X table row in
    go (eqb row.target final_target) (record { node = next.node; target = row.target }) (those final (replaced_rows q X next.table rows).rows) (replaced_rows-final q X next.table rows)
  where
    go : (b : Bool) (x : NodeRow) (xs : List NodeRow) → length xs ≡ length (those final rows) → length (cond b (x ∷ xs) xs) ≡ length (cond b (row ∷ those final rows) (those final rows))
    go true x xs e = ap suc e
    go false x xs e = e

-- a choice of rows has no more of them
those-final : (test : NodeRow → Bool) (rows : List NodeRow) → length (those final (those test rows)) ≤ length (those final rows)
unfolding those
those-final test [] = omega arith
those-final test (row ∷ rows) = go (test row) (final row) refl (those-final test rows)
  where
    go : (b c : Bool) → final row ≡ c → length (those final (those test rows)) ≤ length (those final rows)
        → length (those final (cond b (row ∷ those test rows) (those test rows))) ≤ length (cond c (row ∷ those final rows) (those final rows))
    go true true e h = rw e (omega arith)
    go true false e h = rw e h
    go false true e h = omega arith
    go false false e h = h

steps-final : (gone : List ℕ) (stage : Stage) → length (those final (eliminated_stages gone stage).rows) ≤ length (those final stage.rows)
unfolding eliminated_stages eliminated_stage
steps-final [] stage = omega arith
steps-final (q ∷ gone) stage =
    let X = stand_in_made q stage in
    let stay = those (remains_node q stage.table) stage.rows in
    omega (arith, steps-final gone (eliminated_stage q stage), replaced_rows-final q X.node X.table stay, those-final (remains_node q stage.table) stage.rows)

none-final : (n number : ℕ) (rules : List Rule) → n ≤ 16 → All (λ rule. rule.target < n) rules → those final (rule_rows number rules) ≡ []
unfolding those final rule_rows
none-final n number [] few a = refl
none-final n number (rule ∷ rules) few a =
    let h = a.0 in
    let i : rule.target ≡ final_target → ⊥ = λ e. omega arith in
    rw (ne_eqb rule.target final_target i) (none-final n (suc number) rules few a.1)

start-final : (held : Held) → Valid held → length (those final (start held).rows) ≤ length (final_states held)
unfolding start
start-final held v =
    let rules = rule_rows (suc held.states) held.rules in
    let finals = map final_node_row (final_states held) in
    let e = ap length (those-append final rules finals ∙ ap (◌++ those final finals) (none-final held.states (suc held.states) held.rules v.few_states (all_map held.rules (λ rule k. k.aimed) v.valid_rules))) in
    omega (arith, e, those-length final finals, length-map (final_states held) final_node_row)

-- where every row has target 16
all-final : (rows : List NodeRow) → All (λ row. row.target ≡ final_target) rows → length rows ≤ length (those final rows)
unfolding those final
all-final [] a = omega arith
all-final (row ∷ rows) a = rw (eq-eqb row.target final_target a.0) (let h = all-final rows a.1 in omega arith)

-- ---- the whole

module _ (held : Held) (v : Valid held) (gone : List ℕ) (states : All (λ q. q < held.states) gone) where
  pub stage-room : length (eliminated_stages gone (start held)).table
      ≤ 1 + held.states + length held.rules + length gone * (length held.rules + length (final_states held) + 1)
  stage-room =
      let s = start-mirrors held v in
      let e : suc (length (start held).rows) ≡ length held.rules + length (final_states held) + 1 = omega (arith, start_rows held) in
      let h = steps-room held.states gone (start held) v.few_states states (start-begins held v) s.sound s.low in
      omega (arith, start-room held v, rw e at h)

  module _ (all-gone : (q : ℕ) → q < held.states → Memᴰ q gone) where
    -- as many rows are left as there were final states, at most
    pub last-rows : length (eliminated_stages gone (start held)).rows ≤ length (final_states held)
    last-rows =
        let stage = eliminated_stages gone (start held) in
        let m = stage-mirrors held v gone states in
        omega (
          arith,
          all-final stage.rows
              (to-all (λ row. row.target ≡ final_target) stage.rows
              (λ row k. aimed-last held v gone states all-gone (unfolded_row stage.table row) (rw (← m.is) (Memᴰ.map (unfolded_row stage.table) k)))),
          steps-final gone (start held),
          start-final held v,
        )

    pub joined-room : length (join_stage (eliminated_stages gone (start held))).table
        ≤ 1 + held.states + length held.rules + length gone * (length held.rules + length (final_states held) + 1) + length (final_states held)
    unfolding join_stage
    joined-room =
        let stage = eliminated_stages gone (start held) in
        omega (arith, stage-room, last-rows, join-room stage.table (nodes stage.rows), length-map stage.rows (λ (row : NodeRow). row.node))

-- the bound holds [8.29], and is 1,393 at most [8.30]
pub bound-most : (n t f : ℕ) → n ≤ 16 → t ≤ 64 → f ≤ 16 → node_bound n t f ≤ 1393
unfolding node_bound
bound-most n t f hn ht hf =
    let h : t + f + 1 ≤ 81 = omega arith in
    let m : n * (t + f + 1) ≤ 16 * 81 = mul-le-mul hn h in
    omega arith

pub finals-few : (held : Held) → length (final_states held) ≤ held.states
unfolding final_states
finals-few held = omega (arith, those-length (has held.finals) (ascending held.states), ascending-length held.states)

pub bound-file : (held : Held) → Valid held → bound_of held ≤ 1393
bound-file held v =
    let f = finals-few held in
    let n = v.few_states in
    let few : length (final_states held) ≤ 16 = omega arith in
    bound-most held.states (length held.rules) (length (final_states held)) n v.few_rules few

-- every order of distinct states
module _ (held : Held) (v : Valid held) (gone : List ℕ) (distinct : Distinct gone) (states : All (λ q. q < held.states) gone) where
  pub stage-few : length (eliminated_stages gone (start held)).table ≤ bound_of held
  unfolding node_bound
  stage-few =
      omega (arith, stage-room held v gone states, mul-le-mul_right (length held.rules + length (final_states held) + 1) (distinct-few held.states gone distinct states))

  pub joined-few : ((q : ℕ) → q < held.states → Memᴰ q gone) → length (join_stage (eliminated_stages gone (start held))).table ≤ bound_of held
  unfolding node_bound
  joined-few all-gone =
      omega (arith, joined-room held v gone states all-gone, mul-le-mul_right (length held.rules + length (final_states held) + 1) (distinct-few held.states gone distinct states))

-- ---- f is the number of final states

count-those : (test : ℕ → Bool) (k : ℕ) → length (those test (ascending k)) ≡ how_many k test
unfolding ascending how_many
count-those test zero = ap length (those-none test)
count-those test (suc k) = ap length (those-append test (ascending k) (k ∷ [])) ∙ length-append (those test (ascending k)) (those test (k ∷ [])) ∙ ap₂ ◌+◌ (count-those test k) (go (test k) refl)
  where
    go : (b : Bool) → test k ≡ b → length (those test (k ∷ [])) ≡ cond (test k) 1 0
    go true e = rw (those-take test k [] e, those-none test, e)
    go false e = rw (those-skip test k [] e, those-none test, e)

-- no number from n on passes
count-high : (test : ℕ → Bool) (n more : ℕ) → ((q : ℕ) → n ≤ q → test q ≡ false) → how_many (n + more) test ≡ how_many n test
unfolding how_many
count-high test n zero h = ap (λ (m : ℕ). how_many m test) (add-zero n)
count-high test n (suc more) h =
    ap (λ (m : ℕ). how_many m test) (add-suc n more)
    ∙ ap₂ ◌+◌ (count-high test n more h) (ap (λ (b : Bool). cond b 1 0) (h (n + more) (omega arith))) ∙ add-zero (how_many n test)

pub finals-count : (held : Held) → Valid held → length (final_states held) ≡ size state_width held.finals
unfolding final_states size
finals-count held v =
    let l = v.few_states in
    let e : held.states + (16 - held.states) ≡ 16 = omega arith in
    count-those (has held.finals) held.states
    ∙ sym (ap (λ (m : ℕ). how_many m (has held.finals)) (sym e) ∙ count-high (has held.finals) held.states (16 - held.states) (λ q h. has-high held.states held.finals q v.finals_within h))
