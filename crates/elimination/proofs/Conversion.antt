-- The parts of a conversion one after the other: the start, the states, the join.
use Prim.Native.Nat.{ℕ, suc, ◌+◌, ◌<◌, ◌≤◌}
use native.Mathlib.Omega.{arith}
use mathlib.Core.Path.{◌≡◌, ◌∙◌, ap, subst}
use mathlib.Core.List.{List}
use lib.ListN.{length}
use Rattle.std.specs.Prelude.{Result, Ok, Err}
use Rattle.automaton.specs.declared.Refused.{Refused}
use Rattle.sets.specs.Members.{state_width}
use Rattle.ground.proofs.Lists.{to-all}
use Rattle.automaton.specs.declared.Automaton.{Automaton}
use Rattle.automaton.specs.Held.{Held, Valid}
use Rattle.automaton.specs.Answers.{held_by}
use Rattle.automaton.specs.Handed.{Handed}
use Rattle.theory.specs.declared.NodeRow.{NodeRow}
use Rattle.theory.specs.RowLists.{ascending, final_states, list_places}
use Rattle.theory.specs.Stages.{Made, holes_table, start_table, rule_rows, start, eliminated_stages, stage_after, converted}
use Rattle.theory.proofs.Nodes.Grows.{grown-longer, rules-grow, stages-grow, join_stage-grows}
use Rattle.theory.proofs.Nodes.StartTable.{start-mirrors, holes-table}
use Rattle.theory.proofs.Counting.Bound.{start-room, rule_rows-count}
use Rattle.theory.proofs.Theorem.{partly-ascending}
use Rattle.elimination.specs.declared.maker.Got.{Got}
use Rattle.elimination.specs.declared.step.Pick.TheVariants.{Every}
use Rattle.elimination.specs.declared.rows.Staged.{Staged}
use Rattle.elimination.specs.Inside.{NodeAndRows, NoRoom, HasTable, HasStage, GivesNode, GivesStage, NodeOn, StageOn, StagesOn, NodeAndStage, LowRows, stage_of, rules_stage, picked_made}
use Rattle.elimination.proofs.Room.{less-room}
use Rattle.elimination.proofs.Joining.{picked-every}
use Rattle.elimination.proofs.Starting.{with_finals}

-- ---- the table and the list of the start

module _ (value : Automaton) (handed : Handed value) (n : ℕ) (en : n ≡ (held_by value).states) (before w1 : List ℕ) where
  pub begin-full : (reason : Refused) → NoRoom before (holes_table n) reason → NoRoom before (start (held_by value)).table reason
  unfolding start start_table
  begin-full reason none =
      less-room (rules-grow (holes_table (held_by value).states) (held_by value).rules) (subst (λ (m : ℕ). NoRoom before (holes_table m) reason) en none)

  module _ (holes : ℕ) (g : HasTable before (holes_table n) w1 holes) (w2 : List ℕ) where
    module _ (r : Result Staged Refused) (x : StageOn (λ table. (held_by value).states < length table) (rules_stage (held_by value).rules) w1 holes w2 r) where
      put : GivesStage before (rules_stage (held_by value).rules (holes_table (held_by value).states)) w2 r
      put =
          let c = (holes-table (held_by value).states handed.valid.few_states).count in
          x before (holes_table (held_by value).states) (subst (λ (m : ℕ). HasTable before (holes_table m) w1 holes) en g) (omega arith)

    pub rules-full : (reason : Refused) → StageOn (λ table. (held_by value).states < length table) (rules_stage (held_by value).rules) w1 holes w2 (Err reason)
        → NoRoom before (start (held_by value)).table reason
    unfolding start start_table
    rules-full reason x = put (Err reason) x

    module _ (staged : Staged) (x : StageOn (λ table. (held_by value).states < length table) (rules_stage (held_by value).rules) w1 holes w2 (Ok staged)) where
      -- the rules' rows are numbered on from the holes
      rules-listed : staged.list ≡ rule_rows (suc (held_by value).states) (held_by value).rules
      rules-listed =
          (put (Ok staged) x).listed ∙ ap (λ (m : ℕ). rule_rows m (held_by value).rules) (holes-table (held_by value).states handed.valid.few_states).count

      pub rules-room : length staged.list + state_width ≤ list_places
      rules-room = let a = handed.valid.few_rules in omega (arith, ap length rules-listed, rule_rows-count (suc (held_by value).states) (held_by value).rules)

      pub begin-gives : (list : List NodeRow) → list ≡ with_finals staged.list value.finals.0 n → HasStage before (start (held_by value)) w2 (record { count = staged.count; list = list })
      unfolding start start_table final_states held_by
      begin-gives list el =
          record {
            has = (put (Ok staged) x).has;
            listed =
                el ∙ ap (λ (rows : List NodeRow). with_finals rows value.finals.0 n) rules-listed
                ∙ ap (λ (k : ℕ). with_finals (rule_rows (suc (held_by value).states) (held_by value).rules) value.finals.0 k) en;
          }

-- ---- the states

module _ (held : Held) (v : Valid held) (before w1 : List ℕ) (k : ℕ) (h : k ≤ held.states) where
  pub partly-gives : (begun : Staged) → HasStage before (start held) w1 begun → (w2 : List ℕ) (r : Result Staged Refused)
      → StagesOn (NodeAndStage k) (eliminated_stages (ascending k)) w1 begun w2 r → GivesStage before (stage_after k held) w2 r
  unfolding stage_after
  partly-gives begun g w2 r x = x before (start held) g (omega (arith, start-room held v), (start-mirrors held v).low)

  pub partly-full : (reason : Refused) → NoRoom before (start held).table reason → NoRoom before (stage_after k held).table reason
  unfolding stage_after
  partly-full reason none = less-room (stages-grow (ascending k) (start held)) none

-- a stop's rows are nodes of its table
pub stage-low : (held : Held) → Valid held → (k : ℕ) → k ≤ held.states → LowRows (stage_after k held).rows (stage_after k held).table
stage-low held v k h = to-all (λ row. row.node < length (stage_after k held).table) (stage_after k held).rows (partly-ascending held v k h).within

-- ---- the join

module _ (held : Held) (v : Valid held) (before w1 : List ℕ) (n : ℕ) (en : n ≡ held.states) where
  pub wholly-full : (reason : Refused) → NoRoom before (stage_after n held).table reason → NoRoom before (converted held).table reason
  unfolding converted
  wholly-full reason none = less-room (join_stage-grows (stage_after held.states held)) (subst (λ (m : ℕ). NoRoom before (stage_after m held).table reason) en none)

  pub wholly-gives : (last : Staged) → HasStage before (stage_after n held) w1 last → (w2 : List ℕ) (r : Result Got Refused)
      → NodeOn (NodeAndRows 0 last.list) (λ table. picked_made Every (stage_of table last.list)) w1 last.count w2 r
      → GivesNode before (converted held) w2 r
  unfolding converted stage_after
  wholly-gives last g w2 r x =
      let stage = stage_after held.states held in
      let h : HasStage before stage w1 last = subst (λ (m : ℕ). HasStage before (stage_after m held) w1 last) en g in
      let some = grown-longer (stages-grow (ascending held.states) (start held)) in
      subst (λ (m : Made). GivesNode before m w2 r)
      (ap (λ (rows : List NodeRow). picked_made Every (stage_of stage.table rows)) h.listed ∙ picked-every stage)
      (x before stage.table h.has (omega (arith, start-room held v), rw h.listed (stage-low held v held.states (omega arith))))
