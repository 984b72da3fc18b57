-- Joining, row by row.
use Prim.Native.Nat.{ℕ, ◌+◌, ◌<◌, ◌≤◌}
use native.Mathlib.Omega.{arith}
use mathlib.Core.Path.{◌≡◌, refl, sym, ◌∙◌, ap, ap₂, subst}
use mathlib.Core.Bool.{Bool, true, false, cond, not, ◌&&◌}
use mathlib.Core.List.{List, [], ◌∷◌}
use native.Mathlib.Numerals.{add-one}
use lib.ListN.{length, get_or, drop}
use lib.Seq.{drop-cons}
use Rattle.std.specs.Prelude.{Ok, Err}
use Rattle.automaton.specs.declared.Refused.{Refused}
use lib.Dec.{eqb}
use Rattle.std.proofs.lemmas.List.{drop_all}
use Rattle.sets.specs.Members.{has, state_width}
use Rattle.sets.proofs.Membership.{has-cut}
use Rattle.ground.specs.Lists.{All, those}
use Rattle.ground.proofs.Lists.{to-all, all-at}
use Rattle.expressions.specs.Nodes.{Table, node_at}
use Rattle.expressions.specs.Words.{node_in}
use Rattle.theory.specs.declared.NodeRow.{NodeRow}
use Rattle.theory.specs.Stages.{Stage, Made, already, nodes, alt_made, join_made_from, join_made, join_stage, looping_node, incoming_node}
use Rattle.theory.proofs.Nodes.Grows.{Grown, grown-none, grown-then, grown-longer, grown-node, alt-grows, join_from-grows}
use Rattle.elimination.specs.declared.maker.Got.{Got}
use Rattle.elimination.specs.declared.step.Pick.{Pick}
use Rattle.elimination.specs.declared.step.Pick.TheVariants.{Looping, Incoming, Every}
use Rattle.elimination.specs.Inside.{Both, NodeAndRows, NoRoom, HasTable, HasNode, NodeOn, stage_of, open_in, picked_by, picks, picked_made}
use Rattle.elimination.proofs.Room.{less-room}
use Rattle.elimination.proofs.Makers.{has_same, has-node, alt-low}

-- ---- which rows are joined

-- tests that agree choose the same
pub those-same : (f g : NodeRow → Bool) (rows : List NodeRow) → All (λ row. f row ≡ g row) rows → those f rows ≡ those g rows
unfolding those
those-same f g [] a = refl
those-same f g (row ∷ rows) a = ap₂ (λ (b : Bool) (rest : List NodeRow). cond b (row ∷ rest) rest) a.0 (those-same f g rows a.1)

module _ (q : ℕ) (h : q < state_width) (table : Table) (rows : List NodeRow) where
  open-same : (row : NodeRow) → open_in q (node_at table row.node) ≡ has (node_at table row.node).opens q
  open-same row = has-cut state_width (node_at table row.node).opens q h

  pub picks-looping : those (picks (Looping q) table) rows ≡ those (looping_node q table) rows
  unfolding looping_node
  picks-looping = those-same _ _ rows (to-all _ rows (λ row _. ap (eqb row.target q &&◌) (open-same row)))

  pub picks-incoming : those (picks (Incoming q) table) rows ≡ those (incoming_node q table) rows
  unfolding incoming_node
  picks-incoming = those-same _ _ rows (to-all _ rows (λ row _. ap (λ (b : Bool). eqb row.target q && not b) (open-same row)))

-- every row is picked
picks-every : (table : Table) (rows : List NodeRow) → those (picks Every table) rows ≡ rows
unfolding those
picks-every table [] = refl
picks-every table (row ∷ rows) = ap (row ∷◌) (picks-every table rows)

pub picked-every : (stage : Stage) → picked_made Every stage ≡ join_stage stage
unfolding join_stage
picked-every stage = ap (λ (rows : List NodeRow). join_made stage.table (nodes rows)) (picks-every stage.table stage.rows)

-- ---- the rows one after the other

-- what stands for a row past the last
abbrev pub no_row : NodeRow
no_row = record { node = 0; target = 0 }

-- rows from one on
pub drop-row : (rows : List NodeRow) (i : ℕ) (row : NodeRow) → i < length rows → row ≡ get_or rows i no_row → drop i rows ≡ row ∷ drop (i + 1) rows
drop-row rows i row h e = drop-cons rows i no_row h ∙ ap₂ (λ (one : NodeRow) (m : ℕ). one ∷ drop m rows) (sym e) (sym (add-one i))

-- what is joined so far: with the rows from here on it comes to what is asked
pub record JoinedSoFar (pick : Pick) (before : List ℕ) (table : Table) (rows rest : List NodeRow) (words : List ℕ) (got : Got) : Type 0 where
  pub made : Made
  pub grew : Grown table made.table
  pub low : made.node < length made.table
  pub has : HasNode before made words got
  pub still : join_made_from made.table made.node (nodes (those (picks pick table) rest)) ≡ picked_made pick (stage_of table rows)

abbrev pub JoinLoop : Pick → List NodeRow → List ℕ → ℕ → List ℕ → Got → ℕ → Type 0
JoinLoop pick rows first count words got i =
    (before : List ℕ) (table : Table) → HasTable before table first count → NodeAndRows 0 rows table → JoinedSoFar pick before table rows (drop i rows) words got

module _ (pick : Pick) (rows : List NodeRow) (first : List ℕ) (count : ℕ) where
  pub join-start : JoinLoop pick rows first count first (record { count = count; node = 0 }) 0
  unfolding join_made
  join-start before table h s = record { made = already table 0; grew = grown-none table; low = s.0; has = has_same h 0; still = refl }

  module _ (words : List ℕ) (got : Got) (i : ℕ) (l : JoinLoop pick rows first count words got i) where
    pub join-end : length rows ≤ i → NodeOn (NodeAndRows 0 rows) (λ table. picked_made pick (stage_of table rows)) first count words (Ok got)
    unfolding join_made_from those
    join-end h before table g s =
        let x = l before table g s in
        subst (λ (m : Made). HasNode before m words got)
        (subst (λ (rest : List NodeRow). join_made_from x.made.table x.made.node (nodes (those (picks pick table) rest)) ≡ picked_made pick (stage_of table rows)) (drop_all i rows h) x.still) x.has

    module _ (h : i < length rows) (row : NodeRow) (er : row ≡ get_or rows i no_row) (r : Bool) (e : r ≡ picked_by pick row.target (node_in words row.node)) where
      module _ (before : List ℕ) (table : Table) (g : HasTable before table first count) (s : NodeAndRows 0 rows table) where
        sofar : JoinedSoFar pick before table rows (row ∷ drop (i + 1) rows) words got
        sofar = subst (λ (rest : List NodeRow). JoinedSoFar pick before table rows rest words got) (drop-row rows i row h er) (l before table g s)

        low : row.node < length table
        low = subst (λ (one : NodeRow). one.node < length table) (sym er) (all-at (λ one. one.node < length table) rows s.1 i no_row h)

        suits : Both got.node row.node sofar.made.table
        suits = let a = grown-longer sofar.grew in let b = low in let c = sofar.low in (omega (arith, sofar.has.node), omega arith)

        -- the test on the words says what the rows' table says
        pick_is : picks pick table row ≡ r
        pick_is = sym (e ∙ ap (picked_by pick row.target) (has-node sofar.has.has row.node suits.1 ∙ grown-node sofar.grew row.node low))

      pub join-passed : r ≡ false → JoinLoop pick rows first count words got (i + 1)
      unfolding those
      join-passed f before table g s =
          let x = sofar before table g s in
          record {
            made = x.made;
            grew = x.grew;
            low = x.low;
            has = x.has;
            still =
                ap (λ (b : Bool). join_made_from x.made.table x.made.node (nodes (cond b (row ∷ those (picks pick table) (drop (i + 1) rows)) (those (picks pick table) (drop (i + 1) rows))))) (sym (pick_is before table g s ∙ f)) ∙ x.still;
          }

      module _ (t : r ≡ true) (after : List ℕ) where
        module _ (before : List ℕ) (table : Table) (g : HasTable before table first count) (s : NodeAndRows 0 rows table) where
          x : JoinedSoFar pick before table rows (row ∷ drop (i + 1) rows) words got
          x = sofar before table g s

          joined : Made
          joined = alt_made x.made.table x.made.node row.node

          joined-is : alt_made x.made.table got.node row.node ≡ joined
          unfolding joined
          joined-is = ap (λ (n : ℕ). alt_made x.made.table n row.node) x.has.node

          still : join_made_from joined.table joined.node (nodes (those (picks pick table) (drop (i + 1) rows))) ≡ picked_made pick (stage_of table rows)
          unfolding joined x those join_made_from
          still = ap (λ (b : Bool). join_made_from x.made.table x.made.node (nodes (cond b (row ∷ those (picks pick table) (drop (i + 1) rows)) (those (picks pick table) (drop (i + 1) rows))))) (sym (pick_is before table g s ∙ t)) ∙ x.still

        pub join-next : (next : Got) → NodeOn (Both got.node row.node) (λ table. alt_made table got.node row.node) words got.count after (Ok next)
            → JoinLoop pick rows first count after next (i + 1)
        unfolding joined x
        join-next next y before table g s =
            let z = x before table g s in
            record {
              made = joined before table g s;
              grew = grown-then z.grew (alt-grows z.made.table z.made.node row.node);
              low = (let b = suits before table g s in alt-low z.made.table z.made.node row.node z.low b.1);
              has = subst (λ (m : Made). HasNode before m after next) (joined-is before table g s) (y before z.made.table z.has.has (suits before table g s));
              still = still before table g s;
            }

        pub join-full : (reason : Refused) → NodeOn (Both got.node row.node) (λ table. alt_made table got.node row.node) words got.count after (Err reason)
            → NodeOn (NodeAndRows 0 rows) (λ table. picked_made pick (stage_of table rows)) first count after (Err reason)
        unfolding joined x
        join-full reason y before table g s =
            let z = x before table g s in
            let made = joined before table g s in
            less-room (subst (λ (m : Made). Grown made.table m.table) (still before table g s) (join_from-grows made.table made.node (nodes (those (picks pick table) (drop (i + 1) rows)))))
            (subst (λ (m : Made). NoRoom before m.table reason) (joined-is before table g s) (y before z.made.table z.has.has (suits before table g s)))
