-- Replacing, row by row.
use Prim.Native.Nat.{ℕ, ◌+◌, ◌%◌, ◌<◌, ◌≤◌}
use native.Mathlib.Omega.{arith}
use native.Mathlib.Nat.{mod-eq_of_lt}
use mathlib.Core.Path.{◌≡◌, refl, sym, ◌∙◌, ap, subst}
use mathlib.Core.Bool.{Bool, true, false, cond, not}
use mathlib.Core.List.{List, [], ◌∷◌, ◌++◌, append-nil, append_assoc}
use lib.ListN.{length, get_or, drop, length-append}
use Rattle.std.specs.Prelude.{Result, Ok, Err}
use Rattle.automaton.specs.declared.Refused.{Refused}
use borrow.Author.Tests.{eq-eqb, ne_eqb}
use Rattle.std.proofs.lemmas.List.{drop_all}
use Rattle.sets.specs.Members.{has, state_width}
use Rattle.sets.proofs.Membership.{has-cut}
use Rattle.ground.specs.Lists.{those}
use Rattle.ground.proofs.Lists.{all-at}
use Rattle.expressions.specs.declared.Node.{Node}
use Rattle.expressions.specs.Nodes.{Table}
use Rattle.expressions.specs.Words.{node_in}
use Rattle.theory.specs.declared.NodeRow.{NodeRow}
use Rattle.theory.specs.Stages.{Stage, Made, already, cat_made, outgoing_node, replaced_made, replaced_rows, remains_node}
use Rattle.theory.proofs.Nodes.Grows.{Grown, grown-none, grown-then, grown-longer, replaced-grows, rows_grow}
use Rattle.theory.proofs.Nodes.Turns.{those-take, those-skip, remains-other, outgoing-open, replaced-outgoing, replaced-kept}
use Rattle.elimination.specs.declared.maker.Got.{Got}
use Rattle.elimination.specs.Inside.{Both, NodeAndRows, NoRoom, HasTable, HasNode, HasStage, GivesNode, NodeOn, open_in}
use Rattle.elimination.proofs.Room.{less-room}
use Rattle.elimination.proofs.Makers.{has_same, has-node, cat-low}
use Rattle.elimination.proofs.Joining.{no_row, drop-row}

-- ---- the node of a row that stays

module _ (words : List ℕ) (count q : ℕ) (hq : q < state_width) (X : ℕ) (row : NodeRow) (other : row.target ≡ q → ⊥) where
  outgoing-is : {before : List ℕ} {table : Table} (b : Bool) → open_in q (node_in words row.node) ≡ b → HasTable before table words count → row.node < length table → outgoing_node q table row ≡ b
  outgoing-is {before} {table} b e h low =
      outgoing-open q table row (ne_eqb row.target q other)
      ∙ ap (λ (n : Node). has n.opens q) (sym (has-node h row.node low))
      ∙ sym (has-cut state_width (node_in words row.node).opens q hq)
      ∙ e

  pub replace-open : open_in q (node_in words row.node) ≡ true → (after : List ℕ) (r : Result Got Refused) → NodeOn (Both row.node X) (λ table. cat_made q table row.node X) words count after r
      → NodeOn (Both row.node X) (λ table. replaced_made q X table row) words count after r
  replace-open e after r x before table h s = subst (λ (m : Made). GivesNode before m after r) (sym (replaced-outgoing q X table row (outgoing-is true e h s.0))) (x before table h s)

  pub replace-own : open_in q (node_in words row.node) ≡ false
      → NodeOn (Both row.node X) (λ table. replaced_made q X table row) words count words (Ok (record { count = count; node = row.node }))
  replace-own e before table h s =
      subst (λ (m : Made). HasNode before m words (record { count = count; node = row.node })) (sym (replaced-kept q X table row (outgoing-is false e h s.0))) (has_same h row.node)

pub replaced-low : (q X : ℕ) (table : Table) (row : NodeRow) → row.node < length table → X < length table → (replaced_made q X table row).node < length (replaced_made q X table row).table
unfolding replaced_made
replaced-low q X table row h h_x = go (outgoing_node q table row)
  where
    go : (b : Bool) → (cond {A = Made} b (cat_made q table row.node X) (already table row.node)).node < length (cond {A = Made} b (cat_made q table row.node X) (already table row.node)).table
    go true = cat-low q table row.node X h_x
    go false = h

-- ---- the rows one after the other

-- the rows from here on, by the table so far
abbrev replaced_rest : ℕ → ℕ → Table → Table → List NodeRow → Stage
replaced_rest q X first table rest = replaced_rows q X table (those (remains_node q first) rest)

-- the rows so far: with those from here on they come to what is asked
pub record ReplacedSoFar (q X : ℕ) (before : List ℕ) (first : Table) (rows rest : List NodeRow) (words : List ℕ) (count : ℕ) (kept : List NodeRow) : Type 0 where
  pub table : Table
  pub grew : Grown first table
  pub has : HasTable before table words count
  pub still_table : (replaced_rest q X first table rest).table ≡ (replaced_rest q X first first rows).table
  pub still_rows : kept ++ (replaced_rest q X first table rest).rows ≡ (replaced_rest q X first first rows).rows

pub record ReplaceLoop (q X : ℕ) (rows : List NodeRow) (first : List ℕ) (begun : ℕ) (words : List ℕ) (kept : List NodeRow) (count i : ℕ) : Type 0 where
  pub short : length kept ≤ i
  pub goes : (before : List ℕ) (table : Table) → HasTable before table first begun → NodeAndRows X rows table → ReplacedSoFar q X before table rows (drop i rows) words count kept

module _ (q X : ℕ) (rows : List NodeRow) (first : List ℕ) (begun : ℕ) where
  pub replace-start : ReplaceLoop q X rows first begun first [] begun 0
  replace-start =
      record {
        short = omega arith;
        goes = λ before table h s. record { table = table; grew = grown-none table; has = h; still_table = refl; still_rows = refl };
      }

  module _ (words : List ℕ) (kept : List NodeRow) (count i : ℕ) (l : ReplaceLoop q X rows first begun words kept count i) where
    pub replace-end : length rows ≤ i → (before : List ℕ) (table : Table) → HasTable before table first begun → NodeAndRows X rows table
        → HasStage before (replaced_rest q X table table rows) words (record { count = count; list = kept })
    unfolding replaced_rows those
    replace-end h before table g s =
        let x = subst (λ (rest : List NodeRow). ReplacedSoFar q X before table rows rest words count kept) (drop_all i rows h) (l.goes before table g s) in
        record { has = subst (λ (t : Table). HasTable before t words count) x.still_table x.has; listed = sym (append-nil kept) ∙ x.still_rows }

    module _ (h : i < length rows) (row : NodeRow) (er : row ≡ get_or rows i no_row) where
      module _ (before : List ℕ) (table : Table) (g : HasTable before table first begun) (s : NodeAndRows X rows table) where
        sofar : ReplacedSoFar q X before table rows (row ∷ drop (i + 1) rows) words count kept
        sofar = subst (λ (rest : List NodeRow). ReplacedSoFar q X before table rows rest words count kept) (drop-row rows i row h er) (l.goes before table g s)

        low : row.node < length table
        low = subst (λ (one : NodeRow). one.node < length table) (sym er) (all-at (λ one. one.node < length table) rows s.1 i no_row h)

        suits : Both row.node X sofar.table
        suits = let a = grown-longer sofar.grew in let b = low in let c = s.0 in (omega arith, omega arith)

      pub replace-gone : row.target ≡ q → ReplaceLoop q X rows first begun words kept count (i + 1)
      replace-gone e =
          record {
            short = (let a = l.short in omega arith);
            goes = λ before table g s.
                let x = sofar before table g s in
                let rest = drop (i + 1) rows in
                let c : those (remains_node q table) (row ∷ rest) ≡ those (remains_node q table) rest = those-skip (remains_node q table) row rest (remains-other q table row ∙ ap not (eq-eqb row.target q e)) in
                record {
                  table = x.table;
                  grew = x.grew;
                  has = x.has;
                  still_table = ap (λ (more : List NodeRow). (replaced_rows q X x.table more).table) (sym c) ∙ x.still_table;
                  still_rows = ap (λ (more : List NodeRow). kept ++ (replaced_rows q X x.table more).rows) (sym c) ∙ x.still_rows;
                };
          }

      module _ (n : row.target ≡ q → ⊥) (after : List ℕ) where
        module _ (before : List ℕ) (table : Table) (g : HasTable before table first begun) (s : NodeAndRows X rows table) where
          made : Made
          made = replaced_made q X (sofar before table g s).table row

          chosen : those (remains_node q table) (row ∷ drop (i + 1) rows) ≡ row ∷ those (remains_node q table) (drop (i + 1) rows)
          chosen = those-take (remains_node q table) row (drop (i + 1) rows) (remains-other q table row ∙ ap not (ne_eqb row.target q n))

          still_table : (replaced_rest q X table made.table (drop (i + 1) rows)).table ≡ (replaced_rest q X table table rows).table
          unfolding made replaced_rows
          still_table = let x = sofar before table g s in ap (λ (more : List NodeRow). (replaced_rows q X x.table more).table) (sym chosen) ∙ x.still_table

          still_rows : kept ++ (record { node = made.node; target = row.target } ∷ (replaced_rest q X table made.table (drop (i + 1) rows)).rows) ≡ (replaced_rest q X table table rows).rows
          unfolding made replaced_rows
          still_rows = let x = sofar before table g s in ap (λ (more : List NodeRow). kept ++ (replaced_rows q X x.table more).rows) (sym chosen) ∙ x.still_rows

        pub replace-more : (got : Got) → NodeOn (Both row.node X) (λ table. replaced_made q X table row) words count after (Ok got)
            → (new : NodeRow) → new ≡ record { node = got.node % 65536; target = row.target } → ReplaceLoop q X rows first begun after (kept ++ (new ∷ [])) got.count (i + 1)
        unfolding made
        replace-more got y new en =
            record {
              short = (let a = l.short in omega (arith, length-append kept (new ∷ [])));
              goes = λ before table g s.
                  let x = sofar before table g s in
                  let m = made before table g s in
                  let z = y before x.table x.has (suits before table g s) in
                  let b = suits before table g s in
                  let low = replaced-low q X x.table row b.0 b.1 in
                  let few = z.has.room.few in
                  let new_is : new ≡ record { node = m.node; target = row.target } = en ∙ ap (λ (a : ℕ). record { node = a; target = row.target }) (mod-eq_of_lt (omega (arith, z.node)) ∙ z.node) in
                  record {
                    table = m.table;
                    grew = grown-then x.grew (replaced-grows q X x.table row);
                    has = z.has;
                    still_table = still_table before table g s;
                    still_rows =
                        append_assoc kept (new ∷ []) (replaced_rest q X table m.table (drop (i + 1) rows)).rows
                        ∙ ap (λ (one : NodeRow). kept ++ (one ∷ (replaced_rest q X table m.table (drop (i + 1) rows)).rows)) new_is
                        ∙ still_rows before table g s;
                  };
            }

        pub replace-full : (reason : Refused) → NodeOn (Both row.node X) (λ table. replaced_made q X table row) words count after (Err reason)
            → (before : List ℕ) (table : Table) → HasTable before table first begun → NodeAndRows X rows table → NoRoom before (replaced_rest q X table table rows).table reason
        unfolding made
        replace-full reason y before table g s =
            let x = sofar before table g s in
            let m = made before table g s in
            less-room (subst (Grown m.table) (still_table before table g s) (rows_grow q X m.table (those (remains_node q table) (drop (i + 1) rows))))
            (y before x.table x.has (suits before table g s))
