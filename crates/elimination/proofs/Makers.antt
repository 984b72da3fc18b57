-- The makers of one node: a new node, and the three rules that make none.
use Prim.Native.Nat.{ℕ, zero, suc, ◌+◌, ◌*◌, ◌<◌, ◌≤◌}
use native.Mathlib.Omega.{arith}
use native.Mathlib.Numerals.{add-one}
use mathlib.Core.Path.{◌≡◌, refl, sym, ◌∙◌, ap, ap₂, subst}
use mathlib.Core.Bool.{Bool, true, false, cond, ◌&&◌}
use mathlib.Core.List.{List, [], ◌∷◌, ◌++◌}
use lib.ListN.{length, drop}
use lib.Seq.{drop-drop}
use lib.Dec.{eqb}
use Rattle.std.specs.Prelude.{Result, Ok, Err}
use Rattle.sets.specs.Members.{has, of_word, how_many, size, state_width}
use Rattle.sets.proofs.Membership.{has-cut}
use Rattle.automaton.specs.declared.Refusal.{Refusal}
use Rattle.automaton.specs.declared.Refused.{Refused}
use Rattle.automaton.specs.Refusals.{refusal, number_of}
use Rattle.automaton.proofs.Refusing.{number-some}
use Rattle.expressions.specs.declared.Shape.{Shape}
use Rattle.expressions.specs.declared.Node.{Node}
use Rattle.expressions.specs.Nodes.{Table, node_at, alt_shape, cat_shape, iter_shape}
use Rattle.expressions.specs.Words.{node_width, node_in, words_of}
use Rattle.expressions.specs.Soundness.{Fits, most_nodes}
use Rattle.expressions.specs.Making.{Makes, Room}
use Rattle.expressions.proofs.Making.{alt-fits, cat-fits, iter-fits, made-only, made-words}
use Rattle.theory.specs.Stages.{Made, with_node, hole_at, already, added, is_empty_node, is_hole_node, alt_made, cat_made, iter_made, join_made_from, join_made}
use Rattle.theory.proofs.Nodes.Grows.{alt-grows}
use Rattle.theory.proofs.Nodes.Mirror.{Low, low-grown}
use Rattle.theory.proofs.Nodes.StartTable.{with-length}
use Rattle.theory.proofs.Nodes.Turns.{alt-left-empty, alt-right-empty, alt-new, cat-hole, cat-new, iter-empty, iter-new}
use Rattle.elimination.specs.declared.maker.Got.{Got}
use Rattle.elimination.specs.Answers.{written_to}
use Rattle.elimination.specs.Inside.{Both, HasTable, HasNode, GivesNode, NodeOn}
use Rattle.elimination.proofs.Room.{written-length, written-node}

-- ---- what a maker goes on from

-- nothing more is made, and a node is asked for
pub has_same : {before after : List ℕ} {table : Table} {count : ℕ} → HasTable before table after count → (node : ℕ) → HasNode before (already table node) after (record { count = count; node = node })
has_same h node = record { has = h; node = refl }

-- nothing is made yet
pub has_none : (words : List ℕ) → HasTable words [] words 0
unfolding written_to words_of
has_none words = record { room = record { few = omega arith; roomy = omega arith }; words = refl; counted = refl }

-- ---- a new node

module _ (words : List ℕ) (count : ℕ) (shape : Shape) (after : List ℕ) (answer : Refusal) (m : Makes words count shape after answer) where
  pub new-few : answer.number ≡ 0 → count < most_nodes
  new-few e = (made-only words count shape after answer m e).1.few

  pub new-made : answer.number ≡ 0 → NodeOn (λ table. Fits (length table) shape) (λ table. added table shape) words count after (Ok (record { count = count + 1; node = count }))
  unfolding written_to
  new-made e before table h s =
      let o = made-only words count shape after answer m e in
      let c = h.counted in
      let l = with-length table shape in
      let few = o.1.few in
      let roomy = o.1.roomy in
      let n : node_width * length (with_node table shape) ≡ node_width * length table + node_width = omega arith in
      record {
        has =
            record {
              room = record { few = omega arith; roomy = omega (arith, written-length before table words h.words h.room.roomy) };
              words =
                  made-words words count shape after answer m o.0 o.1 table (drop (node_width * length table) before) h.words (sym c)
                  ∙ ap (λ (rest : List ℕ). words_of (with_node table shape) ++ rest) (drop-drop node_width (node_width * length table) before ∙ sym (ap (λ (j : ℕ). drop j before) n));
              counted = omega arith;
            };
        node = c;
      }

pub new_none : (words : List ℕ) (count : ℕ) (shape : Shape) (after : List ℕ) (reason : Refused) → Makes words count shape after (refusal (number_of reason))
    → NodeOn (λ table. Fits (length table) shape) (λ table. added table shape) words count after (Err reason)
new_none words count shape after reason m before table h s =
    let l = with-length table shape in
    let c = h.counted in
    let no : Room words count → ⊥ = λ more. number-some reason (ap (λ (r : Refusal). r.number) (m.done (rw c s) more).0) in
    record {
      none = λ room.
          let few = room.few in
          let roomy = room.roomy in
          no (record { few = omega arith; roomy = omega (arith, written-length before table words h.words h.room.roomy) });
      short = ap (λ (r : Refusal). r.number) (m.full (rw c s) no).0;
    }

-- ---- the three rules

-- a node is read as the table has it
module _ {before words : List ℕ} {table : Table} {count : ℕ} (h : HasTable before table words count) where
  pub has-node : (i : ℕ) → i < length table → node_in words i ≡ node_at table i
  has-node i l = written-node before table words h.words i l

  empty-at : (i : ℕ) → i < length table → eqb (node_in words i).shape.kind 0 ≡ is_empty_node table i
  empty-at i l = ap (λ (n : Node). eqb n.shape.kind 0) (has-node i l)

  hole-at : (q i : ℕ) → i < length table → (eqb (node_in words i).shape.kind 1 && eqb q (node_in words i).shape.label) ≡ is_hole_node q table i
  hole-at q i l = ap (λ (n : Node). eqb n.shape.kind 1 && eqb q n.shape.label) (has-node i l)

module _ (words : List ℕ) (count left right : ℕ) where
  pub alt-left : eqb (node_in words left).shape.kind 0 ≡ true
      → NodeOn (Both left right) (λ table. alt_made table left right) words count words (Ok (record { count = count; node = right }))
  alt-left e before table h s =
      subst (λ (m : Made). HasNode before m words (record { count = count; node = right })) (sym (alt-left-empty table left right (sym (empty-at h left s.0) ∙ e))) (has_same h right)

  pub alt-right : eqb (node_in words left).shape.kind 0 ≡ false → eqb (node_in words right).shape.kind 0 ≡ true
      → NodeOn (Both left right) (λ table. alt_made table left right) words count words (Ok (record { count = count; node = left }))
  alt-right e f before table h s =
      subst (λ (m : Made). HasNode before m words (record { count = count; node = left }))
      (sym (alt-right-empty table left right (sym (empty-at h left s.0) ∙ e) (sym (empty-at h right s.1) ∙ f))) (has_same h left)

  pub alt-both : eqb (node_in words left).shape.kind 0 ≡ false → eqb (node_in words right).shape.kind 0 ≡ false → (after : List ℕ) (r : Result Got Refused)
      → NodeOn (λ table. Fits (length table) (alt_shape left right)) (λ table. added table (alt_shape left right)) words count after r
      → NodeOn (Both left right) (λ table. alt_made table left right) words count after r
  alt-both e f after r x before table h s =
      subst (λ (m : Made). GivesNode before m after r) (sym (alt-new table left right (sym (empty-at h left s.0) ∙ e) (sym (empty-at h right s.1) ∙ f)))
      (x before table h (alt-fits (length table) left right s.0 s.1))

  module _ (q : ℕ) where
    pub cat-left : (eqb (node_in words left).shape.kind 1 && eqb q (node_in words left).shape.label) ≡ true
        → NodeOn (Both left right) (λ table. cat_made q table left right) words count words (Ok (record { count = count; node = right }))
    cat-left e before table h s =
        subst (λ (m : Made). HasNode before m words (record { count = count; node = right })) (sym (cat-hole table left right q (sym (hole-at h q left s.0) ∙ e))) (has_same h right)

    pub cat-both : q < state_width → (eqb (node_in words left).shape.kind 1 && eqb q (node_in words left).shape.label) ≡ false → (after : List ℕ) (r : Result Got Refused)
        → NodeOn (λ table. Fits (length table) (cat_shape q left right)) (λ table. added table (cat_shape q left right)) words count after r
        → NodeOn (Both left right) (λ table. cat_made q table left right) words count after r
    cat-both hq e after r x before table h s =
        subst (λ (m : Made). GivesNode before m after r) (sym (cat-new table left right q (sym (hole-at h q left s.0) ∙ e)))
        (x before table h (cat-fits (length table) q left right hq s.0 s.1))

module _ (words : List ℕ) (count child q : ℕ) where
  pub iter-none : eqb (node_in words child).shape.kind 0 ≡ true
      → NodeOn (λ table. child < length table) (λ table. iter_made q table child) words count words (Ok (record { count = count; node = q + 1 }))
  iter-none e before table h s =
      subst (λ (m : Made). HasNode before m words (record { count = count; node = q + 1 }))
      (ap (already table) (add-one q) ∙ sym (iter-empty q table child (sym (empty-at h child s) ∙ e))) (has_same h (q + 1))

  pub iter-some : q < state_width → eqb (node_in words child).shape.kind 0 ≡ false → (after : List ℕ) (r : Result Got Refused)
      → NodeOn (λ table. Fits (length table) (iter_shape q child)) (λ table. added table (iter_shape q child)) words count after r
      → NodeOn (λ table. child < length table) (λ table. iter_made q table child) words count after r
  iter-some hq e after r x before table h s =
      subst (λ (m : Made). GivesNode before m after r) (sym (iter-new q table child (sym (empty-at h child s) ∙ e)))
      (x before table h (iter-fits (length table) q child hq s))

-- ---- the made node stands in the made table

pick_low : (c : Bool) (table : Table) (i : ℕ) (made : Made) → i < length table → made.node < length made.table
    → (cond {A = Made} c (already table i) made).node < length (cond {A = Made} c (already table i) made).table
pick_low true table i made h k = h
pick_low false table i made h k = k

added-low : (table : Table) (shape : Shape) → (added table shape).node < length (added table shape).table
added-low table shape = omega (arith, with-length table shape)

pub alt-low : (table : Table) (a b : ℕ) → a < length table → b < length table → (alt_made table a b).node < length (alt_made table a b).table
unfolding alt_made
alt-low table a b ha hb = pick_low (is_empty_node table a) table b _ hb (pick_low (is_empty_node table b) table a _ ha (added-low table (alt_shape a b)))

pub cat-low : (q : ℕ) (table : Table) (a b : ℕ) → b < length table → (cat_made q table a b).node < length (cat_made q table a b).table
unfolding cat_made
cat-low q table a b hb = pick_low (is_hole_node q table a) table b _ hb (added-low table (cat_shape q a b))

pub iter-low : (q : ℕ) (table : Table) (a : ℕ) → hole_at q < length table → (iter_made q table a).node < length (iter_made q table a).table
unfolding iter_made
iter-low q table a h = pick_low (is_empty_node table a) table (hole_at q) _ h (added-low table (iter_shape q a))

pub join_from-low : (table : Table) (a : ℕ) (bs : List ℕ) → a < length table → Low table bs → (join_made_from table a bs).node < length (join_made_from table a bs).table
unfolding join_made_from
join_from-low table a [] ha hb = ha
join_from-low table a (b ∷ bs) ha hb = join_from-low (alt_made table a b).table (alt_made table a b).node bs (alt-low table a b ha hb.0) (low-grown (alt-grows table a b) bs hb.1)

pub join-low : (table : Table) (bs : List ℕ) → 0 < length table → Low table bs → (join_made table bs).node < length (join_made table bs).table
unfolding join_made
join-low table bs h low = join_from-low table 0 bs h low

-- ---- the tests on words

-- a set has the same number of members where bits past the width are left out
how_many-same : (width : ℕ) (test other : ℕ → Bool) → ((i : ℕ) → i < width → test i ≡ other i) → how_many width test ≡ how_many width other
unfolding how_many
how_many-same zero test other e = refl
how_many-same (suc width) test other e =
    ap₂ ◌+◌ (how_many-same width test other (λ i h. e i (omega arith))) (ap (λ (b : Bool). cond b 1 0) (e width (omega arith)))

pub size-cut : (width a : ℕ) → size width (of_word width a) ≡ size width a
unfolding size
size-cut width a = how_many-same width _ _ (λ i h. has-cut width a i h)

-- and no more than there are states
how_many-few : (width : ℕ) (test : ℕ → Bool) → how_many width test ≤ width
unfolding how_many
how_many-few zero test = omega arith
how_many-few (suc width) test = go (test width) (how_many-few width test)
  where
    go : (b : Bool) → how_many width test ≤ width → how_many width test + cond b 1 0 ≤ suc width
    go true h = omega arith
    go false h = omega arith

pub size_few : (width a : ℕ) → size width a ≤ width
unfolding size
size_few width a = how_many-few width (has a)
