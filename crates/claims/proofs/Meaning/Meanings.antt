-- What the entries answer means what it should.
use Prim.Native.Nat.{ℕ, ◌≤◌, ◌<◌}
use native.Mathlib.Omega.{arith}
use mathlib.Core.Path.{◌≡◌, refl, ◌∙◌, ap, subst}
use mathlib.Core.Bool.{true}
use mathlib.Core.Logic.{◌↔◌}
use mathlib.Core.List.{List, [], ◌∷◌, ◌++◌, map}
use lib.ListN.{length, take, drop}
use lib.Seq.{length-take-le}
use Rattle.sets.specs.Members.{has}
use Rattle.automaton.specs.declared.Automaton.{Automaton}
use Rattle.automaton.specs.declared.Reading.{Reading}
use Rattle.automaton.specs.declared.Extent.{Extent}
use Rattle.automaton.specs.Held.{Held}
use Rattle.ground.specs.Lists.{All}
use Rattle.automaton.specs.Checks.{verdict, holds}
use Rattle.automaton.specs.Refusals.{no_refusal}
use Rattle.automaton.specs.Answers.{placed, read_answer, held_by}
use Rattle.automaton.proofs.Handing.{read_held}
use Rattle.writer.specs.Answers.{writing, Written}
use Rattle.automaton.proofs.Values.{reads-exactly, held-placed}
use Rattle.writer.proofs.Laws.{written-file, written-reads, reads-written}
use Rattle.trees.specs.declared.ReachedStates.{ReachedStates}
use Rattle.meaning.specs.Trees.{Tree, Forest, []ᶠ, ◌∷ᶠ◌}
use Rattle.trees.specs.Words.{IsTree}
use Rattle.trees.specs.Promises.{RunPromise}
use Rattle.trees.proofs.Spelling.{at_most_one}
use Rattle.meaning.specs.Expressions.{Expr, holeᴱ, symbolᴱ, altᴱ, catᴱ, iterᴱ, Denotes, DenotesEach}
use Rattle.expressions.specs.declared.Shape.{Shape}
use Rattle.expressions.specs.Nodes.{Table, node_at, places, symbol_of, child_count, children}
use Rattle.expressions.specs.Words.{table_of}
use Rattle.expressions.specs.Unfolding.{exprs_of, built_of, built, expr_at}
use Rattle.expressions.specs.Soundness.{Labelled, SoundNodes, Sound}
use Rattle.ground.proofs.Lists.{all_map}
use Rattle.expressions.proofs.Words.{length-table}
use Rattle.expressions.proofs.Unfolding.{expr-at, expr-take, built-same}
use Rattle.claims.specs.Types.{Bytes}
use Rattle.claims.proofs.Outcomes.TypedTables.{kind-small}
use Rattle.claims.specs.Meanings.{NodeDenotes, OneFromEach, NodeMeans, MeansWhatItShould}

-- ---- nodes, kind by kind

module _ (table : Table) (i : ℕ) (shape : Shape) (is : expr_at table i ≡ built (expr_at table) shape) where
  of-kind : (kind : ℕ) → shape.kind ≡ kind → expr_at table i ≡ built_of kind shape.label (map (expr_at table) (take (child_count kind shape.label) (places shape)))
  unfolding built children
  of-kind kind e = is ∙ ap (λ (k : ℕ). built_of k shape.label (map (expr_at table) (take (child_count k shape.label) (places shape)))) e

  of-symbol : shape.kind ≡ 2 → expr_at table i ≡ symbolᴱ (symbol_of shape.label) (exprs_of (map (expr_at table) (children shape)))
  unfolding built built_of
  of-symbol e = is ∙ ap (λ (k : ℕ). built_of k shape.label (map (expr_at table) (children shape))) e

  each_of : (cs : List ℕ) (ts : Forest) → DenotesEach (exprs_of (map (expr_at table) cs)) ts → OneFromEach table cs ts
  unfolding exprs_of
  each_of [] []ᶠ x = tt
  each_of [] (t ∷ᶠ ts) x = let z : ◌≡◌ {A = ℕ} 0 1 = cc in absurd (omega arith)
  each_of (c ∷ cs) ts x = rw x.2 (x.3, each_of cs x.1 x.4)

  of-each : (cs : List ℕ) (ts : Forest) → OneFromEach table cs ts → DenotesEach (exprs_of (map (expr_at table) cs)) ts
  unfolding exprs_of
  of-each [] []ᶠ x = refl
  of-each [] (t ∷ᶠ ts) x = absurd x
  of-each (c ∷ cs) []ᶠ x = absurd x
  of-each (c ∷ cs) (t ∷ᶠ ts) x = (t, ts, refl, x.0, of-each cs ts x.1)

  same : {X : Tree → Type 0} (e : Expr) → expr_at table i ≡ e → ((t : Tree) → Denotes e t ↔ X t) → (t : Tree) → NodeDenotes table i t ↔ X t
  same e d h t = rw d (h t)

  node-means : Labelled shape.kind shape.label → NodeMeans table i shape
  unfolding built_of child_count
  node-means l =
      record {
        kinds = kind-small shape.kind shape.label l;
        empty = λ e t x. subst (λ (a : Expr). Denotes a t) (of-kind 0 e) x;
        hole_alone = λ e. same (holeᴱ shape.label) (of-kind 1 e) (λ t. (λ x. x, λ x. x));
        symbol = λ e. same (symbolᴱ (symbol_of shape.label) (exprs_of (map (expr_at table) (children shape)))) (of-symbol e)
            (λ t. (λ x. (x.0, x.1, each_of (children shape) x.0 x.2), λ x. (x.0, x.1, of-each (children shape) x.0 x.2)));
        alternation = λ e. same (altᴱ (expr_at table shape.first) (expr_at table shape.second)) (of-kind 3 e) (λ t. (λ x. x, λ x. x));
        concatenation = λ e. same (catᴱ shape.label (expr_at table shape.first) (expr_at table shape.second)) (of-kind 4 e) (λ t. (λ x. x, λ x. x));
        iteration = λ e. same (iterᴱ shape.label (expr_at table shape.first)) (of-kind 5 e) (λ t. (λ x. x, λ x. x));
      }

sound-means : (words : List ℕ) (count answer : ℕ) → Sound words count answer
    → (i : ℕ) → i < count → NodeMeans (table_of words count) i (node_at (table_of words count) i).shape
unfolding SoundNodes
sound-means words count answer s i h =
    let table = table_of words count in
    let l : length table ≡ count = length-table words count in
    let inside : i < length table = omega arith in
    let kept = s.kept i inside in
    let front : length (take i table) ≡ i = length-take-le i table (omega arith) in
    let shape = (node_at table i).shape in
    let earlier : All (λ c. c < i) (children shape) = rw front at kept.fits.earlier in
    let is = expr-at table i inside ∙ built-same (expr_at (take i table)) (expr_at table) shape (all_map (children shape) (λ c k. expr-take table i c (omega arith) k) earlier) in
    node-means table i shape is kept.fits.labelled

-- ---- runs

meets : (file words : List ℕ) (r : ReachedStates) → RunPromise file words r
    → (held : Held) (tree : Tree) → verdict file ≡ holds held → IsTree held words tree
    → (r.yes ≡ true) ↔ ((q : ℕ) × (has r.states.0 q ≡ true) × (has held.finals q ≡ true))
meets file words r p held tree e is =
    let c = p.one_tree held tree e is in
    (λ y. let a = c.accepted.0 y in (a.0, (c.reached a.0).1 a.2, a.1), λ x. c.accepted.1 (x.0, x.2, (c.reached x.0).0 x.1))

-- ---- files and values

value_and_back : (value : Automaton) (before after : List ℕ) (w : Extent) → Written value before after w → w.refusal.number ≡ 0
    → (r : Reading) → r ≡ read_answer (take w.length after)
    → (r.refusal.number ≡ 0) × (r.automaton ≡ placed (held_by value)) × (held_by r.automaton ≡ held_by value)
value_and_back value before after w p z r e =
    let c = e ∙ written-reads value before after w p z in
    let same : r.automaton ≡ placed (held_by value) = ap (λ (a : Reading). a.automaton) c in
    (ap (λ (a : Reading). a.refusal.number) c, same, ap held_by same ∙ held-placed (held_by value) (written-file value before after w p z).0)

file_and_back : (file : List ℕ) → Bytes file → (r : Reading) → r ≡ read_answer file → r.refusal.number ≡ 0
    → (before after : List ℕ) (w : Extent) → length file ≤ length before → Written r.automaton before after w
    → (w ≡ writing no_refusal (length file)) × (after ≡ file ++ drop (length file) before)
file_and_back file b r e z before after w h p =
    let c = read_held file r e z in
    reads-written file before after c.held w b c.in_file (subst (λ (a : Reading). Written a.automaton before after w) e p) h

pub means_what_it_should : MeansWhatItShould
means_what_it_should =
    record {
      reached = λ file words r p held tree e is. (p.one_tree held tree e is).reached;
      accepted = λ file words r p held tree e is. (p.one_tree held tree e is).accepted;
      meets_finals = meets;
      one_tree = at_most_one;
      productive = λ file r p held e. (p.found held e).productive;
      nodes = sound-means;
      value_and_back = value_and_back;
      file_and_back = file_and_back;
      file_exactly = reads-exactly;
    }
