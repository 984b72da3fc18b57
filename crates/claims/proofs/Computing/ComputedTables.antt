-- Tables: open sets, unfolding, sizes, numbers of a listing, and which words the check calls sound.
use Prim.Native.Nat.{ℕ, zero, suc, ◌+◌, ◌-◌, ◌^◌, ◌≤◌, ◌<◌, min}
use native.Mathlib.Omega.{arith}
use native.Mathlib.Nat.{pow-suc}
use mathlib.Core.Path.{◌≡◌, refl, ap}
use mathlib.Core.Bool.{true, false}
use mathlib.Core.List.{List, [], ◌∷◌}
use lib.ListN.{length, take, replicate}
use Rattle.sets.specs.Members.{has, set_of, empty_set, one_set, union, without}
use Rattle.automaton.specs.declared.Refusal.{Refusal}
use Rattle.automaton.specs.Refusals.{refusal}
use Rattle.expressions.specs.declared.Shape.{Shape}
use Rattle.expressions.specs.declared.Node.{Node}
use Rattle.expressions.specs.Nodes.{empty_shape, hole_shape, symbol_shape, iter_shape, node_at, child_count, children, unused}
use Rattle.expressions.specs.Words.{encode, decode, read_node, node_in, table_of, put_node}
use Rattle.expressions.specs.Unfolding.{exprs_of, built_of, built, unfolded, expr_at}
use Rattle.expressions.specs.Soundness.{Fits, cat_opens, opens_of, opens_in, completed, SoundNode, SoundNodes, Sound}
use Rattle.expressions.specs.Sizes.{written_size, held_size}
use Rattle.buffers.specs.Decimal.{decimal_in, decimal}
use Rattle.listing.specs.Listing.{kind_name, label_fields, spaced, line, label_number, plain_label, head_fields, node_line}
use Rattle.expressions.specs.Making.{Makes}
use Rattle.expressions.proofs.Words.{length-table}
use Rattle.expressions.proofs.Soundness.{sound_none, sound-made}
use Rattle.ground.proofs.Deciding.{decides-no, decides-once}
use Rattle.claims.specs.WorkedDrafts.{words_p}
use Rattle.claims.specs.Computed.{doubled, Says, TableCases}

-- ---- sizes

doubled-size : (n : ℕ) → written_size (doubled n) + 1 ≡ 2 ^ suc n
unfolding doubled
doubled-size zero = refl
doubled-size (suc n) = rw (pow-suc 2 (suc n)) (omega (arith, doubled-size n))

held_at : (n : ℕ) → held_size (doubled n) ≡ min (2 ^ suc n - 1) 4294967295
unfolding held_size
held_at n = let e : written_size (doubled n) ≡ 2 ^ suc n - 1 = omega (arith, doubled-size n) in ap (λ (m : ℕ). min m 4294967295) e

-- ---- making

fits-three : Fits 1 (hole_shape 3)
unfolding children unused child_count
fits-three = record { labelled = omega arith; earlier = tt; zeros = (refl, (refl, (refl, tt))) }

made_hole : (after : List ℕ) (r : Refusal) → Makes (replicate 13 7) 1 (hole_shape 3) after r
    → (r ≡ refusal 0) × (after ≡ 7 ∷ 7 ∷ 7 ∷ 7 ∷ 7 ∷ 7 ∷ 1 ∷ 3 ∷ 0 ∷ 0 ∷ 0 ∷ 8 ∷ 7 ∷ [])
unfolding put_node encode completed opens_in opens_of one_set set_of
made_hole after r m = m.done fits-three (record { few = omega arith; roomy = omega arith })

made_of_itself : (after : List ℕ) (r : Refusal) → Makes [] 1 (iter_shape 0 1) after r → (r ≡ refusal 8) × (after ≡ [])
unfolding children child_count
made_of_itself after r m = m.unfit (λ f. let h = f.earlier.0 in omega arith)

made_without_room : (after : List ℕ) (r : Refusal) → Makes (replicate 11 7) 1 (hole_shape 3) after r → (r ≡ refusal 6) × (after ≡ replicate 11 7)
made_without_room after r m = m.full fits-three (λ k. let h = k.roomy in omega arith)

-- ---- soundness

says-yes : (words : List ℕ) (count answer : ℕ) → Sound words count answer → Says words count answer true
says-yes words count answer s r d = d.always s

says-no : (words : List ℕ) (count answer : ℕ) → (Sound words count answer → ⊥) → Says words count answer false
says-no words count answer n r d = decides-once d (decides-no n)

fits-empty : Fits 0 empty_shape
unfolding children unused child_count
fits-empty = record { labelled = refl; earlier = tt; zeros = (refl, (refl, (refl, tt))) }

fits-hole : Fits 0 (hole_shape 15)
unfolding children unused child_count
fits-hole = record { labelled = omega arith; earlier = tt; zeros = (refl, (refl, (refl, tt))) }

fits-leaf : Fits 0 (symbol_shape 0 0 0 0)
unfolding children unused child_count
fits-leaf = record { labelled = omega arith; earlier = tt; zeros = (refl, (refl, (refl, tt))) }

fits-over : Fits 1 (symbol_shape 256 0 0 0)
unfolding children unused child_count
fits-over = record { labelled = omega arith; earlier = (omega arith, tt); zeros = (refl, (refl, tt)) }

-- the words that begin with one node, made from the start
one-node : (words : List ℕ) (shape : Shape) → 6 ≤ length words → table_of words 1 ≡ completed [] shape ∷ [] → Fits 0 shape → Sound words 1 0
one-node words shape h e fits =
    record {
      some = omega arith;
      few = omega arith;
      roomy = h;
      within = omega arith;
      kept = rw e (sound-made [] shape sound_none fits);
    }

sound_one : Sound (0 ∷ 0 ∷ 0 ∷ 0 ∷ 0 ∷ 0 ∷ []) 1 0
unfolding table_of read_node decode completed opens_in opens_of empty_set set_of
sound_one = one-node (0 ∷ 0 ∷ 0 ∷ 0 ∷ 0 ∷ 0 ∷ []) empty_shape (omega arith) refl fits-empty

sound_more : Sound (0 ∷ 0 ∷ 0 ∷ 0 ∷ 0 ∷ 0 ∷ 7 ∷ 8 ∷ []) 1 0
unfolding table_of read_node decode completed opens_in opens_of empty_set set_of
sound_more = one-node (0 ∷ 0 ∷ 0 ∷ 0 ∷ 0 ∷ 0 ∷ 7 ∷ 8 ∷ []) empty_shape (omega arith) refl fits-empty

sound-hole : Sound (1 ∷ 15 ∷ 0 ∷ 0 ∷ 0 ∷ 32768 ∷ []) 1 0
unfolding table_of read_node decode completed opens_in opens_of one_set set_of
sound-hole = one-node (1 ∷ 15 ∷ 0 ∷ 0 ∷ 0 ∷ 32768 ∷ []) (hole_shape 15) (omega arith) refl fits-hole

two_arities : Sound (2 ∷ 0 ∷ 0 ∷ 0 ∷ 0 ∷ 0 ∷ 2 ∷ 256 ∷ 0 ∷ 0 ∷ 0 ∷ 0 ∷ []) 2 1
unfolding table_of read_node decode completed opens_in opens_of children child_count empty_set union has set_of
two_arities =
    record {
      some = omega arith;
      few = omega arith;
      roomy = omega arith;
      within = omega arith;
      kept = sound-made (completed [] (symbol_shape 0 0 0 0) ∷ []) (symbol_shape 256 0 0 0) (sound-made [] (symbol_shape 0 0 0 0) sound_none fits-leaf) fits-over;
    }

-- a node that breaks a rule
broken : (words : List ℕ) (count answer i : ℕ) → i < count → (SoundNode (take i (table_of words count)) (node_at (table_of words count) i) → ⊥) → Says words count answer false
unfolding SoundNodes
broken words count answer i h n = says-no words count answer (λ s. n (s.kept i (omega (arith, length-table words count))))

pub table-cases : TableCases
unfolding doubled cat_opens opens_of opens_in completed has set_of empty_set one_set union without expr_at unfolded built built_of exprs_of children child_count unused table_of node_in read_node decode words_p decimal decimal_in kind_name label_fields spaced line label_number plain_label head_fields node_line
table-cases =
    record {
      opens_empty = refl;
      opens_hole = refl;
      opens_symbol = refl;
      opens_alternation = refl;
      opens_iteration = refl;
      opens_lacking = refl;
      opens_joined = refl;
      opens_again = refl;
      opens_concatenation = refl;
      p_unfolds = refl;
      size_below = held_at 30;
      size_just = held_at 31;
      size_held = held_at 32;
      size_held_long = held_at 4000;
      digits = (refl, refl, refl);
      line_alt = refl;
      line_symbol = refl;
      made_hole = made_hole;
      made_of_itself = made_of_itself;
      made_without_room = made_without_room;
      node_read = refl;
      node_not_whole = refl;
      sound_one = says-yes (0 ∷ 0 ∷ 0 ∷ 0 ∷ 0 ∷ 0 ∷ []) 1 0 sound_one;
      sound_more_words = says-yes (0 ∷ 0 ∷ 0 ∷ 0 ∷ 0 ∷ 0 ∷ 7 ∷ 8 ∷ []) 1 0 sound_more;
      count_0 = λ words answer. says-no words 0 answer (λ s. let h = s.some in omega arith);
      count_4097 = λ words answer. says-no words 4097 answer (λ s. let h = s.few in omega arith);
      words_short = says-no (0 ∷ 0 ∷ 0 ∷ 0 ∷ 0 ∷ []) 1 0 (λ s. let h = s.roomy in omega arith);
      answer_past = says-no (0 ∷ 0 ∷ 0 ∷ 0 ∷ 0 ∷ 0 ∷ []) 1 1 (λ s. let h = s.within in omega arith);
      kind_6 = broken (6 ∷ 0 ∷ 0 ∷ 0 ∷ 0 ∷ 0 ∷ []) 1 0 0 (omega arith) (λ n. n.fits.labelled);
      label_used = broken (0 ∷ 1 ∷ 0 ∷ 0 ∷ 0 ∷ 0 ∷ []) 1 0 0 (omega arith) (λ n. let e = n.fits.labelled in omega arith);
      child_used = broken (0 ∷ 0 ∷ 0 ∷ 0 ∷ 1 ∷ 0 ∷ []) 1 0 0 (omega arith) (λ n. let e = n.fits.zeros.1.1.0 in omega arith);
      hole_15 = says-yes (1 ∷ 15 ∷ 0 ∷ 0 ∷ 0 ∷ 32768 ∷ []) 1 0 sound-hole;
      hole_16 = broken (1 ∷ 16 ∷ 0 ∷ 0 ∷ 0 ∷ 0 ∷ []) 1 0 0 (omega arith) (λ n. let h = n.fits.labelled in omega arith);
      opens_wrong = broken (1 ∷ 0 ∷ 0 ∷ 0 ∷ 0 ∷ 0 ∷ []) 1 0 0 (omega arith) (λ n. let e = ap (λ (m : Node). m.opens) n.right in omega arith);
      opens_high = broken (1 ∷ 0 ∷ 0 ∷ 0 ∷ 0 ∷ 65537 ∷ []) 1 0 0 (omega arith) (λ n. let e = ap (λ (m : Node). m.opens) n.right in omega arith);
      own_child = broken (2 ∷ 256 ∷ 0 ∷ 0 ∷ 0 ∷ 0 ∷ []) 1 0 0 (omega arith) (λ n. let h = n.fits.earlier.0 in omega arith);
      symbol_32 = broken (2 ∷ 32 ∷ 0 ∷ 0 ∷ 0 ∷ 0 ∷ []) 1 0 0 (omega arith) (λ n. let h = n.fits.labelled.0 in omega arith);
      arity_4 = broken (2 ∷ 1024 ∷ 0 ∷ 0 ∷ 0 ∷ 0 ∷ []) 1 0 0 (omega arith) (λ n. let h = n.fits.labelled.1 in omega arith);
      two_arities = says-yes (2 ∷ 0 ∷ 0 ∷ 0 ∷ 0 ∷ 0 ∷ 2 ∷ 256 ∷ 0 ∷ 0 ∷ 0 ∷ 0 ∷ []) 2 1 two_arities;
      other_node = broken (0 ∷ 0 ∷ 0 ∷ 0 ∷ 0 ∷ 0 ∷ 6 ∷ 0 ∷ 0 ∷ 0 ∷ 0 ∷ 0 ∷ []) 2 0 1 (omega arith) (λ n. n.fits.labelled);
    }
