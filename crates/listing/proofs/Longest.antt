-- How long the listing of a sound table can be: the longest line for each node, and the longest last line.
use Prim.Native.Nat.{ℕ, suc, ◌+◌, ◌*◌, ◌<◌, ◌≤◌}
use native.Mathlib.Omega.{arith}
use native.Mathlib.Nat.{zero-add}
use mathlib.Core.Path.{◌≡◌, sym, subst}
use mathlib.Core.List.{List, [], ◌∷◌, map}
use lib.ListN.{length, length-append}
use Rattle.ground.specs.Lists.{All}
use Rattle.ground.proofs.Lists.{all_map}
use Rattle.buffers.specs.Decimal.{decimal}
use Rattle.buffers.proofs.Decimal.{digits-below, digits-four}
use Rattle.expressions.specs.declared.Shape.{Shape}
use Rattle.expressions.specs.Nodes.{Kind, emptyᴷ, holeᴷ, symbolᴷ, altᴷ, catᴷ, iterᴷ, otherᴷ, kind_of, Table, node_at, symbol_of, children}
use Rattle.expressions.specs.Words.{table_of}
use Rattle.expressions.specs.Soundness.{Labelled, LabelledAs, Fits, SoundNodes, Sound}
use Rattle.expressions.proofs.Words.{length-table}
use Rattle.expressions.proofs.Soundness.{fits-at}
use Rattle.listing.specs.Listing.{name_of, kind_name, spaced, plain_label, node_line, node_lines, answer_line, listing, longest_line, longest_answer}
use Rattle.listing.specs.Answers.{listing_of}
use Rattle.listing.specs.Inside.{name_bytes, number_in, label_bytes}
use Rattle.listing.proofs.Listing.{children-few, line-size, answer-size}

-- ---- a line

two_digits : (n : ℕ) → n < 100 → length (decimal n) ≤ 2
two_digits n h = digits-below 1 n h

-- " symbol 31" is the longest name with its label
pub head-most : (kind label : ℕ) → Labelled kind label → length (name_bytes kind) + length (label_bytes (number_in (kind_of kind) label)) ≤ 10
unfolding kind_name
head-most kind label l = go (kind_of kind) l
  where
    go : (k : Kind) → LabelledAs k label → length (32 ∷ name_of k) + length (label_bytes (number_in k label)) ≤ 10
    go emptyᴷ l = omega arith
    go holeᴷ l = omega (arith, two_digits label (omega arith))
    go symbolᴷ l = let h = l.0 in omega (arith, two_digits (symbol_of label) (omega arith))
    go altᴷ l = omega arith
    go catᴷ l = omega (arith, two_digits label (omega arith))
    go iterᴷ l = omega (arith, two_digits label (omega arith))
    go otherᴷ l = absurd l

-- some fields of at most four digits each
pub fields-most : (cs : List ℕ) → All (λ c. c < 10000) cs → length (spaced (map decimal cs)) ≤ 5 * length cs
unfolding spaced
fields-most [] h = omega arith
fields-most (c ∷ cs) h = omega (arith, length-append (decimal c) (spaced (map decimal cs)), digits-four c h.0, fields-most cs h.1)

pub children-most : (number : ℕ) (shape : Shape) → number ≤ 10000 → Fits number shape → length (spaced (map decimal (children shape))) ≤ 15
children-most number shape h f =
    omega (arith, children-few shape, fields-most (children shape) (all_map (children shape) (λ c l. omega arith) f.earlier))

pub line-most : (number : ℕ) (shape : Shape) → number < 10000 → Fits number shape → length (node_line plain_label number shape) ≤ longest_line
line-most number shape h f =
    omega (
      arith,
      line-size number shape,
      digits-four number h,
      head-most shape.kind shape.label f.labelled,
      children-most number shape (omega arith) f,
    )

-- ---- the lines of a table

lines-most : (table : Table) (number : ℕ) → number + length table ≤ 10000 → ((i : ℕ) → i < length table → Fits (number + i) (node_at table i).shape)
    → length (node_lines plain_label number table) ≤ longest_line * length table
unfolding node_lines
lines-most [] number h f = omega arith
lines-most (node ∷ nodes) number h f =
    let e : number + 0 ≡ number = omega arith in
    let first = line-most number node.shape (omega arith) (subst (λ (k : ℕ). Fits k node.shape) e (f 0 (omega arith))) in
    let rest = lines-most nodes (suc number) (omega arith) (λ i l. let g : number + suc i ≡ suc number + i = omega arith in subst (λ (k : ℕ). Fits k (node_at nodes i).shape) g (f (suc i) (omega arith))) in
    omega (arith, length-append (node_line plain_label number node.shape) (node_lines plain_label (suc number) nodes))

-- ---- the listing

pub listing-most : (table : Table) (answer : ℕ) → SoundNodes table → length table ≤ 4096 → answer < 10000
    → length (listing plain_label table answer) ≤ longest_line * length table + longest_answer
unfolding listing
listing-most table answer s few small =
    let fits : (i : ℕ) → i < length table → Fits (0 + i) (node_at table i).shape = λ i h. subst (λ (k : ℕ). Fits k (node_at table i).shape) (sym (zero-add i)) (fits-at table s i h) in
    omega (
      arith,
      length-append (node_lines plain_label 0 table) (answer_line answer),
      lines-most table 0 (omega arith) fits,
      answer-size answer,
      digits-four answer small,
    )

-- of words that are a sound table
pub listing-bound : (words : List ℕ) (count answer : ℕ) → Sound words count answer → length (listing_of words count answer) ≤ longest_line * count + longest_answer
unfolding listing_of
listing-bound words count answer s =
    let few = s.few in
    let within = s.within in
    omega (arith, length-table words count, listing-most (table_of words count) answer s.kept (omega (arith, length-table words count)) (omega arith))
