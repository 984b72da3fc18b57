-- The laws of the listing: a line is its parts one after the other, and the listing its lines.
use Prim.Native.Nat.{ℕ, suc, ◌+◌, ◌<◌, ◌≤◌}
use native.Mathlib.Omega.{arith}
use native.Mathlib.Nat.{add-zero, zero-add}
use mathlib.Core.Path.{◌≡◌, refl, sym, ◌∙◌, ap}
use mathlib.Core.List.{List, [], ◌∷◌, ◌++◌, map, map-append, append-nil, append_assoc}
use lib.ListN.{length, drop, length-append, length-take, take-append-drop}
use lib.Seq.{sets, sets-eq}
use Rattle.std.specs.List.{sum_by}
use Rattle.std.specs.Prelude.{Option, Some, None, MatchOption}
use Rattle.std.proofs.lemmas.List.Sums.{sum_by-cons}
use Rattle.buffers.specs.Decimal.{decimal}
use Rattle.buffers.specs.Writing.{Wrote}
use Rattle.expressions.specs.declared.Shape.{Shape}
use Rattle.expressions.specs.Nodes.{Kind, emptyᴷ, holeᴷ, symbolᴷ, altᴷ, catᴷ, iterᴷ, otherᴷ, kind_of, Table, symbol_of, children}
use Rattle.expressions.specs.Words.{read_node, table_of}
use Rattle.expressions.specs.Soundness.{Sound}
use Rattle.expressions.proofs.Words.{length-table, table_more, take-table}
use Rattle.listing.specs.Listing.{name_of, kind_name, label_shown, label_fields, spaced, line, number_shown, label_number, plain_label, head_fields, node_line, node_lines, answer_line, listing}
use Rattle.listing.specs.Answers.{Lists, listed, listing_of}
use Rattle.listing.specs.Inside.{number_in, label_bytes, name_bytes}

-- ---- the fields of a line

spaced-append : (xs ys : List (List ℕ)) → spaced (xs ++ ys) ≡ spaced xs ++ spaced ys
unfolding spaced
spaced-append [] ys = refl
spaced-append (x ∷ xs) ys = ap (λ (l : List ℕ). 32 ∷ l) (ap (λ (l : List ℕ). x ++ l) (spaced-append xs ys) ∙ sym (append_assoc x (spaced xs) (spaced ys)))

-- the label's field, where the kind shows it
label-bytes : (kind : Kind) (label : ℕ) → spaced (label_shown kind (decimal (number_shown kind label))) ≡ label_bytes (number_in kind label)
unfolding spaced
label-bytes emptyᴷ label = refl
label-bytes holeᴷ label = append-nil (32 ∷ decimal label)
label-bytes symbolᴷ label = append-nil (32 ∷ decimal (symbol_of label))
label-bytes altᴷ label = refl
label-bytes catᴷ label = append-nil (32 ∷ decimal label)
label-bytes iterᴷ label = append-nil (32 ∷ decimal label)
label-bytes otherᴷ label = refl

pub label-size : (shown other : Option ℕ) {n : ℕ} → shown ≡ other → MatchOption shown (n ≡ 0) (λ x. n ≡ length (32 ∷ decimal x)) → n ≡ length (label_bytes other)
label-size None other e h = rw (← e) h
label-size (Some x) other e h = rw (← e) h

-- a node has three children at most
pub children-few : (shape : Shape) → length (children shape) ≤ 3
unfolding children
children-few shape = simp length-take (omega arith)

-- one child more
pub fields-more : {A : Type 0} (v : A → ℕ) (xs : List A) (x : A) → spaced (map decimal (map v (xs ++ (x ∷ [])))) ≡ spaced (map decimal (map v xs)) ++ (32 ∷ decimal (v x))
unfolding spaced
fields-more v xs x =
    rw (map-append v xs (x ∷ []), map-append decimal (map v xs) (v x ∷ []), spaced-append (map decimal (map v xs)) (decimal (v x) ∷ []), append-nil (decimal (v x)))

-- the fields summed
pub fields-sum : (cs : List ℕ) → sum_by (λ n. length (32 ∷ decimal n)) cs ≡ length (spaced (map decimal cs))
unfolding spaced
fields-sum [] = refl
fields-sum (c ∷ cs) = omega (arith, sum_by-cons (λ n. length (32 ∷ decimal n)) c cs, fields-sum cs, length-append (decimal c) (spaced (map decimal cs)))

-- ---- a line

regroup : (n a b c d : List ℕ) → n ++ ((a ++ (b ++ c)) ++ d) ≡ n ++ (a ++ (b ++ (c ++ d)))
regroup n a b c d = simp append_assoc

pub line-parts : (number : ℕ) (shape : Shape)
    → node_line plain_label number shape
    ≡ decimal number ++ (name_bytes shape.kind ++ (label_bytes (number_in (kind_of shape.kind) shape.label) ++ (spaced (map decimal (children shape)) ++ (10 ∷ []))))
unfolding node_line line plain_label head_fields label_fields label_number kind_name spaced
line-parts number shape =
    let kind = kind_of shape.kind in
    let label = label_shown kind (decimal (number_shown kind shape.label)) in
    let fields = map decimal (children shape) in
    ap (λ (l : List ℕ). decimal number ++ ((32 ∷ (name_of kind ++ l)) ++ (10 ∷ []))) (spaced-append label fields)
    ∙ rw (label-bytes kind shape.label) (regroup (decimal number) (name_bytes shape.kind) (label_bytes (number_in kind shape.label)) (spaced fields) (10 ∷ []))

pub line-size : (number : ℕ) (shape : Shape)
    → length (node_line plain_label number shape)
    ≡ length (decimal number) + length (name_bytes shape.kind) + length (label_bytes (number_in (kind_of shape.kind) shape.label)) + length (spaced (map decimal (children shape))) + 1
line-size number shape = ap length (line-parts number shape) ∙ simp length-append (omega arith)

-- ---- the lines

pub lines-append : (label_bytes : Shape → List ℕ) (number : ℕ) (table more : Table)
    → node_lines label_bytes number (table ++ more) ≡ node_lines label_bytes number table ++ node_lines label_bytes (number + length table) more
unfolding node_lines
lines-append label_bytes number [] more = rw add-zero
lines-append label_bytes number (node ∷ table) more =
    let e : suc number + length table ≡ number + suc (length table) = omega arith in
    ap (λ (l : List ℕ). node_line label_bytes number node.shape ++ l) (lines-append label_bytes (suc number) table more)
    ∙ sym (append_assoc (node_line label_bytes number node.shape) (node_lines label_bytes (suc number) table) (node_lines label_bytes (suc number + length table) more))
    ∙ rw e

-- the lines of the first nodes of the words
abbrev pub lines_to : List ℕ → ℕ → List ℕ
lines_to words i = node_lines plain_label 0 (table_of words i)

pub lines_none : (words : List ℕ) → lines_to words 0 ≡ []
unfolding table_of node_lines
lines_none words = refl

pub lines_more : (words : List ℕ) (i : ℕ) → lines_to words (i + 1) ≡ lines_to words i ++ node_line plain_label i (read_node words i).shape
unfolding node_lines
lines_more words i =
    let e : 0 + length (table_of words i) ≡ i = omega (arith, length-table words i) in
    ap (node_lines plain_label 0) (table_more words i) ∙ lines-append plain_label 0 (table_of words i) (read_node words i ∷ [])
    ∙ ap (λ (l : List ℕ). lines_to words i ++ l) (append-nil (node_line plain_label (0 + length (table_of words i)) (read_node words i).shape))
    ∙ rw e

lines-within : (words : List ℕ) (count i : ℕ) → i ≤ count → length (lines_to words i) ≤ length (lines_to words count)
lines-within words count i h =
    let rest = drop i (table_of words count) in
    let e : table_of words count ≡ table_of words i ++ rest = sym (take-append-drop i (table_of words count)) ∙ ap (λ (t : Table). t ++ rest) (take-table words count i h) in
    omega (
      arith,
      ap length (ap (node_lines plain_label 0) e ∙ lines-append plain_label 0 (table_of words i) rest),
      length-append (lines_to words i) (node_lines plain_label (0 + length (table_of words i)) rest),
    )

-- ---- the last line

pub answer-parts : (answer : ℕ) → answer_line answer ≡ (97 ∷ 110 ∷ 115 ∷ 119 ∷ 101 ∷ 114 ∷ 32 ∷ []) ++ (decimal answer ++ (10 ∷ []))
unfolding answer_line line spaced
answer-parts answer = ap (λ (l : List ℕ). (97 ∷ 110 ∷ 115 ∷ 119 ∷ 101 ∷ 114 ∷ []) ++ ((32 ∷ l) ++ (10 ∷ []))) (append-nil (decimal answer))

pub answer-size : (answer : ℕ) → length (answer_line answer) ≡ 8 + length (decimal answer)
answer-size answer = ap length (answer-parts answer) ∙ omega (arith, length-append (decimal answer) (10 ∷ []))

-- ---- the listing

pub listing-parts : (words : List ℕ) (count answer : ℕ) → listing_of words count answer ≡ lines_to words count ++ answer_line answer
unfolding listing_of listing
listing-parts words count answer = refl

pub listing-size : (words : List ℕ) (count answer : ℕ) → length (listing_of words count answer) ≡ length (lines_to words count) + length (answer_line answer)
listing-size words count answer = ap length (listing-parts words count answer) ∙ length-append (lines_to words count) (answer_line answer)

-- the line of a node ends within the listing
pub line-room : (words : List ℕ) (count answer i : ℕ) → i < count
    → length (lines_to words i) + length (node_line plain_label i (read_node words i).shape) ≤ length (listing_of words count answer)
line-room words count answer i h =
    omega (
      arith,
      ap length (lines_more words i),
      length-append (lines_to words i) (node_line plain_label i (read_node words i).shape),
      lines-within words count (i + 1) (omega arith),
      listing-size words count answer,
    )

-- ---- listing: each outcome

module _ (words : List ℕ) (count answer : ℕ) (before : List ℕ) where
  pub lists-unsound : (Sound words count answer → ⊥) → Lists words count answer before before (listed 8 0)
  lists-unsound n = record { unsound = λ _. (refl, refl); short = λ s. absurd (n s); done = λ s. absurd (n s) }

  pub lists-short : Sound words count answer → length before < length (listing_of words count answer) → Lists words count answer before before (listed 6 0)
  lists-short s h = record { unsound = λ n. absurd (n s); short = λ _ _. (refl, refl); done = λ _ l. absurd (omega arith) }

  pub lists-done : Sound words count answer → length (listing_of words count answer) ≤ length before → {after : List ℕ} {next : ℕ}
      → Wrote before 0 (listing_of words count answer) after next → Lists words count answer before after (listed 0 next)
  lists-done s h {after = after} {next = next} w =
      record {
        unsound = λ n. absurd (n s);
        short = λ _ l. absurd (omega arith);
        done = λ _ _. (ap (listed 0) (w.next_place ∙ zero-add _), w.bytes_there ∙ written);
      }
    where
      bytes : List ℕ
      bytes = listing_of words count answer

      written : sets before 0 bytes ≡ bytes ++ drop (length bytes) before
      written = sets-eq bytes before 0 (omega arith) ∙ ap (λ (n : ℕ). bytes ++ drop n before) (zero-add (length bytes))
