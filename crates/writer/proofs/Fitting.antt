-- Which values a file can hold: one row, the rows, the value.
use Prim.Native.Nat.{ℕ, zero, suc, ◌+◌, ◌*◌, ◌^◌, ◌≤◌, ◌<◌}
use mathlib.Core.Bool.{Bool, true, false}
use mathlib.Core.Logic.{◌↔◌}
use mathlib.Core.Path.{◌≡◌, refl, sym, ap, ◌∙◌}
use mathlib.Core.List.{List, [], ◌∷◌, ◌++◌, map, map-append}
use native.Mathlib.Nat.{add_comm}
use native.Mathlib.Numerals.{add-two}
use native.Mathlib.Omega.{arith}
use lib.Dec.{leb}
use lib.ListN.{length, get_or, take, length-append, length-replicate, length-map}
use lib.Seq.{length-take-le}
use borrow.Author.Tests.{leb-true, leb-false}
use Rattle.automaton.specs.Held.{Rule, Held, ValidRule, Valid}
use Rattle.ground.specs.Lists.{All, filled, firsts}
use Rattle.automaton.specs.File.{file_record, row_record, each}
use Rattle.automaton.specs.Answers.{unused_row, rule_held, held_by}
use Rattle.automaton.specs.declared.Row.{Row}
use Rattle.automaton.specs.declared.Automaton.{Automaton}
use Rattle.std.specs.Prelude.{Option}
use Rattle.std.specs.Bool.{then_some}
use Rattle.writer.specs.Inside.{RowFits, RowSized, RowsFit, FileFits}
use Rattle.ground.proofs.Deciding.{refuted}
use Rattle.std.specs.List as Each
use Rattle.std.specs.Bool.{IsTrue}
use Rattle.std.proofs.lemmas.List.{take_more}
use Rattle.ground.specs.Decides.{Decides}
use Rattle.ground.proofs.Places.{firsts-take}
use Rattle.automaton.proofs.Files.FileOf.{all-get, file-parts}
use Rattle.writer.proofs.Putting.{record-long, each_snoc}

-- ---- each number of a list, as `all` answers it

module _ (P : ℕ → Type 0) where
  from-places : (xs : List ℕ) → Each.All P xs → All P xs
  from-places [] each = tt
  from-places (x ∷ xs) each = (each 0 0 (omega arith), from-places xs (λ k d h. each (suc k) d (omega arith)))

  to-places : (xs : List ℕ) → All P xs → Each.All P xs
  to-places [] a k d h = absurd (omega arith)
  to-places (x ∷ xs) a zero d h = a.0
  to-places (x ∷ xs) a (suc k) d h = to-places xs a.1 k d (omega arith)

  pub all-decides : (xs : List ℕ) (answer : Bool) → IsTrue answer ↔ Each.All P xs → Decides (All P xs) answer
  all-decides xs answer is = record { only = λ e. from-places xs (is.0 e); always = λ a. is.1 (to-places xs a) }

-- ---- one row

three : (s : List ℕ) → length s ≡ 3 → get_or s 0 0 ∷ get_or s 1 0 ∷ get_or s 2 0 ∷ [] ≡ s
three [] e = absurd (omega arith)
three (a ∷ []) e = absurd (omega arith)
three (a ∷ b ∷ []) e = absurd (omega arith)
three (a ∷ b ∷ c ∷ []) e = refl
three (a ∷ b ∷ c ∷ d ∷ s) e = absurd (omega arith)

module _ (known : List ℕ) (row : Row) (small : All (λ a. a ≤ 3) known) (long : length row.sources ≡ 3) where
  pub arity-small : get_or known row.symbol 0 ≤ 3
  arity-small = all-get (λ a. a ≤ 3) known row.symbol (omega arith) small

  pub rule-is : rule_held known row ≡ record { symbol = row.symbol; target = row.target; sources = take (get_or known row.symbol 0) row.sources }
  unfolding rule_held
  rule-is = rw (firsts-take (get_or known row.symbol 0) 0 row.sources (omega (arith, arity-small)))

  sources-long : length (take (get_or known row.symbol 0) row.sources) ≡ get_or known row.symbol 0
  sources-long = length-take-le (get_or known row.symbol 0) row.sources (omega (arith, arity-small))

  -- its record, from five bytes of which the first so many are used
  pub row-record : row_record (rule_held known row)
      ≡ file_record 3 (take (2 + get_or known row.symbol 0) (row.symbol ∷ row.target ∷ get_or row.sources 0 0 ∷ get_or row.sources 1 0 ∷ get_or row.sources 2 0 ∷ []))
  unfolding row_record
  row-record =
      ap (λ (rule : Rule). file_record 3 (rule.symbol ∷ rule.target ∷ rule.sources)) rule-is
      ∙ rw (three row.sources long, add_comm 2 (get_or known row.symbol 0), add-two)

  pub row-long : length (row_record (rule_held known row)) ≡ 6 + get_or known row.symbol 0
  unfolding row_record
  row-long =
      ap (λ (rule : Rule). length (file_record 3 (rule.symbol ∷ rule.target ∷ rule.sources))) rule-is
      ∙ record-long 3 (row.symbol ∷ row.target ∷ take (get_or known row.symbol 0) row.sources)
      ∙ (let few = sources-long in omega arith)

  module _ (states : ℕ) where
    pub row-unknown : length known ≤ row.symbol → ValidRule states known (rule_held known row) → ⊥
    unfolding rule_held
    row-unknown h v = omega (arith, v.known)

    pub row-aimless : states ≤ row.target → ValidRule states known (rule_held known row) → ⊥
    unfolding rule_held
    row-aimless h v = omega (arith, v.aimed)

    pub row-sourceless : (All (λ q. q < states) (take (get_or known row.symbol 0) row.sources) → ⊥) → ValidRule states known (rule_held known row) → ⊥
    row-sourceless n v = n (rw rule-is at v).sourced

    pub row-fits : row.symbol < length known → row.target < states → All (λ q. q < states) (take (get_or known row.symbol 0) row.sources) → RowFits states known row (6 + get_or known row.symbol 0)
    row-fits less aimed sourced =
        let valid : ValidRule states known (record { symbol = row.symbol; target = row.target; sources = take (get_or known row.symbol 0) row.sources })
        = record { known = less; suited = sources-long; aimed = aimed; sourced = sourced } in
        record { valid = rw rule-is valid; sized = sym row-long; small = omega (arith, arity-small) }

    -- what the last test of a row answers
    module _ (less : row.symbol < length known) (aimed : row.target < states) where
      pub row-tested : (answer : Bool) → Decides (All (λ q. q < states) (take (get_or known row.symbol 0) row.sources)) answer
          → (r : Option ℕ) → r ≡ then_some answer (6 + get_or known row.symbol 0) → RowSized states known row r
      row-tested true d r e = rw e (row-fits less aimed (d.only refl))
      row-tested false d r e = rw e (row-sourceless (refuted d refl))

-- ---- the rows

module _ {A : Type 0} (P : A → Type 0) where
  all_snoc : (xs : List A) (x : A) → All P xs → P x → All P (xs ++ (x ∷ []))
  all_snoc [] x a p = (p, tt)
  all_snoc (y ∷ xs) x a p = (a.0, all_snoc xs x a.1 p)

  all-at : (xs : List A) (i : ℕ) (d : A) → i < length xs → All P xs → P (get_or xs i d)
  all-at [] i d h a = absurd (omega arith)
  all-at (x ∷ xs) zero d h a = a.0
  all-at (x ∷ xs) (suc i) d h a = all-at xs i d (omega arith) a.1

all-mapped : {A B : Type 0} (P : B → Type 0) (f : A → B) (xs : List A) → All P (map f xs) → All (λ x. P (f x)) xs
all-mapped P f [] a = tt
all-mapped P f (x ∷ xs) a = (a.0, all-mapped P f xs a.1)

module _ (states : ℕ) (known : List ℕ) (rows : List Row) where
  pub row-valid : (i : ℕ) (d : Row) → i < length rows → All (ValidRule states known) (map (rule_held known) rows) → ValidRule states known (rule_held known (get_or rows i d))
  row-valid i d h a = all-at (λ row. ValidRule states known (rule_held known row)) rows i d h (all-mapped (ValidRule states known) (rule_held known) rows a)

pub row-known : (states : ℕ) (known : List ℕ) (row : Row) → ValidRule states known (rule_held known row) → row.symbol < length known
unfolding rule_held
row-known states known row v = v.known

pub rows-none : (states : ℕ) (known : List ℕ) → RowsFit states known [] 0
unfolding each
rows-none states known = record { valid = tt; sized = refl; small = omega arith }

pub rows-more : (states : ℕ) (known : List ℕ) (rows : List Row) (i : ℕ) (d : Row) (length' size : ℕ) → i < length rows
    → RowsFit states known (take i rows) length' → RowFits states known (get_or rows i d) size → RowsFit states known (take (i + 1) rows) (length' + size)
rows-more states known rows i d length' size h so_far fits =
    let f = rule_held known in
    let more : map f (take (i + 1) rows) ≡ map f (take i rows) ++ (f (get_or rows i d) ∷ [])
    = ap (map f) (take_more rows i d h) ∙ map-append f (take i rows) (get_or rows i d ∷ []) in
    record {
      valid = rw more (all_snoc (ValidRule states known) (map f (take i rows)) (f (get_or rows i d)) so_far.valid fits.valid);
      sized = rw (more, each_snoc, length-append, ← so_far.sized, ← fits.sized);
      small = rw (length-take-le (i + 1) rows (omega arith)) (omega (arith, so_far.small, fits.small, length-take-le i rows (omega arith)));
    }

-- ---- the value

firsts-length : {A : Type 0} (n : ℕ) (unused : A) (xs : List A) → length (firsts n unused xs) ≡ n
unfolding firsts filled
firsts-length n unused xs = length-take-le n (xs ++ _) (simp (length-append, length-replicate) (omega arith))

module _ (value : Automaton) where
  pub states-few : value.states < 1 → Valid (held_by value) → ⊥
  unfolding held_by
  states-few h v = omega (arith, v.some_state)

  pub states-many : 16 < value.states → Valid (held_by value) → ⊥
  unfolding held_by
  states-many h v = omega (arith, v.few_states)

  pub finals-past : leb (2 ^ value.states) value.finals.0 ≡ true → Valid (held_by value) → ⊥
  unfolding held_by
  finals-past h v = omega (arith, leb-true (2 ^ value.states) value.finals.0 h, v.finals_within)

  pub arities-counted : length (held_by value).arities ≡ value.symbols
  unfolding held_by
  arities-counted = firsts-length value.symbols 0 value.arities

  pub rules-counted : length (held_by value).rules ≡ value.count
  unfolding held_by
  rules-counted = length-map (firsts value.count unused_row value.rows) _ ∙ firsts-length value.count unused_row value.rows

  pub symbols-few : value.symbols < 1 → Valid (held_by value) → ⊥
  symbols-few h v = omega (arith, arities-counted, v.some_symbol)

  pub symbols-many : 32 < value.symbols → Valid (held_by value) → ⊥
  symbols-many h v = omega (arith, arities-counted, v.few_symbols)

  pub rows-many : 64 < value.count → Valid (held_by value) → ⊥
  rows-many h v = omega (arith, rules-counted, v.few_rules)

  -- where the counts are in range, what the value says
  module _ (symbols : value.symbols ≤ length value.arities) (rows : value.count ≤ length value.rows) where
    pub held-is : held_by value
        ≡ record {
          states = value.states;
          finals = value.finals.0;
          arities = take value.symbols value.arities;
          rules = map (rule_held (take value.symbols value.arities)) (take value.count value.rows);
        }
    unfolding held_by
    held-is = rw (firsts-take value.symbols 0 value.arities symbols, firsts-take value.count unused_row value.rows rows)

    pub arities-wide : (All (λ a. a ≤ 3) (take value.symbols value.arities) → ⊥) → Valid (held_by value) → ⊥
    arities-wide n v = n (rw held-is at v).small_arities

    pub rows-unfit : (All (ValidRule value.states (take value.symbols value.arities)) (map (rule_held (take value.symbols value.arities)) (take value.count value.rows)) → ⊥) → Valid (held_by value) → ⊥
    rows-unfit n v = n (rw held-is at v).valid_rules

    pub file-fits : 1 ≤ value.states → value.states ≤ 16 → leb (2 ^ value.states) value.finals.0 ≡ false → 1 ≤ value.symbols → value.symbols ≤ 32 → value.count ≤ 64
        → All (λ a. a ≤ 3) (take value.symbols value.arities) → (size : ℕ) → RowsFit value.states (take value.symbols value.arities) (take value.count value.rows) size
        → FileFits value (11 + 5 * value.symbols + size)
    file-fits some_state few_states within some_symbol few_symbols few_rules small size fits =
        record {
          valid = rw held-is
              (record {
                some_state = some_state;
                few_states = few_states;
                finals_within = leb-false (2 ^ value.states) value.finals.0 within;
                some_symbol = rw (length-take-le value.symbols value.arities symbols) some_symbol;
                few_symbols = rw (length-take-le value.symbols value.arities symbols) few_symbols;
                small_arities = small;
                few_rules = rw (length-map (take value.count value.rows) (rule_held (take value.symbols value.arities)), length-take-le value.count value.rows rows) few_rules;
                valid_rules = fits.valid;
              });
          sized = omega (arith, file-parts (held_by value), arities-counted, fits.sized, ap (λ (h : Held). length (each row_record h.rules)) held-is);
        }
