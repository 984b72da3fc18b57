-- Numbers fit their types: in lists, in sets, in what a file holds and in the bytes of a file.
use Prim.Native.Nat.{ℕ, zero, suc, ◌-◌, ◌^◌, ◌≤◌, ◌<◌}
use native.Mathlib.Omega.{arith}
use mathlib.Core.Path.{◌≡◌, sym, ◌∙◌, subst}
use mathlib.Core.Bool.{Bool, true, false, cond}
use mathlib.Core.Logic.{◌↔◌}
use mathlib.Core.List.{List, [], ◌∷◌, ◌++◌, map}
use lib.ListN.{length, get_or, take, drop, replicate, length-map, length-replicate}
use lib.Pow.{pow_mono}
use lib.Dec.{ltb}
use Rattle.sets.specs.Members.{has, set_of, how_many, size, state_width}
use Rattle.sets.proofs.Bits.{set_of-lt, has-set_of}
use Rattle.ground.specs.Lists.{All, filled}
use Rattle.ground.proofs.Lists.{of-all, all-at, all_map, all_append}
use Rattle.ground.proofs.Places.{filled-length}
use Rattle.ground.proofs.Deciding.{decides-lt}
use Rattle.ground.proofs.Truth.{and_parts, and_both}
use Rattle.automaton.specs.declared.Row.{Row}
use Rattle.automaton.specs.Held.{Rule, Held, ValidRule, Valid, most_symbols, most_arity, most_rows}
use Rattle.automaton.specs.File.{two_bytes, file_record, head_record, symbol_record, row_record, end_record, each, file_of}
use Rattle.automaton.specs.Answers.{placed_row, unused_row, placed, no_automaton}
use Rattle.meaning.specs.Trees.{Tree, hole, node}
use Rattle.trees.specs.Runs.{Reaches}
use Rattle.trees.proofs.Answers.{one_set_lem}
use Rattle.claims.specs.Types.{Byte, Short, Bytes, RowFits, AutomatonFits}

-- ---- lists

module _ {A : Type 0} (P : A → Type 0) where
  pub all_replicate : (n : ℕ) (a : A) → P a → All P (replicate n a)
  all_replicate zero a p = tt
  all_replicate (suc n) a p = (p, all_replicate n a p)

  pub all_take : (n : ℕ) (xs : List A) → All P xs → All P (take n xs)
  all_take zero xs a = tt
  all_take (suc n) [] a = tt
  all_take (suc n) (x ∷ xs) a = (a.0, all_take n xs a.1)

  pub all_drop : (n : ℕ) (xs : List A) → All P xs → All P (drop n xs)
  all_drop zero xs a = a
  all_drop (suc n) [] a = tt
  all_drop (suc n) (x ∷ xs) a = all_drop n xs a.1

  pub all-filled : (n : ℕ) (d : A) (xs : List A) → P d → All P xs → All P (filled n d xs)
  unfolding filled
  all-filled n d xs p a = all_append P xs (replicate (n - length xs) d) a (all_replicate (n - length xs) d p)

  pub all_get_d : (xs : List A) (i : ℕ) (d : A) → P d → All P xs → P (get_or xs i d)
  all_get_d [] i d p a = p
  all_get_d (x ∷ xs) zero d p a = a.0
  all_get_d (x ∷ xs) (suc i) d p a = all_get_d xs i d p a.1

  pub all-places : (xs : List A) (d : A) → ((i : ℕ) → i < length xs → P (get_or xs i d)) → All P xs
  all-places [] d h = tt
  all-places (x ∷ xs) d h = (h 0 (omega arith), all-places xs d (λ i k. h (suc i) (omega arith)))

pub all-mapped : {A B : Type 0} (P : A → Type 0) (Q : B → Type 0) (f : A → B) → ((a : A) → P a → Q (f a)) → (xs : List A) → All P xs → All Q (map f xs)
all-mapped P Q f h [] a = tt
all-mapped P Q f h (x ∷ xs) a = (h x a.0, all-mapped P Q f h xs a.1)

-- what stands first, and then the rest of a buffer
pub front-typed : (P : ℕ → Type 0) (front before : List ℕ) (n : ℕ) → All P front → All P before → All P (front ++ drop n before)
front-typed P front before n a b = all_append P front (drop n before) a (all_drop P n before b)

-- ---- sets

-- no member from 16 on
pub small-set : (a : ℕ) → ((q : ℕ) → has a q ≡ true → q < 16) → Short a
small-set a h = subst (λ (n : ℕ). n < 2 ^ 16) (sym (one_set_lem a (set_of 16 (λ i. has a i)) same)) (set_of-lt 16 (λ i. has a i))
  where
    same : (q : ℕ) → (has a q ≡ true) ↔ (has (set_of 16 (λ i. has a i)) q ≡ true)
    same q =
        let e = has-set_of 16 (λ i. has a i) q in
        (λ x. e ∙ and_both (ltb q 16) (has a q) ((decides-lt q 16).always (h q x)) x, λ x. (and_parts (ltb q 16) (has a q) (sym e ∙ x)).1)

pub few-members : (width : ℕ) (test : ℕ → Bool) → how_many width test ≤ width
unfolding how_many
few-members zero test = omega arith
few-members (suc width) test = omega (arith, few-members width test, one (test width))
  where
    one : (b : Bool) → cond b 1 0 ≤ 1
    one true = omega arith
    one false = omega arith

pub size_few : (a : ℕ) → size state_width a ≤ 16
unfolding size
size_few a = few-members 16 (λ i. has a i)

-- ---- what a file holds

module _ (held : Held) (v : Valid held) where
  -- a tree reaches nothing but states
  pub reaches-small : (t : Tree) (q : ℕ) → Reaches held.rules t q → q < 16
  reaches-small (hole p) q x = absurd x
  reaches-small (node f ts) q x =
      let r = of-all (ValidRule held.states held.arities) held.rules v.valid_rules x.1 in
      omega (arith, r.aimed, v.few_states, x.3)

  arity-few : (f : ℕ) → f < length held.arities → get_or held.arities f 0 ≤ 3
  arity-few f h = all-at (λ a. a ≤ 3) held.arities v.small_arities f 0 h

  row_fits : (rule : Rule) → ValidRule held.states held.arities rule → RowFits (placed_row rule)
  unfolding placed_row
  row_fits rule r =
      let few = arity-few rule.symbol r.known in
      let states = v.few_states in (
        omega (arith, r.known, v.few_symbols),
        omega (arith, r.aimed),
        all-filled Byte most_arity 0 rule.sources (omega arith) (all_map rule.sources (λ q h. omega arith) r.sourced),
        filled-length most_arity 0 rule.sources (omega (arith, r.suited)),
      )

  finals-small : Short held.finals
  finals-small = omega (arith, v.finals_within, pow_mono {i = held.states} {j = 16} v.few_states)

  pub placed-fits : AutomatonFits (placed held)
  unfolding placed unused_row
  placed-fits =
      record {
        states = omega (arith, v.few_states);
        finals = finals-small;
        symbols = omega (arith, v.few_symbols);
        arities = all-filled Byte most_symbols 0 held.arities (omega arith) (all_map held.arities (λ a h. omega arith) v.small_arities);
        arity_places = filled-length most_symbols 0 held.arities v.few_symbols;
        count = omega (arith, v.few_rules);
        rows = all-filled RowFits most_rows unused_row (map placed_row held.rules) (omega arith) (all-mapped (ValidRule held.states held.arities) RowFits placed_row row_fits held.rules v.valid_rules);
        row_places = filled-length most_rows unused_row (map placed_row held.rules) (omega (arith, v.few_rules, length-map held.rules placed_row));
      }

pub none-fits : AutomatonFits no_automaton
unfolding no_automaton unused_row
none-fits =
    record {
      states = omega arith;
      finals = omega arith;
      symbols = omega arith;
      arities = all_replicate Byte most_symbols 0 (omega arith);
      arity_places = length-replicate {A = ℕ} most_symbols 0;
      count = omega arith;
      rows = all_replicate RowFits most_rows unused_row (omega arith);
      row_places = length-replicate {A = Row} most_rows unused_row;
    }

-- ---- the bytes of a file

two_bytes_lem : (n : ℕ) → Bytes (two_bytes n)
unfolding two_bytes
two_bytes_lem n = omega arith

record-bytes : (kind : ℕ) (payload : List ℕ) → Bytes payload → Bytes (file_record kind payload)
unfolding file_record
record-bytes kind payload b =
    all_append Byte (two_bytes (length payload)) (two_bytes kind ++ payload) (two_bytes_lem (length payload)) (all_append Byte (two_bytes kind) payload (two_bytes_lem kind) b)

each-bytes : {A : Type 0} (P : A → Type 0) (bytes : A → List ℕ) → ((a : A) → P a → Bytes (bytes a)) → (xs : List A) → All P xs → Bytes (each bytes xs)
unfolding each
each-bytes P bytes h [] a = tt
each-bytes P bytes h (x ∷ xs) a = all_append Byte (bytes x) (each bytes xs) (h x a.0) (each-bytes P bytes h xs a.1)

module _ (held : Held) (v : Valid held) where
  row-bytes : (rule : Rule) → ValidRule held.states held.arities rule → Bytes (row_record rule)
  unfolding row_record
  row-bytes rule r =
      let states = v.few_states in
      record-bytes 3 (rule.symbol ∷ rule.target ∷ rule.sources)
      (omega (arith, r.known, v.few_symbols), (omega (arith, r.aimed), all_map rule.sources (λ q h. omega arith) r.sourced))

  symbol-bytes : (arity : ℕ) → arity ≤ 3 → Bytes (symbol_record arity)
  unfolding symbol_record
  symbol-bytes arity h = record-bytes 2 (arity ∷ []) (omega arith, tt)

  pub file-bytes : Bytes (file_of held)
  unfolding file_of head_record end_record
  file-bytes =
      let states = v.few_states in
      let rows = each-bytes (ValidRule held.states held.arities) row_record row-bytes held.rules v.valid_rules in
      let symbols = each-bytes (λ a. a ≤ 3) symbol_record symbol-bytes held.arities v.small_arities in
      all_append Byte (head_record held.states held.finals) _ (record-bytes 1 (held.states ∷ two_bytes held.finals) (omega arith, two_bytes_lem held.finals))
      (all_append Byte (each symbol_record held.arities) _ symbols (all_append Byte (each row_record held.rules) end_record rows (record-bytes 9 [] tt)))
