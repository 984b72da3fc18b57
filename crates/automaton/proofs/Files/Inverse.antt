-- What a good record must have been: from what one record is found to be back to its values and its bytes.
use Prim.Native.Nat.{ℕ, zero, suc, ◌+◌, ◌^◌, ◌≤◌, ◌<◌}
use mathlib.Core.Bool.{Bool, true, false, not, ◌&&◌, ◌||◌, false≢true, true≢false}
use mathlib.Core.Path.{◌≡◌, refl, sym, ap, ap₂, ◌∙◌}
use mathlib.Core.List.{List, [], ◌∷◌, ◌++◌, append-nil}
use native.Mathlib.Omega.{arith}
use lib.Dec.{leb, ltb, eqb}
use lib.ListN.{length, get_or, take, drop, length-drop}
use lib.Seq.{length-take-le}
use borrow.Author.Tests.{ne_eqb, lt-ltb, leb-false, ltb-false, eqb-true, not-false, ltb-true}
use Rattle.automaton.specs.Held.{Rule, Held, ValidRule}
use Rattle.ground.specs.Lists.{All}
use Rattle.automaton.specs.File.{two_bytes, file_record, head_record, symbol_record, row_record, end_record}
use Rattle.automaton.specs.Checks.{nothing, given, Found, more, end, wrong_if, number_at, is_none, kind_allowed, length_allowed, head_values, symbol_values, all_below, row_values, values, record_found}
use Rattle.ground.proofs.Truth.{and_parts}
use Rattle.automaton.proofs.Finding.Frames.{length-head, length-symbol, length-row, length-end}
use Rattle.automaton.proofs.Finding.Verdicts.{Passed, found-values, more-passed, end-passed}
use Rattle.automaton.proofs.Files.Records.{Bytes, bytes_drop, record-bytes, two-of}

-- ---- checks that were passed

pub wrong_if-more : (b : Bool) (n : ℕ) (found : Found) (held : Held) → wrong_if b n found ≡ more held → (b ≡ false) × (found ≡ more held)
wrong_if-more true n found held e = let z : ◌≡◌ {A = ℕ} 0 1 = cc in absurd (omega arith)
wrong_if-more false n found held e = (refl, e)

-- what is never the end
abbrev NotEnd : Found → Type 0
NotEnd found = (held : Held) → found ≡ end held → ⊥

more-not-end : (before : Held) → NotEnd (more before)
more-not-end before held e = let z : ◌≡◌ {A = ℕ} 0 1 = cc in omega arith

wrong_if-not-end : (b : Bool) (n : ℕ) (found : Found) → NotEnd found → NotEnd (wrong_if b n found)
wrong_if-not-end true n found h held e = let z : ◌≡◌ {A = ℕ} 0 1 = cc in omega arith
wrong_if-not-end false n found h held e = h held e

symbol-not-end : (before : Held) (payload : List ℕ) → NotEnd (symbol_values before payload)
unfolding symbol_values
symbol-not-end before payload =
    wrong_if-not-end (leb 32 (length before.arities)) 4 _ (wrong_if-not-end (ltb 3 (get_or payload 0 0)) 4 _ (more-not-end _))

row-not-end : (before : Held) (payload : List ℕ) → NotEnd (row_values before payload)
unfolding row_values
row-not-end before payload =
    wrong_if-not-end (leb 64 (length before.rules)) 4 _
    (wrong_if-not-end (leb (length before.arities) (get_or payload 0 0)) 4 _
    (wrong_if-not-end (not (eqb (length payload) (2 + get_or before.arities (get_or payload 0 0) 0))) 3 _
    (wrong_if-not-end (leb before.states (get_or payload 1 0)) 4 _
    (wrong_if-not-end (not (all_below before.states (drop 2 payload))) 4 _ (more-not-end _)))))

pub below_all : (bound : ℕ) (xs : List ℕ) → all_below bound xs ≡ true → All (λ x. x < bound) xs
unfolding all_below
below_all bound [] e = tt
below_all bound (x ∷ xs) e = go (ltb x bound) refl e (below_all bound xs)
  where
    go : (b : Bool) → ltb x bound ≡ b → (b && all_below bound xs) ≡ true → (all_below bound xs ≡ true → All (λ x. x < bound) xs) → All (λ x. x < bound) (x ∷ xs)
    go true p e ih = (ltb-true x bound p, ih e)
    go false p e ih = absurd (false≢true e)

pub all-below : (bound : ℕ) (xs : List ℕ) → All (λ x. x < bound) xs → all_below bound xs ≡ true
unfolding all_below
all-below bound [] a = refl
all-below bound (x ∷ xs) a = rw (lt-ltb x bound a.0) (all-below bound xs a.1)

pub nothing-not-end : (bytes : List ℕ) (held : Held) → record_found nothing bytes ≡ end held → ⊥
unfolding values head_values
nothing-not-end bytes held e =
    let payload = take (number_at bytes 0) (drop 4 bytes) in
    wrong_if-not-end (ltb (get_or payload 0 0) 1 || ltb 16 (get_or payload 0 0)) 4 _
    (wrong_if-not-end (leb (2 ^ get_or payload 0 0) (number_at payload 1)) 4 _ (more-not-end _)) held
    (sym (found-values nothing bytes (end-passed nothing bytes held e)) ∙ e)

pub more_same : (a b : Held) → more a ≡ more b → a ≡ b
more_same a b e = cc

pub payload-long : (bytes : List ℕ) → 4 + number_at bytes 0 ≤ length bytes → length (take (number_at bytes 0) (drop 4 bytes)) ≡ number_at bytes 0
payload-long bytes h = length-take-le (number_at bytes 0) (drop 4 bytes) (simp length-drop (omega arith))

-- ---- the head

or-none : (a b : Bool) → (a || b) ≡ false → (a ≡ false) × (b ≡ false)
or-none true b e = absurd (true≢false e)
or-none false b e = (refl, e)

pub record HeadGood (held : Held) (bytes : List ℕ) : Type 0 where
  pub states : ℕ
  pub finals : ℕ
  pub some_state : 1 ≤ states
  pub few_states : states ≤ 16
  pub finals_within : finals < 2 ^ states
  pub is : held ≡ record { states = states; finals = finals; arities = []; rules = [] }
  pub written : Bytes bytes → bytes ≡ head_record states finals ++ drop (4 + number_at bytes 0) bytes

three : (payload : List ℕ) → length payload ≡ 3 → payload ≡ get_or payload 0 0 ∷ get_or payload 1 0 ∷ get_or payload 2 0 ∷ []
three [] e = absurd (omega arith)
three (x ∷ []) e = absurd (omega arith)
three (x ∷ y ∷ []) e = absurd (omega arith)
three (x ∷ y ∷ z ∷ []) e = refl
three (x ∷ y ∷ z ∷ w ∷ l) e = absurd (omega arith)

pub bytes_take : (n : ℕ) (bytes : List ℕ) → Bytes bytes → Bytes (take n bytes)
bytes_take zero bytes b = tt
bytes_take (suc n) [] b = tt
bytes_take (suc n) (x ∷ bytes) b = (b.0, bytes_take n bytes b.1)

pub byte_at : (bytes : List ℕ) (i : ℕ) → Bytes bytes → get_or bytes i 0 < 256
byte_at [] i b = omega arith
byte_at (x ∷ bytes) zero b = b.0
byte_at (x ∷ bytes) (suc i) b = byte_at bytes i b.1

payload-is : (finals states : ℕ) (payload : List ℕ) → Bytes payload → length payload ≡ 3 → states ≡ get_or payload 0 0 → finals ≡ number_at payload 1 → payload ≡ states ∷ two_bytes finals
unfolding number_at
payload-is finals states payload b l s f =
    three payload l ∙ rw (s, f, two-of (get_or payload 1 0) (get_or payload 2 0) (byte_at payload 1 b) (byte_at payload 2 b))

pub head-good : (bytes : List ℕ) (held : Held) → record_found nothing bytes ≡ more held → HeadGood held bytes
unfolding kind_allowed values head_values head_record
head-good bytes held e =
    let p = more-passed nothing bytes held e in
    let kind : number_at bytes 2 ≡ 1 = eqb-true _ _ p.kind in
    let size : number_at bytes 0 ≡ 3 = eqb-true _ _ (length-head (number_at bytes 0) ∙ ap (λ (k : ℕ). length_allowed k (number_at bytes 0)) (sym kind) ∙ p.sized) in
    let payload = take (number_at bytes 0) (drop 4 bytes) in
    let states = get_or payload 0 0 in
    let finals = number_at payload 1 in
    let count = wrong_if-more (ltb states 1 || ltb 16 states) 4 _ held (sym (found-values nothing bytes p) ∙ e) in
    let last = wrong_if-more (leb (2 ^ states) finals) 4 _ held count.1 in
    let range = or-none (ltb states 1) (ltb 16 states) count.0 in
    record {
      states = states;
      finals = finals;
      some_state = ltb-false states 1 range.0;
      few_states = ltb-false 16 states range.1;
      finals_within = leb-false (2 ^ states) finals last.0;
      is = more_same held (record { states = states; finals = finals; arities = []; rules = [] }) (sym last.1);
      written = λ b. record-bytes bytes b p.there
          ∙ ap₂ (λ (k : ℕ) (l : List ℕ). file_record k l ++ drop (4 + number_at bytes 0) bytes) kind
          (payload-is finals states payload (bytes_take (number_at bytes 0) (drop 4 bytes) (bytes_drop 4 bytes b)) (payload-long bytes p.there ∙ size) refl refl);
    }

-- ---- a symbol or a row

pub record SymbolGood (before after : Held) (bytes : List ℕ) : Type 0 where
  pub arity : ℕ
  pub small : arity ≤ 3
  pub few : length before.arities < 32
  pub first : before.rules ≡ []
  pub is : after ≡ record { states = before.states; finals = before.finals; arities = before.arities ++ (arity ∷ []); rules = before.rules }
  pub written : Bytes bytes → bytes ≡ symbol_record arity ++ drop (4 + number_at bytes 0) bytes

pub record RowGood (before after : Held) (bytes : List ℕ) : Type 0 where
  pub rule : Rule
  pub valid : ValidRule before.states before.arities rule
  pub few : length before.rules < 64
  pub some : 1 ≤ length before.arities
  pub is : after ≡ record { states = before.states; finals = before.finals; arities = before.arities; rules = before.rules ++ (rule ∷ []) }
  pub written : Bytes bytes → bytes ≡ row_record rule ++ drop (4 + number_at bytes 0) bytes

none_is : {A : Type 0} (xs : List A) → is_none xs ≡ true → xs ≡ []
none_is [] e = refl
none_is (x ∷ xs) e = absurd (false≢true e)

none-not : (xs : List ℕ) → not (is_none xs) ≡ true → 1 ≤ length xs
none-not [] e = absurd (false≢true e)
none-not (x ∷ xs) e = omega arith

one : (payload : List ℕ) → length payload ≡ 1 → payload ≡ get_or payload 0 0 ∷ []
one [] e = absurd (omega arith)
one (x ∷ []) e = refl
one (x ∷ y ∷ l) e = absurd (omega arith)

two : (payload : List ℕ) → 2 ≤ length payload → payload ≡ get_or payload 0 0 ∷ get_or payload 1 0 ∷ drop 2 payload
two [] h = absurd (omega arith)
two (x ∷ []) h = absurd (omega arith)
two (x ∷ y ∷ l) h = refl

or_left : (a : Bool) → (a || false) ≡ true → a ≡ true
or_left true e = refl
or_left false e = e

-- the kinds after the first record
module _ (held : Held) (kind : ℕ) (allowed : kind_allowed (given held) kind ≡ true) where
  symbol_first : kind ≡ 2 → held.rules ≡ []
  unfolding kind_allowed
  symbol_first e = none_is held.rules (or_left (is_none held.rules) (rw e at allowed))

  row-some : (kind ≡ 2 → ⊥) → 1 ≤ length held.arities
  unfolding kind_allowed
  row-some n = none-not held.arities (and_parts (eqb kind 3 || eqb kind 9) (not (is_none held.arities)) (rw (ne_eqb kind 2 n) at allowed)).1

module _ (before after : Held) (bytes : List ℕ) (e : record_found (given before) bytes ≡ more after) where
  passed : Passed (kind_allowed (given before)) bytes
  passed = more-passed (given before) bytes after e

  abbrev payload : List ℕ
  payload = take (number_at bytes 0) (drop 4 bytes)

  pub symbol-good : number_at bytes 2 ≡ 2 → SymbolGood before after bytes
  unfolding values symbol_values symbol_record
  symbol-good kind =
      let size : number_at bytes 0 ≡ 1 = eqb-true _ _ (length-symbol (number_at bytes 0) ∙ ap (λ (k : ℕ). length_allowed k (number_at bytes 0)) (sym kind) ∙ passed.sized) in
      let found : symbol_values before payload ≡ more after = ap (λ (k : ℕ). values (given before) k payload) (sym kind) ∙ sym (found-values (given before) bytes passed) ∙ e in
      let count = wrong_if-more (leb 32 (length before.arities)) 4 _ after found in
      let last = wrong_if-more (ltb 3 (get_or payload 0 0)) 4 _ after count.1 in
      record {
        arity = get_or payload 0 0;
        small = ltb-false 3 (get_or payload 0 0) last.0;
        few = leb-false 32 (length before.arities) count.0;
        first = symbol_first before (number_at bytes 2) passed.kind kind;
        is = more_same after _ (sym last.1);
        written = λ b. record-bytes bytes b passed.there
            ∙ ap₂ (λ (k : ℕ) (l : List ℕ). file_record k l ++ drop (4 + number_at bytes 0) bytes) kind (one payload (payload-long bytes passed.there ∙ size));
      }

  pub other_none : (number_at bytes 2 ≡ 2 → ⊥) → (number_at bytes 2 ≡ 3 → ⊥) → ⊥
  unfolding values
  other_none n m =
      let found : values (given before) (number_at bytes 2) payload ≡ more after = sym (found-values (given before) bytes passed) ∙ e in
      let done : end before ≡ more after = rw (ne_eqb (number_at bytes 2) 2 n, ne_eqb (number_at bytes 2) 3 m) at found in
      let z : ◌≡◌ {A = ℕ} 0 1 = cc in omega arith

  pub row-good : (number_at bytes 2 ≡ 2 → ⊥) → number_at bytes 2 ≡ 3 → RowGood before after bytes
  unfolding values row_values row_record
  row-good other kind =
      let size : (leb 2 (number_at bytes 0) && leb (number_at bytes 0) 5) ≡ true = length-row (number_at bytes 0) ∙ ap (λ (k : ℕ). length_allowed k (number_at bytes 0)) (sym kind) ∙ passed.sized in
      let found : row_values before payload ≡ more after = ap (λ (k : ℕ). values (given before) k payload) (sym kind) ∙ sym (found-values (given before) bytes passed) ∙ e in
      let count = wrong_if-more (leb 64 (length before.rules)) 4 _ after found in
      let symbol = wrong_if-more (leb (length before.arities) (get_or payload 0 0)) 4 _ after count.1 in
      let suited = wrong_if-more (not (eqb (length payload) (2 + get_or before.arities (get_or payload 0 0) 0))) 3 _ after symbol.1 in
      let aimed = wrong_if-more (leb before.states (get_or payload 1 0)) 4 _ after suited.1 in
      let sourced = wrong_if-more (not (all_below before.states (drop 2 payload))) 4 _ after aimed.1 in
      let suits : length payload ≡ 2 + get_or before.arities (get_or payload 0 0) 0 = eqb-true _ _ (not-false _ suited.0) in
      record {
        rule = record { symbol = get_or payload 0 0; target = get_or payload 1 0; sources = drop 2 payload };
        valid = record {
          known = leb-false (length before.arities) (get_or payload 0 0) symbol.0;
          suited = simp length-drop (omega arith);
          aimed = leb-false before.states (get_or payload 1 0) aimed.0;
          sourced = below_all before.states (drop 2 payload) (not-false _ sourced.0);
        };
        few = leb-false 64 (length before.rules) count.0;
        some = row-some before (number_at bytes 2) passed.kind other;
        is = more_same after _ (sym sourced.1);
        written = λ b. record-bytes bytes b passed.there
            ∙ ap₂ (λ (k : ℕ) (l : List ℕ). file_record k l ++ drop (4 + number_at bytes 0) bytes) kind (two payload (omega arith));
      }

-- ---- the end

pub record EndGood (before after : Held) (bytes : List ℕ) : Type 0 where
  pub is : after ≡ before
  pub some : 1 ≤ length before.arities
  pub written : Bytes bytes → is_none (drop 4 bytes) ≡ true → bytes ≡ end_record

module _ (before after : Held) (bytes : List ℕ) (e : record_found (given before) bytes ≡ end after) where
  ended : Passed (kind_allowed (given before)) bytes
  ended = end-passed (given before) bytes after e

  found : values (given before) (number_at bytes 2) (take (number_at bytes 0) (drop 4 bytes)) ≡ end after
  found = sym (found-values (given before) bytes ended) ∙ e

  no_symbol : number_at bytes 2 ≡ 2 → ⊥
  unfolding values
  no_symbol kind = symbol-not-end before (take (number_at bytes 0) (drop 4 bytes)) after (rw kind at found)

  no_row : number_at bytes 2 ≡ 3 → ⊥
  unfolding values
  no_row kind = row-not-end before (take (number_at bytes 0) (drop 4 bytes)) after (rw kind at found)

  end-kind : number_at bytes 2 ≡ 9
  unfolding kind_allowed
  end-kind =
      eqb-true _ _
      (and_parts (eqb (number_at bytes 2) 9) (not (is_none before.arities))
      (rw (ne_eqb (number_at bytes 2) 2 no_symbol, ne_eqb (number_at bytes 2) 3 no_row) at ended.kind)).0

  pub end-good : EndGood before after bytes
  unfolding values end_record
  end-good =
      let size : number_at bytes 0 ≡ 0 = eqb-true _ _ (length-end (number_at bytes 0) ∙ ap (λ (k : ℕ). length_allowed k (number_at bytes 0)) (sym end-kind) ∙ ended.sized) in
      let same : end before ≡ end after = rw (ne_eqb (number_at bytes 2) 2 no_symbol, ne_eqb (number_at bytes 2) 3 no_row) at found in
      record {
        is = cc;
        some = row-some before (number_at bytes 2) ended.kind no_symbol;
        written = λ b last. record-bytes bytes b ended.there
            ∙ rw (end-kind, size, none_is (drop 4 bytes) last) (append-nil (file_record 9 []));
      }
