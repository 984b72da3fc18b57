-- The laws of the pair, over the definitions: a byte string reads as an automaton exactly when it is that automaton's file and the automaton is valid; no valid file is longer than 747 bytes.
use Prim.Native.Nat.{ℕ, zero, suc, ◌+◌, ◌^◌, ◌≤◌, ◌<◌}
use mathlib.Core.Bool.{Bool, true, false}
use mathlib.Core.Path.{◌≡◌, refl, sym, ap, subst, ◌∙◌}
use mathlib.Core.List.{List, [], ◌∷◌, ◌++◌, append_assoc, append-nil}
use native.Mathlib.Decide.{ℕ_discrete}
use native.Mathlib.Omega.{arith}
use lib.ListN.{length, drop, length-append}
use Rattle.automaton.specs.Held.{Rule, Held, ValidRule, Valid}
use Rattle.ground.specs.Lists.{All}
use Rattle.automaton.specs.File.{head_record, symbol_record, row_record, end_record, each, file_of}
use Rattle.automaton.specs.Checks.{Verdict, holds, nothing, given, Found, wrong, more, end, number_at, is_none, record_found, follow, verdict_from, verdict}
use Rattle.automaton.proofs.Files.Records.{Bytes, bytes_drop}
use Rattle.automaton.proofs.Files.Inverse.{nothing-not-end, head-good, SymbolGood, symbol-good, RowGood, row-good, other_none, EndGood, end-good}

-- ---- from bytes that read to a valid automaton and its file

-- what is held so far keeps the limits
record Fair (held : Held) : Type 0 where
  some_state : 1 ≤ held.states
  few_states : held.states ≤ 16
  finals_within : held.finals < 2 ^ held.states
  few_symbols : length held.arities ≤ 32
  small_arities : All (λ a. a ≤ 3) held.arities
  few_rules : length held.rules ≤ 64
  valid_rules : All (ValidRule held.states held.arities) held.rules

-- the automaton that the rest of the bytes leads to: more symbols, where there is no row yet, and more rows
record Rest (before after : Held) (bytes : List ℕ) : Type 0 where
  arities : List ℕ
  rules : List Rule
  settled : (before.rules ≡ [] → ⊥) → arities ≡ []
  is : after ≡ record { states = before.states; finals = before.finals; arities = before.arities ++ arities; rules = before.rules ++ rules }
  written : Bytes bytes → bytes ≡ each symbol_record arities ++ (each row_record rules ++ end_record)

all_snoc : {A : Type 0} (P : A → Type 0) (xs : List A) (x : A) → All P xs → P x → All P (xs ++ (x ∷ []))
all_snoc P [] x a p = (p, tt)
all_snoc P (y ∷ xs) x a p = (a.0, all_snoc P xs x a.1 p)

snoc-some : {A : Type 0} (xs : List A) (x : A) → xs ++ (x ∷ []) ≡ [] → ⊥
snoc-some xs x e = let n : length (xs ++ (x ∷ [])) ≡ 0 = ap length e in omega (arith, simp length-append at n)

symbol-fair : (before after : Held) (bytes : List ℕ) → Fair before → SymbolGood before after bytes → Fair after
symbol-fair before after bytes f g =
    subst Fair (sym g.is)
    (record {
      some_state = f.some_state;
      few_states = f.few_states;
      finals_within = f.finals_within;
      few_symbols = simp length-append (omega (arith, g.few));
      small_arities = all_snoc (λ a. a ≤ 3) before.arities g.arity f.small_arities g.small;
      few_rules = f.few_rules;
      valid_rules = subst (λ (rules : List Rule). All (ValidRule before.states (before.arities ++ (g.arity ∷ []))) rules) (sym g.first) tt;
    })

row-fair : (before after : Held) (bytes : List ℕ) → Fair before → RowGood before after bytes → Fair after
row-fair before after bytes f g =
    subst Fair (sym g.is)
    (record {
      some_state = f.some_state;
      few_states = f.few_states;
      finals_within = f.finals_within;
      few_symbols = f.few_symbols;
      small_arities = f.small_arities;
      few_rules = simp length-append (omega (arith, g.few));
      valid_rules = all_snoc (ValidRule before.states before.arities) before.rules g.rule f.valid_rules g.valid;
    })

-- what is held with more of each
abbrev and_more : Held → List ℕ → List Rule → Held
and_more held arities rules = record { states = held.states; finals = held.finals; arities = held.arities ++ arities; rules = held.rules ++ rules }

symbol-rest : (before after last : Held) (bytes : List ℕ) → SymbolGood before after bytes → Rest after last (drop (4 + number_at bytes 0) bytes) → Rest before last bytes
unfolding each
symbol-rest before after last bytes g r =
    record {
      arities = g.arity ∷ r.arities;
      rules = r.rules;
      settled = λ n. absurd (n g.first);
      is = r.is ∙ ap (λ (h : Held). and_more h r.arities r.rules) g.is
          ∙ ap (λ (l : List ℕ). record { states = before.states; finals = before.finals; arities = l; rules = before.rules ++ r.rules }) (append_assoc before.arities (g.arity ∷ []) r.arities);
      written = λ b. g.written b ∙ ap (λ (l : List ℕ). symbol_record g.arity ++ l) (r.written (bytes_drop (4 + number_at bytes 0) bytes b))
          ∙ sym (append_assoc (symbol_record g.arity) (each symbol_record r.arities) (each row_record r.rules ++ end_record));
    }

row-rest : (before after last : Held) (bytes : List ℕ) → RowGood before after bytes → Rest after last (drop (4 + number_at bytes 0) bytes) → Rest before last bytes
unfolding each
row-rest before after last bytes g r =
    let none : r.arities ≡ [] = r.settled (λ e. snoc-some before.rules g.rule (sym (ap (λ (h : Held). h.rules) g.is) ∙ e)) in
    record {
      arities = [];
      rules = g.rule ∷ r.rules;
      settled = λ n. refl;
      is = r.is ∙ ap (λ (h : Held). and_more h r.arities r.rules) g.is
          ∙ ap (λ (l : List ℕ). record { states = before.states; finals = before.finals; arities = before.arities ++ l; rules = (before.rules ++ (g.rule ∷ [])) ++ r.rules }) none
          ∙ ap (λ (l : List Rule). record { states = before.states; finals = before.finals; arities = before.arities ++ []; rules = l }) (append_assoc before.rules (g.rule ∷ []) r.rules);
      written = λ b. g.written b ∙ ap (λ (l : List ℕ). row_record g.rule ++ l) (r.written (bytes_drop (4 + number_at bytes 0) bytes b))
          ∙ ap (λ (l : List ℕ). row_record g.rule ++ (each symbol_record l ++ (each row_record r.rules ++ end_record))) none
          ∙ sym (append_assoc (row_record g.rule) (each row_record r.rules) end_record);
    }

record Led (before last : Held) (bytes : List ℕ) : Type 0 where
  fair : Fair last
  some : 1 ≤ length last.arities
  rest : Rest before last bytes

end-led : (before after last : Held) (bytes : List ℕ) (offset : ℕ) (on : Held → Verdict) (whole : Bool) → is_none (drop 4 bytes) ≡ whole
    → Fair before → EndGood before after bytes → follow (end after) offset on whole ≡ holds last → Led before last bytes
unfolding each
end-led before after last bytes offset on true w f g e =
    let same : last ≡ before = (let s : after ≡ last = cc in sym s ∙ g.is) in
    record {
      fair = rw same f;
      some = rw same g.some;
      rest = record {
        arities = [];
        rules = [];
        settled = λ _. refl;
        is = same ∙ (λ i. record { states = before.states; finals = before.finals; arities = sym (append-nil before.arities) i; rules = sym (append-nil before.rules) i });
        written = λ b. g.written b w;
      };
    }
end-led before after last bytes offset on false w f g e = let z : ◌≡◌ {A = ℕ} 0 1 = cc in absurd (omega arith)

led-from : (turns offset : ℕ) (before last : Held) (bytes : List ℕ) → Fair before → verdict_from turns offset (given before) bytes ≡ holds last → Led before last bytes
unfolding verdict_from
led-from zero offset before last bytes f e = let z : ◌≡◌ {A = ℕ} 0 1 = cc in absurd (omega arith)
led-from (suc turns) offset before last bytes f e =
    go (record_found (given before) bytes) refl e
    (λ held g. led-from turns (offset + (4 + number_at bytes 0)) held last (drop (4 + number_at bytes 0) bytes) g)
  where
    on : Held → Verdict
    on held = verdict_from turns (offset + (4 + number_at bytes 0)) (given held) (drop (4 + number_at bytes 0) bytes)

    by_kind : (held : Held) → record_found (given before) bytes ≡ more held → Dec (number_at bytes 2 ≡ 2) → Dec (number_at bytes 2 ≡ 3)
        → on held ≡ holds last → (Fair held → on held ≡ holds last → Led held last (drop (4 + number_at bytes 0) bytes)) → Led before last bytes
    by_kind held m (yes k) d v ih =
        let g = symbol-good before held bytes m k in
        let l = ih (symbol-fair before held bytes f g) v in
        record { fair = l.fair; some = l.some; rest = symbol-rest before held last bytes g l.rest }
    by_kind held m (no n) (yes k) v ih =
        let g = row-good before held bytes m n k in
        let l = ih (row-fair before held bytes f g) v in
        record { fair = l.fair; some = l.some; rest = row-rest before held last bytes g l.rest }
    by_kind held m (no n) (no o) v ih = absurd (other_none before held bytes m n o)

    go : (found : Found) → record_found (given before) bytes ≡ found → follow found offset on (is_none (drop 4 bytes)) ≡ holds last
        → ((held : Held) → Fair held → on held ≡ holds last → Led held last (drop (4 + number_at bytes 0) bytes)) → Led before last bytes
    go (wrong n) m v ih = let z : ◌≡◌ {A = ℕ} 0 1 = cc in absurd (omega arith)
    go (more held) m v ih = by_kind held m (ℕ_discrete (number_at bytes 2) 2) (ℕ_discrete (number_at bytes 2) 3) v (ih held)
    go (end held) m v ih = end-led before held last bytes offset on (is_none (drop 4 bytes)) refl f (end-good before held bytes m) v

record Read (held : Held) (bytes : List ℕ) : Type 0 where
  valid : Valid held
  written : Bytes bytes → bytes ≡ file_of held

fair-valid : (held : Held) → Fair held → 1 ≤ length held.arities → Valid held
fair-valid held f s =
    record {
      some_state = f.some_state;
      few_states = f.few_states;
      finals_within = f.finals_within;
      some_symbol = s;
      few_symbols = f.few_symbols;
      small_arities = f.small_arities;
      few_rules = f.few_rules;
      valid_rules = f.valid_rules;
    }

read-from : (turns : ℕ) (bytes : List ℕ) (held : Held) → verdict_from turns 0 nothing bytes ≡ holds held → Read held bytes
unfolding verdict_from file_of
read-from zero bytes held e = let z : ◌≡◌ {A = ℕ} 0 1 = cc in absurd (omega arith)
read-from (suc turns) bytes held e = go (record_found nothing bytes) refl e
  where
    on : Held → Verdict
    on first = verdict_from turns (0 + (4 + number_at bytes 0)) (given first) (drop (4 + number_at bytes 0) bytes)

    go : (found : Found) → record_found nothing bytes ≡ found → follow found 0 on (is_none (drop 4 bytes)) ≡ holds held → Read held bytes
    go (wrong n) m v = let z : ◌≡◌ {A = ℕ} 0 1 = cc in absurd (omega arith)
    go (end first) m v = absurd (nothing-not-end bytes first m)
    go (more first) m v =
        let g = head-good bytes first m in
        let start : Held = record { states = g.states; finals = g.finals; arities = []; rules = [] } in
        let fair : Fair start = record { some_state = g.some_state; few_states = g.few_states; finals_within = g.finals_within; few_symbols = omega arith; small_arities = tt; few_rules = omega arith; valid_rules = tt } in
        let l = led-from turns (0 + (4 + number_at bytes 0)) start held (drop (4 + number_at bytes 0) bytes) fair (rw g.is at v) in
        record {
          valid = fair-valid held l.fair l.some;
          written = λ b. g.written b ∙ ap (λ (l : List ℕ). head_record g.states g.finals ++ l) (l.rest.written (bytes_drop (4 + number_at bytes 0) bytes b))
              ∙ ap (λ (h : Held). head_record h.states h.finals ++ (each symbol_record h.arities ++ (each row_record h.rules ++ end_record))) (sym l.rest.is);
        }

-- a file that reads holds a valid automaton
pub verdict-valid : (bytes : List ℕ) (held : Held) → verdict bytes ≡ holds held → Valid held
unfolding verdict
verdict-valid bytes held e = (read-from (suc (length bytes)) bytes held e).valid

-- and is that automaton's file
pub verdict-file : (bytes : List ℕ) (held : Held) → Bytes bytes → verdict bytes ≡ holds held → bytes ≡ file_of held
unfolding verdict
verdict-file bytes held b e = (read-from (suc (length bytes)) bytes held e).written b
