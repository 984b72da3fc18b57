-- The reader's loop: what stands at each record, and each way on.
use Prim.Native.Nat.{ℕ, ◌≤◌}
use mathlib.Core.Bool.{true, false, ◌&&◌}
use mathlib.Core.Path.{◌≡◌, refl, sym, ap, ◌∙◌}
use mathlib.Core.List.{List, []}
use native.Mathlib.Omega.{arith}
use lib.Dec.{eqb, leb}
use lib.ListN.{length, drop, replicate}
use borrow.Author.Tests.{eqb-true, leb-true}
use Rattle.automaton.specs.Held.{Held}
use Rattle.automaton.specs.Checks.{nothing, given, wrong, more, end, kind_allowed, symbol_values, row_values, values, record_found}
use Rattle.automaton.specs.Refusals.{refusal, no_refusal}
use Rattle.automaton.specs.Answers.{unused_row, no_automaton, read_answer}
use Rattle.automaton.specs.Inside.{rest_answer, code_of, RecordRead, HeadRead, Says}
use Rattle.automaton.specs.declared.Automaton.{Automaton}
use Rattle.automaton.specs.declared.reader.Kind.{Kind}
use Rattle.automaton.specs.declared.reader.Kind.TheVariants.{Head, Symbol, Row, End}
use Rattle.sets.specs.declared.StateSet.{StateSet}
use Rattle.ground.proofs.Places.{filled_none}
use Rattle.automaton.proofs.Finding.Verdicts.{answer-wrong, answer-more, answer-end, answer-past, answer-whole}
use Rattle.automaton.proofs.Finding.Frames.{none-length, length-symbol, length-row, length-end}
use Rattle.automaton.proofs.Finding.Growing.{placed_as, symbols-are}
use Rattle.ground.proofs.Truth.{and_parts}

-- what was read so far is held, the value says it, and the rest of the file decides
pub record ReadSoFar (file : List ℕ) (found : Automaton) (rest : List ℕ) : Type 0 where
  pub held : Held
  pub says : Says held found
  pub decides : read_answer file ≡ rest_answer (given held) rest

pub read-start : (file : List ℕ) (states : ℕ) (finals : StateSet) (rest : List ℕ) → HeadRead file states finals rest
    → ReadSoFar file (record { states = states; finals = finals; symbols = 0; arities = replicate 32 0; count = 0; rows = replicate 64 unused_row }) rest
read-start file states finals rest h =
    let first : Held = record { states = states; finals = finals.0; arities = []; rules = [] } in
    record {
      held = first;
      says = record { is = placed_as _ _ _ _ _ _ first refl refl refl (filled_none 32 0) refl (filled_none 64 unused_row); few_symbols = omega arith; few_rules = omega arith };
      decides = sym (answer-whole file) ∙ answer-more nothing file first h.found ∙ ap (rest_answer (given first)) (sym h.left);
    }

-- the first record is refused
pub first-refused : (file : List ℕ) (n : ℕ) → record_found nothing file ≡ wrong n → record { refusal = refusal n; automaton = no_automaton } ≡ read_answer file
first-refused file n e = sym (answer-wrong nothing file n e) ∙ answer-whole file

module _ (file : List ℕ) (found : Automaton) (rest : List ℕ) (s : ReadSoFar file found rest) where
  pub few-symbols : found.symbols ≤ 32
  few-symbols = rw (symbols-are s.held found s.says) s.says.few_symbols

  pub next-refused : (n : ℕ) → record_found (given s.held) rest ≡ wrong n → record { refusal = refusal n; automaton = no_automaton } ≡ read_answer file
  next-refused n e = sym (s.decides ∙ answer-wrong (given s.held) rest n e)

  module _ (kind : Kind) (payload left : List ℕ) (r : RecordRead (given s.held) rest kind payload left) where
    next-more : (value : Automaton) (held : Held) → values (given s.held) (code_of kind) payload ≡ more held → Says held value → ReadSoFar file value left
    next-more value held e says =
        record {
          held = held;
          says = says;
          decides = s.decides ∙ answer-more (given s.held) rest held (r.found ∙ e) ∙ ap (rest_answer (given held)) (rw r.size (sym r.left));
        }

    pub no-head : kind ≡ Head → ⊥
    unfolding kind_allowed
    no-head k = let e : false ≡ true = rw k at r.allowed in cc

    module _ (k : kind ≡ Symbol) where
      symbol-value : values (given s.held) (code_of kind) payload ≡ symbol_values s.held payload
      unfolding values
      symbol-value = rw k

      pub symbol-long : length payload ≡ 1
      symbol-long = eqb-true _ _ (length-symbol (length payload) ∙ (rw k at r.sized))

      pub symbol-refused : (n : ℕ) → symbol_values s.held payload ≡ wrong n → record { refusal = refusal n; automaton = no_automaton } ≡ read_answer file
      symbol-refused n e = next-refused n (r.found ∙ symbol-value ∙ e)

      pub symbol-next : (value : Automaton) → (next : Held) × (symbol_values s.held payload ≡ more next) × Says next value → ReadSoFar file value left
      symbol-next value added = next-more value added.0 (symbol-value ∙ added.1) added.2

    module _ (k : kind ≡ Row) where
      row-value : values (given s.held) (code_of kind) payload ≡ row_values s.held payload
      unfolding values
      row-value = rw k

      row-long : (leb 2 (length payload) && leb (length payload) 5) ≡ true
      row-long = length-row (length payload) ∙ (rw k at r.sized)

      pub row-two : 2 ≤ length payload
      row-two = leb-true _ _ (and_parts _ _ row-long).0

      pub row-five : length payload ≤ 5
      row-five = leb-true _ _ (and_parts _ _ row-long).1

      pub row-refused : (n : ℕ) → row_values s.held payload ≡ wrong n → record { refusal = refusal n; automaton = no_automaton } ≡ read_answer file
      row-refused n e = next-refused n (r.found ∙ row-value ∙ e)

      pub row-next : (value : Automaton) → (next : Held) × (row_values s.held payload ≡ more next) × Says next value → ReadSoFar file value left
      row-next value added = next-more value added.0 (row-value ∙ added.1) added.2

    module _ (k : kind ≡ End) where
      end-value : record_found (given s.held) rest ≡ end s.held
      unfolding values
      end-value = r.found ∙ rw k

      end-size : length payload ≡ 0
      end-size = eqb-true _ _ (length-end (length payload) ∙ (rw k at r.sized))

      end-left : left ≡ drop 4 rest
      end-left = rw end-size at r.left

      pub read-done : eqb (length left) 0 ≡ true → record { refusal = no_refusal; automaton = found } ≡ read_answer file
      read-done e = rw s.says.is (sym (s.decides ∙ answer-end (given s.held) rest s.held end-value (none-length (drop 4 rest) ∙ (rw end-left at e))))

      pub read-past : eqb (length left) 0 ≡ false → record { refusal = refusal 5; automaton = no_automaton } ≡ read_answer file
      read-past e = sym (s.decides ∙ answer-past (given s.held) rest s.held end-value (none-length (drop 4 rest) ∙ (rw end-left at e)))
