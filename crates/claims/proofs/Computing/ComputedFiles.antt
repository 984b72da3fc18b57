-- The small files, computed.
use Prim.Native.Nat.{ℕ, zero, suc, ◌≤◌}
use native.Mathlib.Omega.{arith}
use mathlib.Core.Path.{◌≡◌, refl, ◌∙◌, ap}
use mathlib.Core.List.{List, [], ◌∷◌, ◌++◌}
use lib.ListN.{length, replicate}
use Rattle.automaton.specs.declared.Row.{Row}
use Rattle.automaton.specs.declared.Extent.{Extent}
use Rattle.ground.specs.Lists.{All, filled, firsts}
use Rattle.automaton.specs.Held.{ValidRule, Valid}
use Rattle.automaton.specs.File.{two_bytes, file_record, head_record, symbol_record, row_record, end_record, each, file_of}
use Rattle.automaton.specs.Checks.{number_at, kind_allowed, length_allowed, head_values, symbol_values, all_below, row_values, values, record_found, verdict_from, verdict}
use Rattle.automaton.specs.Refusals.{refusal, no_refusal}
use Rattle.automaton.specs.Answers.{placed_row, unused_row, placed, reading_of, read_answer, rule_held, held_by}
use Rattle.writer.specs.Answers.{writing, Written}
use Rattle.automaton.proofs.Files.FileOf.{file-length}
use Rattle.claims.specs.DraftFiles.{file_p}
use Rattle.claims.specs.ComputedFiles.{opened, times, rule, held_p, loose_p, longest, FileCases}

p_file : file_of held_p ≡ file_p
unfolding file_of each head_record symbol_record row_record end_record file_record two_bytes file_p
p_file = refl

longest_747 : length (file_of longest) ≡ 747
unfolding file_of each head_record symbol_record row_record end_record file_record two_bytes longest
longest_747 = refl

all_replicate : {A : Type 0} (P : A → Type 0) (n : ℕ) (x : A) → P x → All P (replicate n x)
all_replicate P zero x p = tt
all_replicate P (suc n) x p = (p, all_replicate P n x p)

longest_valid : Valid longest
unfolding longest
longest_valid =
    record {
      some_state = omega arith;
      few_states = omega arith;
      finals_within = omega arith;
      some_symbol = omega arith;
      few_symbols = omega arith;
      small_arities = all_replicate (λ a. a ≤ 3) 32 3 (omega arith);
      few_rules = omega arith;
      valid_rules = all_replicate (ValidRule 1 (replicate 32 3)) 64 (rule 0 0 (0 ∷ 0 ∷ 0 ∷ [])) (omega arith);
    }

p_loose : (others : List ℕ) (rows : List Row) → held_by (loose_p others rows) ≡ held_p
unfolding held_by firsts filled rule_held loose_p
p_loose others rows = refl

P-valid : Valid held_p
P-valid = omega arith

module _ (others : List ℕ) (rows : List Row) (after : List ℕ) (w : Extent) where
  file : file_of (held_by (loose_p others rows)) ≡ file_p
  file = ap file_of (p_loose others rows) ∙ p_file

  valid : Valid (held_by (loose_p others rows))
  valid = rw (p_loose others rows) P-valid

  p_written : Written (loose_p others rows) (replicate 44 255) after w → (w ≡ writing no_refusal 43) × (after ≡ file_p ++ (255 ∷ []))
  unfolding file_p
  p_written x = rw file at (x.done valid (rw file (omega arith)))

  p_unwritten : Written (loose_p others rows) (replicate 42 255) after w → (w ≡ writing (refusal 6) 0) × (after ≡ replicate 42 255)
  unfolding file_p
  p_unwritten x = x.short valid (rw file (omega arith))

pub file-cases : FileCases
unfolding verdict verdict_from record_found values head_values symbol_values row_values all_below kind_allowed length_allowed number_at opened times file_p read_answer reading_of placed filled placed_row unused_row
file-cases =
    record {
      nothing_there = refl;
      three_bytes = refl;
      no_end = refl;
      symbol_first = refl;
      row_after_head = refl;
      end_after_head = refl;
      head_again = refl;
      symbol_after_row = refl;
      kind_unknown = refl;
      kind_257 = refl;
      kind_before_length = refl;
      head_long = refl;
      symbol_long = refl;
      row_of_1 = refl;
      row_of_6 = refl;
      end_of_1 = refl;
      head_of_259 = refl;
      length_before_payload = refl;
      head_cut = refl;
      row_cut = refl;
      no_states = refl;
      states_17 = refl;
      final_past = refl;
      final_8_of_8 = refl;
      states_16 = refl;
      arity_4 = refl;
      symbols_32 = refl;
      symbol_33 = refl;
      rows_64 = refl;
      row_65 = refl;
      row_65_unsuited = refl;
      row_65_of_6 = refl;
      row_65_cut = refl;
      symbol_unknown = refl;
      too_many_sources = refl;
      too_few_sources = refl;
      length_before_target = refl;
      target_past = refl;
      source_past = refl;
      byte_after = refl;
      no_rows = refl;
      equal_rows = refl;
      p_holds = refl;
      p_file = p_file;
      at_most_747 = file-length;
      longest_valid = longest_valid;
      longest_747 = longest_747;
      p_read = refl;
      p_loose = p_loose;
      p_written = p_written;
      p_unwritten = p_unwritten;
    }
