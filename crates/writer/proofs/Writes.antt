-- The writer's parts together: the bytes of a value's file.
use Prim.Native.Nat.{ℕ, ◌+◌, ◌-◌, ◌≤◌}
use mathlib.Core.Path.{◌≡◌, refl, ap, ◌∙◌}
use mathlib.Core.List.{List, [], ◌++◌, map, append_assoc}
use native.Mathlib.Omega.{arith}
use lib.ListN.{length, take, length-append}
use borrow.Rule.Slice.PartMut.{put_mid}
use Rattle.automaton.specs.Held.{Held, Valid}
use Rattle.automaton.specs.File.{head_record, symbol_record, row_record, end_record, each, file_of}
use Rattle.automaton.specs.Answers.{rule_held, held_by}
use Rattle.automaton.specs.declared.Automaton.{Automaton}
use Rattle.automaton.proofs.Files.FileOf.{head-length}
use Rattle.writer.specs.Inside.{Put, RowsThere}
use Rattle.writer.proofs.Fitting.{arities-counted, rules-counted, held-is}
use Rattle.writer.proofs.Putting.{lent_from, record-long, puts-room, puts-both}

-- ---- the bytes

module _ (value : Automaton) (valid : Valid (held_by value)) where
  pub few-symbols : value.symbols ≤ 32
  few-symbols = omega (arith, arities-counted value, valid.few_symbols)

  pub few-rules : value.count ≤ 64
  few-rules = omega (arith, rules-counted value, valid.few_rules)

  module _ (arities-long : length value.arities ≡ 32) (rows_long : length value.rows ≡ 64) (out : List ℕ) (room : length (file_of (held_by value)) ≤ length out) where
    is : held_by value
        ≡ record {
          states = value.states;
          finals = value.finals.0;
          arities = take value.symbols value.arities;
          rules = map (rule_held (take value.symbols value.arities)) (take value.count value.rows);
        }
    is = held-is value (omega (arith, few-symbols)) (omega (arith, few-rules))

    abbrev head : List ℕ
    head = head_record value.states value.finals.0

    abbrev symbols : List ℕ
    symbols = each symbol_record (take value.symbols value.arities)

    abbrev rows : List ℕ
    rows = each row_record (map (rule_held (take value.symbols value.arities)) (take value.count value.rows))

    whole : file_of (held_by value) ≡ ((head ++ symbols) ++ rows) ++ end_record
    unfolding file_of
    whole = ap (λ (h : Held). head_record h.states h.finals ++ (each symbol_record h.arities ++ (each row_record h.rules ++ end_record))) is ∙ simp append_assoc

    wide : length (((head ++ symbols) ++ rows) ++ end_record) ≤ length out
    wide = rw (← whole) room

    pub head-room : 7 ≤ length out
    head-room = omega (arith, head-length value.states value.finals.0, simp length-append at wide)

    module _ (first : List ℕ) (i : ℕ) (head-put : Put head out first i) where
      pub symbols-room : length symbols ≤ length (lent_from first i)
      symbols-room = puts-room head out first i head-put symbols (simp length-append (omega (arith, simp length-append at wide)))

      module _ (second : List ℕ) (j : ℕ) (symbols-put : Put symbols (lent_from first i) second j) where
        two : Put (head ++ symbols) out (put_mid i (length first - i) first second) (i + j)
        two = puts-both head out first i head-put symbols second j symbols-put

        pub rows-there : RowsThere (lent_from (put_mid i (length first - i) first second) (i + j)) (take value.symbols value.arities) (take value.count value.rows)
        rows-there =
            record {
              small = (rw is at valid).small_arities;
              valid = (value.states, (rw is at valid).valid_rules);
              room = puts-room (head ++ symbols) out _ (i + j) two rows (simp length-append (omega (arith, simp length-append at wide)));
            }

        module _ (third : List ℕ) (k : ℕ) (rows-put : Put rows (lent_from (put_mid i (length first - i) first second) (i + j)) third k) where
          abbrev three_put : List ℕ
          three_put = put_mid (i + j) (length (put_mid i (length first - i) first second) - (i + j)) (put_mid i (length first - i) first second) third

          three : Put ((head ++ symbols) ++ rows) out three_put (i + j + k)
          three = puts-both (head ++ symbols) out _ (i + j) two rows third k rows-put

          pub end-room : 4 ≤ length (lent_from three_put (i + j + k))
          unfolding end_record
          end-room = rw (record-long 9 []) at (puts-room ((head ++ symbols) ++ rows) out _ (i + j + k) three end_record wide)

          pub file-put : (fourth : List ℕ) (n : ℕ) → Put end_record (lent_from three_put (i + j + k)) fourth n
              → Put (file_of (held_by value)) out (put_mid (i + j + k) (length three_put - (i + j + k)) three_put fourth) (length (file_of (held_by value)))
          file-put fourth n end-put =
              let all = puts-both ((head ++ symbols) ++ rows) out _ (i + j + k) three end_record fourth n end-put in
              record { stored = rw whole all.stored; counted = refl }
