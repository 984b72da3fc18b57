-- Each promise is kept by some outcome, in numbers of the declared types.
use Prim.Native.Nat.{ℕ, ◌^◌, ◌<◌}
use native.Mathlib.Omega.{arith}
use mathlib.Core.Path.{◌≡◌, refl}
use mathlib.Core.List.{List}
use lib.ListN.{length}
use Rattle.sets.specs.Members.{has, empty_set, one_set, of_word, union, has_past, without, size, state_width}
use Rattle.sets.proofs.Membership.{empty-lt, one-lt, union-lt, without-lt}
use Rattle.buffers.specs.Decimal.{decimal}
use Rattle.buffers.specs.Writing.{all_zero}
use Rattle.automaton.specs.Checks.{Verdict, verdict, holds, fault}
use Rattle.automaton.specs.Answers.{reading_of, read_answer}
use Rattle.automaton.proofs.Files.Pair.{verdict-valid}
use Rattle.automaton.proofs.Files.Faults.{fault-number}
use Rattle.expressions.specs.Nodes.{child_count, places}
use Rattle.expressions.specs.Words.{node_in}
use Rattle.claims.specs.Types.{SetFits, ReadingFits}
use Rattle.claims.specs.Kept.{Kept, EachKept}
use Rattle.claims.proofs.Outcomes.TypedValues.{size_few, placed-fits, none-fits}
use Rattle.claims.proofs.Outcomes.TypedTables.{decimal-bytes, digits_long, count_word, node-in-fits}
use Rattle.claims.proofs.Outcomes.TypedConversions.{zero-stays}
use Rattle.claims.proofs.Outcomes.KeptTables.{puts-kept, write_kept, sound-kept, make-kept, measure-kept, list-kept}
use Rattle.claims.proofs.Outcomes.KeptRuns.{run-kept, productive-kept}
use Rattle.claims.proofs.Outcomes.KeptConversions.{partly-kept, wholly-kept}
use Rattle.claims.proofs.Meaning.Printings.{printed-kept}

-- a set that is a number of sixteen bits
set-kept : (n : ℕ) → n < 2 ^ state_width → Kept SetFits (λ r. r.0 ≡ n)
set-kept n h = (record { 0 = n }, refl, h)

read_kept : (file : List ℕ) → Kept ReadingFits (λ r. r ≡ read_answer file)
unfolding read_answer reading_of
read_kept file = (read_answer file, refl, go (verdict file) refl)
  where
    go : (v : Verdict) → verdict file ≡ v → ReadingFits (reading_of v)
    go (holds held) e = (omega arith, placed-fits held (verdict-valid file held e))
    go (fault number offset) e = (omega (arith, fault-number file number offset e), none-fits)

pub each_kept : EachKept
each_kept =
    record {
      set_empty = set-kept (empty_set state_width) (empty-lt state_width);
      set_one = λ state. set-kept (one_set state_width state) (one-lt state_width state);
      set_of_word = λ word. set-kept (of_word state_width word) (omega arith);
      set_union = λ self other. set-kept (union state_width self.0 other.0) (union-lt state_width self.0 other.0);
      set_has = λ self state. (has self.0 state, refl, tt);
      set_past = λ self count. (has_past self.0 count, refl, tt);
      set_without = λ self state. set-kept (without state_width self.0 state) (without-lt state_width self.0 state);
      set_count = λ self. (size state_width self.0, refl, omega (arith, size_few self.0));
      index = λ byte h. (byte, (refl, h), omega arith);
      wide = λ byte h. (byte, refl, omega arith);
      wide_16 = λ number h. (number, refl, omega arith);
      clear = λ before. (all_zero before, refl, zero-stays before);
      digits = λ n h. (length (decimal n), refl, digits_long n h);
      put_bytes = puts-kept;
      put_number = λ before at n long place. puts-kept before at (decimal n) long place (decimal-bytes n);
      read = read_kept;
      write = write_kept;
      run = run-kept;
      productive = productive-kept;
      child_count = λ shape f. (child_count shape.kind shape.label, refl, count_word shape f);
      places = λ shape f. (places shape, refl, (f.2, (f.3, (f.4, tt))));
      node_at = λ words i w. (node_in words i, refl, node-in-fits words w i);
      is_sound = sound-kept;
      make = make-kept;
      measure = measure-kept;
      list = list-kept;
      convert_partly = partly-kept;
      convert = wholly-kept;
      printed = printed-kept;
    }
