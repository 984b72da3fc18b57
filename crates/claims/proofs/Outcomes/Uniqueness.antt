-- Each promise has one outcome: the laws of the crates below, in one claim.
use Prim.Native.Nat.{ℕ, ◌+◌, ◌≤◌}
use native.Mathlib.Omega.{arith}
use native.Mathlib.Decide.{dec_le}
use mathlib.Core.Path.{◌≡◌, sym, ◌∙◌}
use mathlib.Core.List.{List}
use lib.ListN.{length}
use Rattle.buffers.specs.Decimal.{decimal}
use Rattle.buffers.specs.Writing.{Puts}
use Rattle.sets.specs.declared.StateSet.{StateSet}
use Rattle.automaton.proofs.Values.{read-once}
use Rattle.writer.proofs.Laws.{written_once}
use Rattle.trees.proofs.Answers.{run-unique, productive-unique}
use Rattle.expressions.proofs.Once.{sound-once, make-once, measure-once}
use Rattle.listing.proofs.Once.{list-once}
use Rattle.elimination.proofs.Outcomes.{partly-once, wholly-once}
use Rattle.front.proofs.Outcomes.{prints-once}
use Rattle.claims.specs.Uniqueness.{Once, OnceBoth, EachOnce}

-- two sets that are one number are one set
set-once : (n : ℕ) → Once {A = StateSet} (λ r. r.0 ≡ n)
set-once n r s p q = let e : r.0 ≡ s.0 = p ∙ sym q in λ i. record { 0 = e i }

value-once : {A : Type 0} (a : A) → Once {A = A} (λ r. r ≡ a)
value-once a r s p q = p ∙ sym q

puts-once : (before : List ℕ) (at : ℕ) (bytes : List ℕ) → OnceBoth (Puts before at bytes)
puts-once before at bytes after other r s x y = go (dec_le (at + length bytes) (length before))
  where
    go : Dec (at + length bytes ≤ length before) → (r ≡ s) × (after ≡ other)
    go (yes h) =
        let a = x.fits h in
        let b = y.fits h in
        (a.next_place ∙ sym b.next_place, a.bytes_there ∙ sym b.bytes_there)
    go (no n) =
        let a = x.short (omega arith) in
        let b = y.short (omega arith) in
        (a.1 ∙ sym b.1, a.0 ∙ sym b.0)

pub each_once : EachOnce
each_once =
    record {
      set_empty = set-once _;
      set_one = λ state. set-once _;
      set_of_word = λ word. set-once _;
      set_union = λ self other. set-once _;
      set_has = λ self state. value-once _;
      set_past = λ self count. value-once _;
      set_without = λ self state. set-once _;
      set_count = λ self. value-once _;
      index = λ byte r s p q. p.0 ∙ sym q.0;
      wide = λ number. value-once _;
      clear = λ before. value-once _;
      digits = λ n. value-once _;
      put_bytes = puts-once;
      put_number = λ before at n. puts-once before at (decimal n);
      read = read-once;
      write = λ value before after other r s. written_once value before after other r s;
      run = run-unique;
      productive = productive-unique;
      child_count = λ shape. value-once _;
      places = λ shape. value-once _;
      node_at = λ words i. value-once _;
      is_sound = sound-once;
      make = make-once;
      measure = measure-once;
      list = list-once;
      convert_partly = partly-once;
      convert = wholly-once;
      printed = prints-once;
    }
