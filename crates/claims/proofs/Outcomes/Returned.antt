-- Each outcome that a promise allows is what some result stands for: where it refuses, the number is one of a list, each the number of a reason, and all else is 0; where it is done, its numbers are a value's.
use Prim.Native.Nat.{ℕ, zero, suc, ◌≤◌}
use native.Mathlib.Omega.{arith}
use mathlib.Core.Path.{◌≡◌, refl, sym, ◌∙◌}
use mathlib.Core.List.{List, [], ◌∷◌}
use Rattle.std.specs.Prelude.{Result, Ok, Err}
use Rattle.ground.specs.Lists.{All}
use Rattle.ground.proofs.Lists.{of-all}
use Rattle.automaton.specs.declared.Refused.{Refused}
use Rattle.automaton.specs.Refusals.{number_of}
use Rattle.trees.specs.Promises.{no_run, no_states}
use Rattle.elimination.specs.Answers.{refused_partly, refused_whole}
use Rattle.claims.specs.Refusals.{Refuses, file_numbers}
use Rattle.claims.specs.Kept.{EachReturned}
use Rattle.claims.proofs.Refusing.Refusals.{refuses_exactly}
use Rattle.claims.proofs.Outcomes.Told.{reason_at}

-- each of these numbers is a reason's
number-back : (n : ℕ) → 1 ≤ n → n ≤ 9 → number_of (reason_at n) ≡ n
unfolding reason_at
number-back zero h k = absurd (omega arith)
number-back (suc zero) h k = refl
number-back (suc (suc zero)) h k = refl
number-back (suc (suc (suc zero))) h k = refl
number-back (suc (suc (suc (suc zero)))) h k = refl
number-back (suc (suc (suc (suc (suc zero))))) h k = refl
number-back (suc (suc (suc (suc (suc (suc zero)))))) h k = refl
number-back (suc (suc (suc (suc (suc (suc (suc zero))))))) h k = refl
number-back (suc (suc (suc (suc (suc (suc (suc (suc zero)))))))) h k = refl
number-back (suc (suc (suc (suc (suc (suc (suc (suc (suc zero))))))))) h k = refl
number-back (suc (suc (suc (suc (suc (suc (suc (suc (suc (suc n)))))))))) h k = absurd (omega arith)

-- a value's numbers where it is done, and a reason's where it refuses with one of the list
result-of : {T S : Type 0} {of : Result T Refused → S} (r : S) (numbers : List ℕ) → All (λ n. n ≤ 9) numbers
    → {Due : ℕ → Type 0} {number : ℕ} {Left : Type 0} → Refuses numbers Due number Left
    → (number ≡ 0 → (value : T) × (r ≡ of (Ok value))) → ((reason : Refused) → number ≡ number_of reason → Left → r ≡ of (Err reason)) → (x : Result T Refused) × (r ≡ of x)
result-of {T} {S} {of} r numbers few {Due} {number} c done refused = go number refl
  where
    go : (n : ℕ) → number ≡ n → (x : Result T Refused) × (r ≡ of x)
    go zero e = let d = done e in (Ok d.0, d.1)
    go (suc n) e =
        let h = of-all (λ m. m ≤ 9) numbers few (c.among (suc n) ((c.exactly (suc n) (omega arith)).0 e)) in
        (Err (reason_at (suc n)), refused (reason_at (suc n)) (e ∙ sym (number-back (suc n) (omega arith) h)) (c.left (λ z. omega arith)))

pub each_returned : EachReturned
unfolding no_run no_states refused_partly refused_whole
each_returned =
    record {
      read = λ file r p. result-of r file_numbers (omega arith) (refuses_exactly.read file r p)
          (λ z. (r.automaton, λ i. record { refusal = record { number = z i }; automaton = r.automaton }))
          (λ reason e l i. record { refusal = record { number = e i }; automaton = l i });
      write = λ value before after r p. result-of r (4 ∷ 6 ∷ []) (omega arith) (refuses_exactly.write value before after r p)
          (λ z. (r.length, λ i. record { refusal = record { number = z i }; length = r.length }))
          (λ reason e l i. record { refusal = record { number = e i }; length = l.0 i });
      run = λ file words r p. result-of r (7 ∷ file_numbers) (omega arith) (refuses_exactly.run file words r p)
          (λ z. (record { states = r.states; yes = r.yes }, λ i. record { refusal = record { number = z i }; states = r.states; yes = r.yes }))
          (λ reason e l i. record { refusal = record { number = e i }; states = record { 0 = l.0 i }; yes = l.1 i });
      productive = λ file r p. result-of r file_numbers (omega arith) (refuses_exactly.productive file r p)
          (λ z. (r.states, λ i. record { refusal = record { number = z i }; states = r.states }))
          (λ reason e l i. record { refusal = record { number = e i }; states = record { 0 = l i } });
      make = λ before count shape after r p. result-of r (8 ∷ 6 ∷ []) (omega arith) (refuses_exactly.make before count shape after r p)
          (λ z. (tt, λ i. record { number = z i }))
          (λ reason e l i. record { number = e i });
      measure = λ words count answer before after r p. result-of r (8 ∷ 6 ∷ []) (omega arith) (refuses_exactly.measure words count answer before after r p)
          (λ z. (r.size, λ i. record { refusal = record { number = z i }; size = r.size }))
          (λ reason e l i. record { refusal = record { number = e i }; size = l.0 i });
      list = λ words count answer before after r p. result-of r (8 ∷ 6 ∷ []) (omega arith) (refuses_exactly.list words count answer before after r p)
          (λ z. (r.length, λ i. record { refusal = record { number = z i }; length = r.length }))
          (λ reason e l i. record { refusal = record { number = e i }; length = l.0 i });
      convert_partly = λ file k before after r p. result-of r (9 ∷ 6 ∷ file_numbers) (omega arith) (refuses_exactly.convert_partly file k before after r p)
          (λ z. (record { nodes = r.nodes; rows = r.rows; list = r.list }, λ i. record { refusal = record { number = z i }; nodes = r.nodes; rows = r.rows; list = r.list }))
          (λ reason e l i. record { refusal = record { number = e i }; nodes = l.0 i; rows = l.1 i; list = l.2 i });
      convert = λ file before after r p. result-of r (6 ∷ file_numbers) (omega arith) (refuses_exactly.convert file before after r p)
          (λ z. (record { nodes = r.nodes; answer = r.answer }, λ i. record { refusal = record { number = z i }; nodes = r.nodes; answer = r.answer }))
          (λ reason e l i. record { refusal = record { number = e i }; nodes = l.0 i; answer = l.1 i });
      printed = λ file nodes after out bytes r p. result-of r (6 ∷ []) (omega arith) (refuses_exactly.printed file nodes after out bytes r p)
          (λ z. (r.length, λ i. record { refusal = record { number = z i }; length = r.length }))
          (λ reason e l i. record { refusal = record { number = e i }; length = l.0 i });
    }
