-- A result is known by the numbers that it stands for.
use Rattle.std.proofs.Common.{◌≡◌, ℕ, cond, eqb, refl, sym, ap, ◌∙◌}
use Rattle.std.specs.Prelude.{Result, Ok, Err}
use Rattle.sets.specs.declared.StateSet.{StateSet}
use Rattle.automaton.specs.declared.Refused.{Refused}
use Rattle.automaton.specs.declared.Refused.TheVariants.{BreaksOff, Kind, Length, Limit, PastEnd, Short, NoTree, Unsound, TooFar}
use Rattle.automaton.specs.declared.Refusal.{Refusal}
use Rattle.automaton.specs.Refusals.{number_of, refusal_of, extent_of}
use Rattle.automaton.proofs.Refusing.{number-some}
use Rattle.automaton.specs.declared.Automaton.{Automaton}
use Rattle.automaton.specs.Answers.{read_of}
use Rattle.trees.specs.declared.ReachedStates.{ReachedStates}
use Rattle.trees.specs.declared.ProductiveStates.{ProductiveStates}
use Rattle.trees.specs.declared.Reached.{Reached}
use Rattle.trees.specs.Promises.{no_run, no_states, run_of, states_of}
use Rattle.automaton.specs.declared.Extent.{Extent}
use Rattle.automaton.specs.declared.Reading.{Reading}
use Rattle.expressions.specs.declared.Measured.{Measured}
use Rattle.expressions.specs.Answers.{measured_of}
use Rattle.elimination.specs.declared.Stopped.{Stopped}
use Rattle.elimination.specs.declared.Converted.{Converted}
use Rattle.elimination.specs.declared.Partly.{Partly}
use Rattle.elimination.specs.declared.Wholly.{Wholly}
use Rattle.elimination.specs.Answers.{refused_partly, refused_whole, partly_answer, wholly_answer}
use Rattle.claims.specs.Uniqueness.{EachTold}

-- the reason of a number
unfoldable pub reason_at : ℕ → Refused
reason_at n =
    cond (eqb n 1) BreaksOff
    (cond (eqb n 2) Kind
    (cond (eqb n 3) Length
    (cond (eqb n 4) Limit
    (cond (eqb n 5) PastEnd
    (cond (eqb n 6) Short
    (cond (eqb n 7) NoTree
    (cond (eqb n 8) Unsound TooFar)))))))

reason-there : (reason : Refused) → reason_at (number_of reason) ≡ reason
unfolding reason_at
reason-there BreaksOff = refl
reason-there Kind = refl
reason-there Length = refl
reason-there Limit = refl
reason-there PastEnd = refl
reason-there Short = refl
reason-there NoTree = refl
reason-there Unsound = refl
reason-there TooFar = refl

number-once : (a b : Refused) → number_of a ≡ number_of b → a ≡ b
number-once a b e = sym (reason-there a) ∙ ap reason_at e ∙ reason-there b

-- two results whose refusals are one, and whose values are one where both have some
told : {T : Type 0} (r s : Result T Refused) → refusal_of r ≡ refusal_of s → ((a b : T) → r ≡ Ok a → s ≡ Ok b → a ≡ b) → r ≡ s
told (Ok a) (Ok b) e f = ap Ok (f a b refl refl)
told (Ok a) (Err q) e f = absurd (number-some q (sym (ap (λ (x : Refusal). x.number) e)))
told (Err p) (Ok b) e f = absurd (number-some p (ap (λ (x : Refusal). x.number) e))
told (Err p) (Err q) e f = ap Err (number-once p q (ap (λ (x : Refusal). x.number) e))

-- so it is of any numbers that have a result's refusal, and its value where there is one
told-by : {T S : Type 0} (of : Result T Refused → S) (given : S → Refusal) (value : S → T)
    → ((r : Result T Refused) → given (of r) ≡ refusal_of r) → ((a : T) → value (of (Ok a)) ≡ a) → (r s : Result T Refused) → of r ≡ of s → r ≡ s
told-by of given value same there r s e =
    told r s (sym (same r) ∙ ap given e ∙ same s) (λ a b p q. sym (there a) ∙ ap value (ap of (sym p) ∙ e ∙ ap of q) ∙ there b)

extent-given : (r : Result ℕ Refused) → (extent_of r).refusal ≡ refusal_of r
extent-given (Ok a) = refl
extent-given (Err reason) = refl

reading-given : (r : Result Automaton Refused) → (read_of r).refusal ≡ refusal_of r
reading-given (Ok a) = refl
reading-given (Err reason) = refl

run-given : (r : Result Reached Refused) → (run_of r).refusal ≡ refusal_of r
unfolding no_run
run-given (Ok a) = refl
run-given (Err reason) = refl

states-given : (r : Result StateSet Refused) → (states_of r).refusal ≡ refusal_of r
unfolding no_states
states-given (Ok a) = refl
states-given (Err reason) = refl

measured-given : (r : Result ℕ Refused) → (measured_of r).refusal ≡ refusal_of r
measured-given (Ok a) = refl
measured-given (Err reason) = refl

partly-given : (r : Result Stopped Refused) → (partly_answer r).refusal ≡ refusal_of r
unfolding refused_partly
partly-given (Ok a) = refl
partly-given (Err reason) = refl

wholly-given : (r : Result Converted Refused) → (wholly_answer r).refusal ≡ refusal_of r
unfolding refused_whole
wholly-given (Ok a) = refl
wholly-given (Err reason) = refl

pub each_told : EachTold
each_told =
    record {
      reasons = number-once;
      refusals = λ r s e. told r s e (λ a b p q. refl);
      extents = told-by extent_of (λ (x : Extent). x.refusal) (λ (x : Extent). x.length) extent-given (λ a. refl);
      readings = told-by read_of (λ (x : Reading). x.refusal) (λ (x : Reading). x.automaton) reading-given (λ a. refl);
      runs = told-by run_of (λ (x : ReachedStates). x.refusal) (λ (x : ReachedStates). record { states = x.states; yes = x.yes }) run-given (λ a. refl);
      states = told-by states_of (λ (x : ProductiveStates). x.refusal) (λ (x : ProductiveStates). x.states) states-given (λ a. refl);
      measures = told-by measured_of (λ (x : Measured). x.refusal) (λ (x : Measured). x.size) measured-given (λ a. refl);
      stops = told-by partly_answer (λ (x : Partly). x.refusal) (λ (x : Partly). record { nodes = x.nodes; rows = x.rows; list = x.list }) partly-given (λ a. refl);
      conversions = told-by wholly_answer (λ (x : Wholly). x.refusal) (λ (x : Wholly). record { nodes = x.nodes; answer = x.answer }) wholly-given (λ a. refl);
    }
