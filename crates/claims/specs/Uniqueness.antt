-- That no second outcome keeps a promise [12.3]. For each public function, over the very promise that its contract cites: two outcomes on one input are the same, in every number that what is returned stands for and in every word and byte of what was lent.
use Rattle.std.specs.Prelude.{ℕ, ◌≡◌, List, Result}
use Rattle.sets.specs.declared.StateSet.{StateSet}
use Rattle.sets.specs.Promises.{IsEmpty, IsOne, IsOfWord, IsUnion, SaysMember, SaysPast, IsWithout, IsCount}
use Rattle.buffers.specs.Decimal.{decimal}
use Rattle.buffers.specs.Writing.{Puts}
use Rattle.ground.specs.Promises.{IsIndex, IsWidened}
use Rattle.buffers.specs.Promises.{CountsDigits, Clears}
use Rattle.automaton.specs.declared.Automaton.{Automaton}
use Rattle.automaton.specs.declared.Refused.{Refused}
use Rattle.automaton.specs.Refusals.{number_of, refusal_of, extent_of}
use Rattle.automaton.specs.Answers.{read_answer, read_of}
use Rattle.writer.specs.Answers.{Written}
use Rattle.trees.specs.declared.Reached.{Reached}
use Rattle.trees.specs.Promises.{RunPromise, ProductivePromise, run_of, states_of}
use Rattle.expressions.specs.declared.Shape.{Shape}
use Rattle.expressions.specs.Nodes.{child_count, places}
use Rattle.expressions.specs.Words.{node_in}
use Rattle.expressions.specs.Making.{Makes}
use Rattle.expressions.specs.Answers.{SoundAnswer, Measures, measured_of}
use Rattle.listing.specs.Answers.{Lists}
use Rattle.elimination.specs.declared.Stopped.{Stopped}
use Rattle.elimination.specs.declared.Converted.{Converted}
use Rattle.elimination.specs.Answers.{PartlyAnswered, WhollyAnswered, partly_answer, wholly_answer}
use Rattle.front.specs.Answers.{Prints}

-- a promise on what is returned has one outcome
abbrev pub Once : {A : Type 0} → (A → Type 0) → Type 0
Once {A} Promise = (r s : A) → Promise r → Promise s → r ≡ s

-- a promise on a lent buffer and what is returned has one outcome, in both
abbrev pub OnceBoth : {A : Type 0} → (List ℕ → A → Type 0) → Type 0
OnceBoth {A} Promise = (after other : List ℕ) (r s : A) → Promise after r → Promise other s → (r ≡ s) × (after ≡ other)

-- a promise on two lent buffers and what is returned has one outcome, in all three
abbrev pub OnceAll : {A : Type 0} → (List ℕ → List ℕ → A → Type 0) → Type 0
OnceAll {A} Promise = (after other bytes others : List ℕ) (r s : A) → Promise after bytes r → Promise other others s → (r ≡ s) × ((after ≡ other) × (bytes ≡ others))

-- The doors (`crates/doors`, `crates/bridges`, `crates/hatches`) tie each function's contract to the promise named here, but for the functions that only widen a number and `Shape::places`: a door's contract cites the promise, and is proved from the contract of the function behind it, so that a weakened `ensures` would break the door.
pub record EachOnce : Type 0 where
  -- sets: `empty`, `one`, `of_word`, `union`, `has`, `past`, `without`, `count`
  pub set_empty : Once IsEmpty
  pub set_one : (state : ℕ) → Once (IsOne state)
  pub set_of_word : (word : ℕ) → Once (IsOfWord word)
  pub set_union : (self other : StateSet) → Once (IsUnion self other)
  pub set_has : (self : StateSet) (state : ℕ) → Once (SaysMember self state)
  pub set_past : (self : StateSet) (count : ℕ) → Once (SaysPast self count)
  pub set_without : (self : StateSet) (state : ℕ) → Once (IsWithout self state)
  pub set_count : (self : StateSet) → Once (IsCount self)
  -- helpers: `index`; `Wide::wide`; `zero`, `digits`, `put_bytes`, `put_number`
  pub index : (byte : ℕ) → Once (IsIndex byte)
  pub wide : (number : ℕ) → Once (IsWidened number)
  pub clear : (before : List ℕ) → Once (Clears before)
  pub digits : (n : ℕ) → Once (CountsDigits n)
  pub put_bytes : (before : List ℕ) (at : ℕ) (bytes : List ℕ) → OnceBoth (Puts before at bytes)
  pub put_number : (before : List ℕ) (at n : ℕ) → OnceBoth (Puts before at (decimal n))
  -- `read`, `write`
  pub read : (file : List ℕ) → Once (λ r. r ≡ read_answer file)
  pub write : (value : Automaton) (before : List ℕ) → OnceBoth (λ after r. Written value before after r)
  -- `run`, `productive`
  pub run : (file words : List ℕ) → Once (RunPromise file words)
  pub productive : (file : List ℕ) → Once (ProductivePromise file)
  -- `child_count`, `places`, `node_at`, `is_sound`, `make`, `measure`, `list`
  pub child_count : (shape : Shape) → Once (λ r. r ≡ child_count shape.kind shape.label)
  pub places : (shape : Shape) → Once (λ r. r ≡ places shape)
  pub node_at : (words : List ℕ) (i : ℕ) → Once (λ r. r ≡ node_in words i)
  pub is_sound : (words : List ℕ) (count answer : ℕ) → Once (SoundAnswer words count answer)
  pub make : (before : List ℕ) (count : ℕ) (shape : Shape) → OnceBoth (Makes before count shape)
  pub measure : (words : List ℕ) (count answer : ℕ) (before : List ℕ) → OnceBoth (Measures words count answer before)
  pub list : (words : List ℕ) (count answer : ℕ) (before : List ℕ) → OnceBoth (Lists words count answer before)
  -- `convert_partly`, `convert`
  pub convert_partly : (file : List ℕ) (k : ℕ) (before : List ℕ) → OnceBoth (PartlyAnswered file k before)
  pub convert : (file before : List ℕ) → OnceBoth (WhollyAnswered file before)
  -- `printed`
  pub printed : (file nodes out : List ℕ) → OnceAll (λ after bytes r. Prints file nodes after out bytes r)

-- A function that can refuse returns a result, and its promise is said of the numbers that the result stands for [12.13]. These tell it apart: two results that stand for the same numbers are the same, so that a promise with one outcome in numbers has one result.
pub record EachTold : Type 0 where
  pub reasons : (a b : Refused) → number_of a ≡ number_of b → a ≡ b
  -- `make`; `write`, `list` and `printed`; `read`; `run`, `productive`; `measure`; `convert_partly`, `convert`
  pub refusals : (r s : Result (Unit {0}) Refused) → refusal_of r ≡ refusal_of s → r ≡ s
  pub extents : (r s : Result ℕ Refused) → extent_of r ≡ extent_of s → r ≡ s
  pub readings : (r s : Result Automaton Refused) → read_of r ≡ read_of s → r ≡ s
  pub runs : (r s : Result Reached Refused) → run_of r ≡ run_of s → r ≡ s
  pub states : (r s : Result StateSet Refused) → states_of r ≡ states_of s → r ≡ s
  pub measures : (r s : Result ℕ Refused) → measured_of r ≡ measured_of s → r ≡ s
  pub stops : (r s : Result Stopped Refused) → partly_answer r ≡ partly_answer s → r ≡ s
  pub conversions : (r s : Result Converted Refused) → wholly_answer r ≡ wholly_answer s → r ≡ s
