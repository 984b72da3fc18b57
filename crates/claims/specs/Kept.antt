-- Each promise can be kept [12.15]: for every input there is an outcome that keeps it; where a place in a lent buffer is returned, the buffer is one that a machine has, shorter than 2 ^ 64. What is returned fits the types that the code declares; a lent buffer is as long as it was [0.16], and its words or bytes still fit their type where they did before. So no promise of a public function is empty, and none asks for what cannot be. (That the functions keep them is what the prover shows of the code.)
use Rattle.std.specs.Prelude.{ℕ, ◌≡◌, Bool, List, length, Result}
use Rattle.sets.specs.declared.StateSet.{StateSet}
use Rattle.sets.specs.Promises.{IsEmpty, IsOne, IsOfWord, IsUnion, SaysMember, SaysPast, IsWithout, IsCount}
use Rattle.buffers.specs.Decimal.{decimal}
use Rattle.buffers.specs.Writing.{Puts}
use Rattle.ground.specs.Promises.{IsIndex, IsWidened}
use Rattle.buffers.specs.Promises.{CountsDigits, Clears}
use Rattle.automaton.specs.declared.Automaton.{Automaton}
use Rattle.automaton.specs.declared.Refused.{Refused}
use Rattle.automaton.specs.Refusals.{refusal_of, extent_of}
use Rattle.automaton.specs.Answers.{read_answer, read_of}
use Rattle.writer.specs.Answers.{Written}
use Rattle.trees.specs.Promises.{RunPromise, ProductivePromise, run_of, states_of}
use Rattle.expressions.specs.declared.Shape.{Shape}
use Rattle.expressions.specs.Nodes.{child_count, places}
use Rattle.expressions.specs.Words.{node_in}
use Rattle.expressions.specs.Making.{Makes}
use Rattle.expressions.specs.Answers.{SoundAnswer, Measures, measured_of}
use Rattle.listing.specs.Answers.{Lists}
use Rattle.elimination.specs.Answers.{PartlyAnswered, WhollyAnswered, partly_answer, wholly_answer}
use Rattle.automaton.specs.declared.Extent.{Extent}
use Rattle.front.specs.Answers.{Prints}
use Rattle.claims.specs.Types.{Byte, Short, Word, Long, Bytes, Words, SetFits, RefusalFits, ReadingFits, WritingFits, ReachedFits, ProductiveFits, ShapeFits, NodeFits, MeasuredFits, ListedFits, PartlyFits, WhollyFits, PrintingFits}

-- a yes or no has no number that would have to fit
abbrev pub YesFits : Bool → Type 0
YesFits r = Unit {0}

-- something that fits is returned and keeps the promise
abbrev pub Kept : {A : Type 0} → (A → Type 0) → (A → Type 0) → Type 0
Kept {A} Fit Promise = (r : A) × Promise r × Fit r

-- the content of a lent buffer afterwards: as long, and of the same type
abbrev pub Stays : (List ℕ → Type 0) → (before after : List ℕ) → Type 0
Stays Typed before after = (length after ≡ length before) × (Typed before → Typed after)

-- some content of the lent buffer and something returned keep the promise
abbrev pub KeptBoth : {A : Type 0} → (A → Type 0) → (List ℕ → Type 0) → List ℕ → (List ℕ → A → Type 0) → Type 0
KeptBoth {A} Fit Typed before Promise = (after : List ℕ) × (r : A) × Promise after r × Stays Typed before after × Fit r

pub record EachKept : Type 0 where
  -- sets [2.8 to 2.10]
  pub set_empty : Kept SetFits IsEmpty
  pub set_one : (state : ℕ) → Kept SetFits (IsOne state)
  pub set_of_word : (word : ℕ) → Kept SetFits (IsOfWord word)
  pub set_union : (self other : StateSet) → Kept SetFits (IsUnion self other)
  pub set_has : (self : StateSet) (state : ℕ) → Kept YesFits (SaysMember self state)
  pub set_past : (self : StateSet) (count : ℕ) → Kept YesFits (SaysPast self count)
  pub set_without : (self : StateSet) (state : ℕ) → Kept SetFits (IsWithout self state)
  pub set_count : (self : StateSet) → Kept Word (IsCount self)
  -- helpers [2.11, 2.12, 7.21]; what they are given is of its type too
  pub index : (byte : ℕ) → Byte byte → Kept Long (IsIndex byte)
  pub wide : (byte : ℕ) → Byte byte → Kept Word (IsWidened byte)
  pub wide_16 : (number : ℕ) → Short number → Kept Word (IsWidened number)
  pub clear : (before : List ℕ) → (after : List ℕ) × Clears before after × Stays Words before after
  pub digits : (n : ℕ) → Long n → Kept Long (CountsDigits n)
  pub put_bytes : (before : List ℕ) (at : ℕ) (bytes : List ℕ) → Long (length before) → Long at → Bytes bytes → KeptBoth Long Bytes before (Puts before at bytes)
  pub put_number : (before : List ℕ) (at n : ℕ) → Long (length before) → Long at → KeptBoth Long Bytes before (Puts before at (decimal n))
  -- files [3.17, 3.20]
  pub read : (file : List ℕ) → Kept ReadingFits (λ r. r ≡ read_answer file)
  pub write : (value : Automaton) (before : List ℕ) → KeptBoth WritingFits Bytes before (Written value before)
  -- runs [5.5, 5.8]
  pub run : (file words : List ℕ) → Kept ReachedFits (RunPromise file words)
  pub productive : (file : List ℕ) → Kept ProductiveFits (ProductivePromise file)
  -- tables [7.13, 7.15, 7.20, 9.3, 9.8]
  pub child_count : (shape : Shape) → ShapeFits shape → Kept Word (λ r. r ≡ child_count shape.kind shape.label)
  pub places : (shape : Shape) → ShapeFits shape → Kept Words (λ r. r ≡ places shape)
  pub node_at : (words : List ℕ) (i : ℕ) → Words words → Kept NodeFits (λ r. r ≡ node_in words i)
  pub is_sound : (words : List ℕ) (count answer : ℕ) → Kept YesFits (SoundAnswer words count answer)
  pub make : (before : List ℕ) (count : ℕ) (shape : Shape) → KeptBoth RefusalFits Words before (Makes before count shape)
  pub measure : (words : List ℕ) (count answer : ℕ) (before : List ℕ) → KeptBoth MeasuredFits Words before (Measures words count answer before)
  pub list : (words : List ℕ) (count answer : ℕ) (before : List ℕ) → Long (length before) → KeptBoth ListedFits Bytes before (Lists words count answer before)
  -- conversions [8.21, 8.26]
  pub convert_partly : (file : List ℕ) (k : ℕ) (before : List ℕ) → KeptBoth PartlyFits Words before (PartlyAnswered file k before)
  pub convert : (file before : List ℕ) → KeptBoth WhollyFits Words before (WhollyAnswered file before)
  -- what is printed [9.13]: two buffers
  pub printed : (file nodes out : List ℕ) → Long (length out)
      → (after bytes : List ℕ) × (r : Extent) × Prints file nodes after out bytes r × Stays Words nodes after × Stays Bytes out bytes × PrintingFits r

-- ---- by a result

-- every outcome that a promise allows is what some result stands for
abbrev pub Returned : {A X : Type 0} → (X → A) → (A → Type 0) → Type 0
Returned {A} {X} of Promise = (r : A) → Promise r → (x : X) × (r ≡ of x)

-- A function that can refuse returns a result, and its promise is said of the numbers that the result stands for [12.13]. Whatever the promise allows, some result stands for, in the same numbers: so the outcome that keeps it above [12.15] is one that the function itself can return, and not its door alone.
pub record EachReturned : Type 0 where
  pub read : (file : List ℕ) → Returned read_of (λ r. r ≡ read_answer file)
  pub write : (value : Automaton) (before after : List ℕ) → Returned extent_of (Written value before after)
  pub run : (file words : List ℕ) → Returned run_of (RunPromise file words)
  pub productive : (file : List ℕ) → Returned states_of (ProductivePromise file)
  pub make : (before : List ℕ) (count : ℕ) (shape : Shape) (after : List ℕ) → Returned {X = Result (Unit {0}) Refused} refusal_of (Makes before count shape after)
  pub measure : (words : List ℕ) (count answer : ℕ) (before after : List ℕ) → Returned measured_of (Measures words count answer before after)
  pub list : (words : List ℕ) (count answer : ℕ) (before after : List ℕ) → Returned extent_of (Lists words count answer before after)
  pub convert_partly : (file : List ℕ) (k : ℕ) (before after : List ℕ) → Returned partly_answer (PartlyAnswered file k before after)
  pub convert : (file before after : List ℕ) → Returned wholly_answer (WhollyAnswered file before after)
  pub printed : (file nodes after out bytes : List ℕ) → Returned extent_of (Prints file nodes after out bytes)
