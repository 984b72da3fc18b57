-- The first demand [1.1, 1.2]: which refusal each public function gives for which input, and what is then returned and left in what was lent.
-- That every function takes anything and comes back is the prover's own verdict: no public function has a `requires`, and every function is proved to end. What stands here follows from the promises that their contracts cite. The set functions, the helpers and `node_at` refuse nothing [4.25], so that there is nothing to say of them here.
use Rattle.std.specs.Prelude.{ℕ, ◌≤◌, ◌<◌, ◌≡◌, Bool, true, false, ◌↔◌, length, replicate}
use mathlib.Core.List.{List, [], ◌∷◌, Memᴰ}
use Rattle.buffers.specs.Writing.{all_zero}
use Rattle.automaton.specs.declared.Automaton.{Automaton}
use Rattle.automaton.specs.declared.Refusal.{Refusal}
use Rattle.automaton.specs.declared.Reading.{Reading}
use Rattle.automaton.specs.declared.Extent.{Extent}
use Rattle.automaton.specs.Held.{Held}
use Rattle.automaton.specs.File.{file_of}
use Rattle.automaton.specs.Checks.{verdict, holds, fault}
use Rattle.automaton.specs.Answers.{no_automaton, read_answer, held_by}
use Rattle.writer.specs.Answers.{Written}
use Rattle.trees.specs.declared.ReachedStates.{ReachedStates}
use Rattle.trees.specs.declared.ProductiveStates.{ProductiveStates}
use Rattle.trees.specs.Words.{NoTree}
use Rattle.trees.specs.Promises.{RunPromise, ProductivePromise}
use Rattle.expressions.specs.declared.Measured.{Measured}
use Rattle.expressions.specs.declared.Shape.{Shape}
use Rattle.expressions.specs.Soundness.{Fits, Sound}
use Rattle.expressions.specs.Making.{Room, Makes}
use Rattle.expressions.specs.Answers.{SoundAnswer, Measures}
use Rattle.listing.specs.Answers.{Lists, listing_of}
use Rattle.elimination.specs.declared.Partly.{Partly}
use Rattle.elimination.specs.declared.Wholly.{Wholly}
use Rattle.theory.specs.Stages.{stage_after, converted}
use Rattle.elimination.specs.Answers.{whole_nodes, unused_place, PartlyAnswered, WhollyAnswered}
use Rattle.theory.specs.RowLists.{list_places}
use Rattle.front.specs.Text.{printed_text}
use Rattle.front.specs.Answers.{Prints}

-- ---- what each function refuses: a line for each number, in the order in which they go before each other [4.23]

-- 1 to 5: the checks of the file, record by record, come to this number first [3.7]
abbrev pub FileRefused : List ℕ → ℕ → Type 0
FileRefused file number = (offset : ℕ) × (verdict file ≡ fault number offset)

-- the writer [3.21, 3.22]
pub data WriteRefused (value : Automaton) (out : List ℕ) : ℕ → Type 0 where
  -- 4: no file holds what the value says [3.21]
  no_file : ((file : List ℕ) → verdict file ≡ holds (held_by value) → ⊥) → WriteRefused value out 4
  -- 6: its file has more bytes than were lent [3.22]
  buffer_short : (file : List ℕ) → verdict file ≡ holds (held_by value) → length out < length (file_of (held_by value)) → WriteRefused value out 6

-- a run [5.3]
pub data RunRefused (file words : List ℕ) : ℕ → Type 0 where
  run_file : {number : ℕ} → FileRefused file number → RunRefused file words number
  -- 7: the words are no tree that can be run [5.3]
  no_tree : (held : Held) → verdict file ≡ holds held → NoTree held words → RunRefused file words 7

-- the making of a node [7.16, 7.17]
pub data MakeRefused (words : List ℕ) (count : ℕ) (shape : Shape) : ℕ → Type 0 where
  -- 8: no sound table has such a node at that number [7.16]
  no_such_node : (Fits count shape → ⊥) → MakeRefused words count shape 8
  -- 6: the words have no room for it, or the table is full [7.17]
  no_room : Fits count shape → (Room words count → ⊥) → MakeRefused words count shape 6

-- measuring [9.3]
pub data MeasureRefused (words : List ℕ) (count answer : ℕ) (scratch : List ℕ) : ℕ → Type 0 where
  -- 8: the table is not sound [7.9]
  measure_unsound : (Sound words count answer → ⊥) → MeasureRefused words count answer scratch 8
  -- 6: there are fewer scratch words than nodes [9.3]
  scratch_short : Sound words count answer → length scratch < count → MeasureRefused words count answer scratch 6

-- listing [9.8]
pub data ListRefused (words : List ℕ) (count answer : ℕ) (out : List ℕ) : ℕ → Type 0 where
  -- 8: the table is not sound [7.9]
  list_unsound : (Sound words count answer → ⊥) → ListRefused words count answer out 8
  -- 6: the listing is longer than the lent bytes [9.8]
  bytes_short : Sound words count answer → length out < length (listing_of words count answer) → ListRefused words count answer out 6

-- a partial conversion [8.24, 8.28]
pub data PartlyRefused (file : List ℕ) (k : ℕ) (words : List ℕ) : ℕ → Type 0 where
  partly_file : {number : ℕ} → FileRefused file number → PartlyRefused file k words number
  -- 9: it is to take out more states than there are [8.24]
  too_far : (held : Held) → verdict file ≡ holds held → held.states < k → PartlyRefused file k words 9
  -- 6: it makes more nodes than fit [8.28]
  partly_short : (held : Held) → verdict file ≡ holds held → k ≤ held.states → whole_nodes words < length (stage_after k held).table → PartlyRefused file k words 6

-- a full conversion [8.28]
pub data WhollyRefused (file words : List ℕ) : ℕ → Type 0 where
  wholly_file : {number : ℕ} → FileRefused file number → WhollyRefused file words number
  -- 6: it makes more nodes than fit [8.28]
  wholly_short : (held : Held) → verdict file ≡ holds held → whole_nodes words < length (converted held).table → WhollyRefused file words 6

-- the text for a file [9.13]
pub data PrintRefused (file nodes out : List ℕ) : ℕ → Type 0 where
  -- 6: the conversion makes more nodes than fit [9.13]
  print_nodes : (held : Held) → verdict file ≡ holds held → whole_nodes nodes < length (converted held).table → PrintRefused file nodes out 6
  -- 6: the text, that of a refusal too, is longer than the lent bytes [9.13]
  print_bytes : length out < length (printed_text file) → PrintRefused file nodes out 6

-- ---- a refusal given exactly then

-- of a function that can give these numbers and refuses so: the number that it gives, and what is returned and left where it is not 0 [1.2, 4.25]
pub record Refuses (numbers : List ℕ) (Refused : ℕ → Type 0) (number : ℕ) (Left : Type 0) : Type 0 where
  -- only these numbers stand for anything [4.25]
  pub among : (n : ℕ) → Refused n → Memᴰ n numbers
  -- each is given exactly when it should be [1.2]
  pub exactly : (n : ℕ) → 1 ≤ n → (number ≡ n) ↔ Refused n
  -- and 0, done, exactly when none should [4.0]
  pub done : (number ≡ 0) ↔ ((n : ℕ) → Refused n → ⊥)
  -- what is returned besides, and what was lent, when it is refused [4.20 to 4.22]
  pub left : (number ≡ 0 → ⊥) → Left

-- the numbers of a file's refusals [4.1 to 4.5]
abbrev pub file_numbers : List ℕ
file_numbers = 1 ∷ 2 ∷ 3 ∷ 4 ∷ 5 ∷ []

-- the words lent for nodes: each of them 0 with 6, and as they were with any other refusal [4.22]
pub record WordsLeft (number : ℕ) (before after : List ℕ) : Type 0 where
  pub zeroed : number ≡ 6 → after ≡ all_zero before
  pub unchanged : (number ≡ 6 → ⊥) → after ≡ before

-- the table of functions, one by one [4.25]
pub record RefusesExactly : Type 0 where
  pub read : (file : List ℕ) (r : Reading) → r ≡ read_answer file
      → Refuses file_numbers (FileRefused file) r.refusal.number (r.automaton ≡ no_automaton)
  pub write : (value : Automaton) (before after : List ℕ) (r : Extent) → Written value before after r
      → Refuses (4 ∷ 6 ∷ []) (WriteRefused value before) r.refusal.number ((r.length ≡ 0) × (after ≡ before))
  pub run : (file words : List ℕ) (r : ReachedStates) → RunPromise file words r
      → Refuses (7 ∷ file_numbers) (RunRefused file words) r.refusal.number ((r.states.0 ≡ 0) × (r.yes ≡ false))
  pub productive : (file : List ℕ) (r : ProductiveStates) → ProductivePromise file r
      → Refuses file_numbers (FileRefused file) r.refusal.number (r.states.0 ≡ 0)
  -- refuses nothing [7.13]
  pub is_sound : (words : List ℕ) (count answer : ℕ) (r : Bool) → SoundAnswer words count answer r → (r ≡ true) ↔ Sound words count answer
  pub make : (before : List ℕ) (count : ℕ) (shape : Shape) (after : List ℕ) (r : Refusal) → Makes before count shape after r
      → Refuses (8 ∷ 6 ∷ []) (MakeRefused before count shape) r.number (after ≡ before)
  pub measure : (words : List ℕ) (count answer : ℕ) (before after : List ℕ) (r : Measured) → Measures words count answer before after r
      → Refuses (8 ∷ 6 ∷ []) (MeasureRefused words count answer before) r.refusal.number ((r.size ≡ 0) × (after ≡ before))
  pub list : (words : List ℕ) (count answer : ℕ) (before after : List ℕ) (r : Extent) → Lists words count answer before after r
      → Refuses (8 ∷ 6 ∷ []) (ListRefused words count answer before) r.refusal.number ((r.length ≡ 0) × (after ≡ before))
  pub convert_partly : (file : List ℕ) (k : ℕ) (before after : List ℕ) (r : Partly) → PartlyAnswered file k before after r
      → Refuses (9 ∷ 6 ∷ file_numbers) (PartlyRefused file k before) r.refusal.number
      ((r.nodes ≡ 0) × (r.rows ≡ 0) × (r.list ≡ replicate list_places unused_place) × WordsLeft r.refusal.number before after)
  pub convert : (file before after : List ℕ) (r : Wholly) → WhollyAnswered file before after r
      → Refuses (6 ∷ file_numbers) (WhollyRefused file before) r.refusal.number
      ((r.nodes ≡ 0) × (r.answer ≡ 0) × WordsLeft r.refusal.number before after)
  -- a file's refusal stands in the text, so that 6 is the only number [9.13]
  pub printed : (file nodes after out bytes : List ℕ) (r : Extent) → Prints file nodes after out bytes r
      → Refuses (6 ∷ []) (PrintRefused file nodes out) r.refusal.number
      ((r.length ≡ 0) × (after ≡ all_zero nodes) × (bytes ≡ out))
