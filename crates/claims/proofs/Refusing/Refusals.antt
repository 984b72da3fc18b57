-- Each entry refuses exactly when it should.
use Prim.Native.Nat.{ℕ, ◌≤◌, ◌<◌}
use native.Mathlib.Omega.{arith}
use native.Mathlib.Decide.{dec_lt}
use mathlib.Core.Path.{◌≡◌, refl, sym, ◌∙◌, ap, subst}
use mathlib.Core.Bool.{false}
use mathlib.Core.Logic.{◌⊎◌, inl, inr}
use mathlib.Core.List.{List, [], ◌∷◌, Memᴰ}
use lib.ListN.{length, replicate}
use Rattle.automaton.specs.declared.Automaton.{Automaton}
use Rattle.automaton.specs.declared.Refusal.{Refusal}
use Rattle.automaton.specs.declared.Reading.{Reading}
use Rattle.automaton.specs.declared.Extent.{Extent}
use Rattle.automaton.specs.Held.{Held, Valid}
use Rattle.ground.specs.Lists.{All}
use Rattle.automaton.specs.File.{file_of}
use Rattle.automaton.specs.Checks.{Verdict, verdict, holds, fault}
use Rattle.automaton.specs.Answers.{no_automaton, reading_of, read_answer, held_by}
use Rattle.writer.specs.Answers.{writing, Written}
use Rattle.automaton.proofs.Values.{dec-valid}
use Rattle.automaton.proofs.Files.Pair.{verdict-valid}
use Rattle.automaton.proofs.Files.FileOf.{file-verdict}
use Rattle.trees.specs.declared.ReachedStates.{ReachedStates}
use Rattle.trees.specs.declared.ProductiveStates.{ProductiveStates}
use Rattle.meaning.specs.Trees.{Tree}
use Rattle.trees.specs.Words.{IsTree, NoTree}
use Rattle.trees.specs.Promises.{no_run, RunPromise, no_states, ProductivePromise}
use Rattle.trees.proofs.Answers.{decide-tree}
use Rattle.expressions.specs.declared.Measured.{Measured}
use Rattle.expressions.specs.declared.Shape.{Shape}
use Rattle.expressions.specs.Soundness.{Fits, Sound}
use Rattle.expressions.specs.Making.{Room, Makes}
use Rattle.expressions.specs.Answers.{Measures}
use Rattle.listing.specs.Answers.{Lists, listing_of}
use Rattle.expressions.proofs.Decidable.{dec-fits, dec-room, dec-sound}
use Rattle.elimination.specs.declared.Partly.{Partly}
use Rattle.elimination.specs.declared.Wholly.{Wholly}
use Rattle.theory.specs.Stages.{stage_after, converted}
use Rattle.elimination.specs.Answers.{whole_nodes, unused_place, refused_partly, partly_done, PartlyAnswered, refused_whole, wholly_done, WhollyAnswered}
use Rattle.buffers.specs.Writing.{all_zero}
use Rattle.theory.specs.RowLists.{list_places}
use Rattle.ground.proofs.Lists.{of-all}
use Rattle.front.specs.Text.{printed_text}
use Rattle.front.specs.Answers.{nodes_made, TooShort, Prints}
use Rattle.front.proofs.Outcomes.{short-nodes, short-bytes, room-both, made_holds, made_fault}
use Rattle.claims.specs.Refusals.{FileRefused, WriteRefused, no_file, buffer_short, RunRefused, run_file, no_tree, MakeRefused, no_such_node, no_room, MeasureRefused, measure_unsound, scratch_short, ListRefused, list_unsound, bytes_short, PartlyRefused, partly_file, too_far, partly_short, WhollyRefused, wholly_file, wholly_short, Refuses, file_numbers, WordsLeft, RefusesExactly, PrintRefused, print_nodes, print_bytes}
use Rattle.claims.proofs.Refusing.Faults.{fault-listed}

-- ---- one law for every entry: each condition gives its number; and either the number is 0, or it is the number of a condition that holds, and all is left as it should be

module _ (numbers : List ℕ) (some : All (λ n. 1 ≤ n) numbers) (Refused : ℕ → Type 0) (number : ℕ) (Left : Type 0)
    (among : (n : ℕ) → Refused n → Memᴰ n numbers) (gives : (n : ℕ) → Refused n → number ≡ n) where
  refuses : (number ≡ 0) ⊎ (Refused number × Left) → Refuses numbers Refused number Left
  refuses either =
      record {
        among = among;
        exactly = λ n h. (λ e. only n h e either, gives n);
        done = (λ z n x. let h = of-all (λ n. 1 ≤ n) numbers some (among n x) in let e = gives n x in omega arith, λ none. undue none either);
        left = λ n. kept n either;
      }
    where
      only : (n : ℕ) → 1 ≤ n → number ≡ n → (number ≡ 0) ⊎ (Refused number × Left) → Refused n
      only n h e (inl z) = absurd (omega arith)
      only n h e (inr x) = subst Refused e x.0

      undue : ((n : ℕ) → Refused n → ⊥) → (number ≡ 0) ⊎ (Refused number × Left) → number ≡ 0
      undue none (inl z) = z
      undue none (inr x) = absurd (none number x.0)

      kept : (number ≡ 0 → ⊥) → (number ≡ 0) ⊎ (Refused number × Left) → Left
      kept n (inl z) = absurd (n z)
      kept n (inr x) = x.1

-- ---- files

in_file : (file : List ℕ) (n : ℕ) → FileRefused file n → Memᴰ n file_numbers
in_file file n x = fault-listed file n x.0 x.1

read-refuses : (file : List ℕ) (r : Reading) → r ≡ read_answer file → Refuses file_numbers (FileRefused file) r.refusal.number (r.automaton ≡ no_automaton)
unfolding read_answer reading_of
read-refuses file r p = refuses file_numbers (omega arith) (FileRefused file) _ _ (in_file file) gives (go (verdict file) refl)
  where
    gives : (n : ℕ) → FileRefused file n → r.refusal.number ≡ n
    gives n x = ap (λ (a : Reading). a.refusal.number) (p ∙ ap reading_of x.1)

    go : (v : Verdict) → verdict file ≡ v → (r.refusal.number ≡ 0) ⊎ (FileRefused file r.refusal.number × (r.automaton ≡ no_automaton))
    go (holds held) e = inl (ap (λ (a : Reading). a.refusal.number) (p ∙ ap reading_of e))
    go (fault number offset) e = inr (rw (gives number (offset, e)) (offset, e), ap (λ (a : Reading). a.automaton) (p ∙ ap reading_of e))

-- ---- a value

-- some file holds what is valid, and what some file holds is valid
write-refuses : (value : Automaton) (before after : List ℕ) (r : Extent) → Written value before after r
    → Refuses (4 ∷ 6 ∷ []) (WriteRefused value before) r.refusal.number ((r.length ≡ 0) × (after ≡ before))
write-refuses value before after r w = refuses (4 ∷ 6 ∷ []) (omega arith) (WriteRefused value before) _ _ among gives (go (dec-valid held) (dec_lt (length before) (length (file_of held))))
  where
    held : Held
    held = held_by value

    among : (n : ℕ) → WriteRefused value before n → Memᴰ n (4 ∷ 6 ∷ [])
    among n (no_file none) = Memᴰ.head refl
    among n (buffer_short file e l) = Memᴰ.tail (Memᴰ.head refl)

    unfit : ((file : List ℕ) → verdict file ≡ holds (held_by value) → ⊥) → Valid (held_by value) → ⊥
    unfit none v = none (file_of (held_by value)) (file-verdict (held_by value) v)

    number : {given : Refusal} {size : ℕ} → r ≡ writing given size → r.refusal.number ≡ given.number
    number e = ap (λ (a : Extent). a.refusal.number) e

    gives : (n : ℕ) → WriteRefused value before n → r.refusal.number ≡ n
    gives n (no_file none) = number (w.unfit (unfit none)).0
    gives n (buffer_short file e l) = number (w.short (verdict-valid file (held_by value) e) l).0

    go : Dec (Valid (held_by value)) → Dec (length before < length (file_of (held_by value))) → (r.refusal.number ≡ 0) ⊎ (WriteRefused value before r.refusal.number × ((r.length ≡ 0) × (after ≡ before)))
    go (no n) d =
        let c = w.unfit n in
        inr (rw (number c.0) (no_file (λ file e. n (verdict-valid file (held_by value) e))), (ap (λ (a : Extent). a.length) c.0, c.1))
    go (yes v) (yes l) =
        let c = w.short v l in
        inr (rw (number c.0) (buffer_short (file_of (held_by value)) (file-verdict (held_by value) v) l), (ap (λ (a : Extent). a.length) c.0, c.1))
    go (yes v) (no l) = inl (number (w.done v (omega arith)).0)

-- ---- runs

run-refuses : (file words : List ℕ) (r : ReachedStates) → RunPromise file words r
    → Refuses (7 ∷ file_numbers) (RunRefused file words) r.refusal.number ((r.states.0 ≡ 0) × (r.yes ≡ false))
unfolding no_run
run-refuses file words r p = refuses (7 ∷ file_numbers) (omega arith) (RunRefused file words) _ _ among gives (go (verdict file) refl)
  where
    among : (n : ℕ) → RunRefused file words n → Memᴰ n (7 ∷ file_numbers)
    among n (run_file x) = Memᴰ.tail (in_file file n x)
    among n (no_tree held e none) = Memᴰ.head refl

    number : {given : Refusal} → r ≡ no_run given → r.refusal.number ≡ given.number
    number e = ap (λ (a : ReachedStates). a.refusal.number) e

    left : {given : Refusal} → r ≡ no_run given → (r.states.0 ≡ 0) × (r.yes ≡ false)
    left e = (ap (λ (a : ReachedStates). a.states.0) e, ap (λ (a : ReachedStates). a.yes) e)

    gives : (n : ℕ) → RunRefused file words n → r.refusal.number ≡ n
    gives n (run_file x) = number (p.faulty n x.0 x.1)
    gives n (no_tree held e none) = number (p.no_tree held e none)

    tree : (held : Held) → verdict file ≡ holds held → ((t : Tree) × IsTree held words t) ⊎ NoTree held words
        → (r.refusal.number ≡ 0) ⊎ (RunRefused file words r.refusal.number × ((r.states.0 ≡ 0) × (r.yes ≡ false)))
    tree held e (inl x) = inl (ap (λ (a : Refusal). a.number) (p.one_tree held x.0 e x.1).done)
    tree held e (inr none) = let c = p.no_tree held e none in inr (rw (number c) (no_tree held e none), left c)

    go : (v : Verdict) → verdict file ≡ v → (r.refusal.number ≡ 0) ⊎ (RunRefused file words r.refusal.number × ((r.states.0 ≡ 0) × (r.yes ≡ false)))
    go (holds held) e = tree held e (decide-tree held words)
    go (fault n offset) e = let c = p.faulty n offset e in inr (rw (number c) (run_file (offset, e)), left c)

productive-refuses : (file : List ℕ) (r : ProductiveStates) → ProductivePromise file r → Refuses file_numbers (FileRefused file) r.refusal.number (r.states.0 ≡ 0)
unfolding no_states
productive-refuses file r p = refuses file_numbers (omega arith) (FileRefused file) _ _ (in_file file) gives (go (verdict file) refl)
  where
    gives : (n : ℕ) → FileRefused file n → r.refusal.number ≡ n
    gives n x = ap (λ (a : ProductiveStates). a.refusal.number) (p.faulty n x.0 x.1)

    go : (v : Verdict) → verdict file ≡ v → (r.refusal.number ≡ 0) ⊎ (FileRefused file r.refusal.number × (r.states.0 ≡ 0))
    go (holds held) e = inl (ap (λ (a : Refusal). a.number) (p.found held e).done)
    go (fault n offset) e = inr (rw (gives n (offset, e)) (offset, e), ap (λ (a : ProductiveStates). a.states.0) (p.faulty n offset e))

-- ---- tables

make-refuses : (before : List ℕ) (count : ℕ) (shape : Shape) (after : List ℕ) (r : Refusal) → Makes before count shape after r
    → Refuses (8 ∷ 6 ∷ []) (MakeRefused before count shape) r.number (after ≡ before)
make-refuses before count shape after r m = refuses (8 ∷ 6 ∷ []) (omega arith) (MakeRefused before count shape) _ _ among gives (go (dec-fits count shape) (dec-room before count))
  where
    among : (n : ℕ) → MakeRefused before count shape n → Memᴰ n (8 ∷ 6 ∷ [])
    among n (no_such_node k) = Memᴰ.head refl
    among n (no_room f k) = Memᴰ.tail (Memᴰ.head refl)

    gives : (n : ℕ) → MakeRefused before count shape n → r.number ≡ n
    gives n (no_such_node k) = ap (λ (a : Refusal). a.number) (m.unfit k).0
    gives n (no_room f k) = ap (λ (a : Refusal). a.number) (m.full f k).0

    go : Dec (Fits count shape) → Dec (Room before count) → (r.number ≡ 0) ⊎ (MakeRefused before count shape r.number × (after ≡ before))
    go (no k) d = inr (rw (gives 8 (no_such_node k)) (no_such_node k), (m.unfit k).1)
    go (yes f) (no k) = inr (rw (gives 6 (no_room f k)) (no_room f k), (m.full f k).1)
    go (yes f) (yes h) = inl (ap (λ (a : Refusal). a.number) (m.done f h).0)

measure-refuses : (words : List ℕ) (count answer : ℕ) (before after : List ℕ) (r : Measured) → Measures words count answer before after r
    → Refuses (8 ∷ 6 ∷ []) (MeasureRefused words count answer before) r.refusal.number ((r.size ≡ 0) × (after ≡ before))
measure-refuses words count answer before after r m = refuses (8 ∷ 6 ∷ []) (omega arith) (MeasureRefused words count answer before) _ _ among gives (go (dec-sound words count answer) (dec_lt (length before) count))
  where
    among : (n : ℕ) → MeasureRefused words count answer before n → Memᴰ n (8 ∷ 6 ∷ [])
    among n (measure_unsound k) = Memᴰ.head refl
    among n (scratch_short f l) = Memᴰ.tail (Memᴰ.head refl)

    gives : (n : ℕ) → MeasureRefused words count answer before n → r.refusal.number ≡ n
    gives n (measure_unsound k) = ap (λ (a : Measured). a.refusal.number) (m.unsound k).0
    gives n (scratch_short f l) = ap (λ (a : Measured). a.refusal.number) (m.short f l).0

    go : Dec (Sound words count answer) → Dec (length before < count) → (r.refusal.number ≡ 0) ⊎ (MeasureRefused words count answer before r.refusal.number × ((r.size ≡ 0) × (after ≡ before)))
    go (no k) d = let c = m.unsound k in inr (rw (gives 8 (measure_unsound k)) (measure_unsound k), (ap (λ (a : Measured). a.size) c.0, c.1))
    go (yes f) (yes l) = let c = m.short f l in inr (rw (gives 6 (scratch_short f l)) (scratch_short f l), (ap (λ (a : Measured). a.size) c.0, c.1))
    go (yes f) (no l) = inl (ap (λ (a : Measured). a.refusal.number) (m.done f (omega arith)).0)

list-refuses : (words : List ℕ) (count answer : ℕ) (before after : List ℕ) (r : Extent) → Lists words count answer before after r
    → Refuses (8 ∷ 6 ∷ []) (ListRefused words count answer before) r.refusal.number ((r.length ≡ 0) × (after ≡ before))
list-refuses words count answer before after r m = refuses (8 ∷ 6 ∷ []) (omega arith) (ListRefused words count answer before) _ _ among gives (go (dec-sound words count answer) (dec_lt (length before) (length (listing_of words count answer))))
  where
    among : (n : ℕ) → ListRefused words count answer before n → Memᴰ n (8 ∷ 6 ∷ [])
    among n (list_unsound k) = Memᴰ.head refl
    among n (bytes_short f l) = Memᴰ.tail (Memᴰ.head refl)

    gives : (n : ℕ) → ListRefused words count answer before n → r.refusal.number ≡ n
    gives n (list_unsound k) = ap (λ (a : Extent). a.refusal.number) (m.unsound k).0
    gives n (bytes_short f l) = ap (λ (a : Extent). a.refusal.number) (m.short f l).0

    go : Dec (Sound words count answer) → Dec (length before < length (listing_of words count answer)) → (r.refusal.number ≡ 0) ⊎ (ListRefused words count answer before r.refusal.number × ((r.length ≡ 0) × (after ≡ before)))
    go (no k) d = let c = m.unsound k in inr (rw (gives 8 (list_unsound k)) (list_unsound k), (ap (λ (a : Extent). a.length) c.0, c.1))
    go (yes f) (yes l) = let c = m.short f l in inr (rw (gives 6 (bytes_short f l)) (bytes_short f l), (ap (λ (a : Extent). a.length) c.0, c.1))
    go (yes f) (no l) = inl (ap (λ (a : Extent). a.refusal.number) (m.done f (omega arith)).0)

-- ---- conversions

-- what is left, by the number
words_same : (number : ℕ) (before after : List ℕ) → (number ≡ 6 → ⊥) → after ≡ before → WordsLeft number before after
words_same number before after n e = record { zeroed = λ z. absurd (n z); unchanged = λ k. e }

words-zero : (number : ℕ) (before after : List ℕ) → number ≡ 6 → after ≡ all_zero before → WordsLeft number before after
words-zero number before after z e = record { zeroed = λ k. e; unchanged = λ n. absurd (n z) }

-- 6 is no file's number
not-six : (file : List ℕ) (number : ℕ) → FileRefused file number → number ≡ 6 → ⊥
not-six file number x e = let h = of-all (λ n. n ≤ 5) file_numbers (omega arith) (in_file file number x) in omega arith

partly-refuses : (file : List ℕ) (k : ℕ) (before after : List ℕ) (r : Partly) → PartlyAnswered file k before after r
    → Refuses (9 ∷ 6 ∷ file_numbers) (PartlyRefused file k before) r.refusal.number
    ((r.nodes ≡ 0) × (r.rows ≡ 0) × (r.list ≡ replicate list_places unused_place) × WordsLeft r.refusal.number before after)
unfolding refused_partly partly_done
partly-refuses file k before after r p = refuses (9 ∷ 6 ∷ file_numbers) (omega arith) (PartlyRefused file k before) _ _ among gives (go (verdict file) refl)
  where
    Left : Type 0
    Left = (r.nodes ≡ 0) × (r.rows ≡ 0) × (r.list ≡ replicate list_places unused_place) × WordsLeft r.refusal.number before after

    among : (n : ℕ) → PartlyRefused file k before n → Memᴰ n (9 ∷ 6 ∷ file_numbers)
    among n (partly_file x) = Memᴰ.tail (Memᴰ.tail (in_file file n x))
    among n (too_far held e l) = Memᴰ.head refl
    among n (partly_short held e h l) = Memᴰ.tail (Memᴰ.head refl)

    number : {given : Refusal} → r ≡ refused_partly given → r.refusal.number ≡ given.number
    number e = ap (λ (a : Partly). a.refusal.number) e

    gives : (n : ℕ) → PartlyRefused file k before n → r.refusal.number ≡ n
    gives n (partly_file x) = number (p.faulty n x.0 x.1).0
    gives n (too_far held e l) = number (p.too_far held e l).0
    gives n (partly_short held e h l) = number (p.short held e h l).0

    left : {given : Refusal} → r ≡ refused_partly given → WordsLeft r.refusal.number before after → Left
    left e w = (ap (λ (a : Partly). a.nodes) e, ap (λ (a : Partly). a.rows) e, ap (λ (a : Partly). a.list) e, w)

    room : (held : Held) → verdict file ≡ holds held → k ≤ held.states → Dec (whole_nodes before < length (stage_after k held).table) → (r.refusal.number ≡ 0) ⊎ (PartlyRefused file k before r.refusal.number × Left)
    room held e h (yes l) = let c = p.short held e h l in inr (rw (number c.0) (partly_short held e h l), left c.0 (words-zero _ before after (number c.0) c.1))
    room held e h (no l) = inl (ap (λ (a : Partly). a.refusal.number) (p.done held e h (omega arith)).0)

    far : (held : Held) → verdict file ≡ holds held → Dec (held.states < k) → (r.refusal.number ≡ 0) ⊎ (PartlyRefused file k before r.refusal.number × Left)
    far held e (yes l) =
        let c = p.too_far held e l in
        inr (rw (number c.0) (too_far held e l), left c.0 (words_same _ before after (λ z. let nine = number c.0 in omega arith) c.1))
    far held e (no l) = room held e (omega arith) (dec_lt (whole_nodes before) (length (stage_after k held).table))

    go : (v : Verdict) → verdict file ≡ v → (r.refusal.number ≡ 0) ⊎ (PartlyRefused file k before r.refusal.number × Left)
    go (holds held) e = far held e (dec_lt held.states k)
    go (fault n offset) e =
        let c = p.faulty n offset e in
        inr (rw (number c.0) (partly_file (offset, e)), left c.0 (words_same _ before after (λ z. not-six file n (offset, e) (sym (number c.0) ∙ z)) c.1))

wholly-refuses : (file before after : List ℕ) (r : Wholly) → WhollyAnswered file before after r
    → Refuses (6 ∷ file_numbers) (WhollyRefused file before) r.refusal.number ((r.nodes ≡ 0) × (r.answer ≡ 0) × WordsLeft r.refusal.number before after)
unfolding refused_whole wholly_done
wholly-refuses file before after r p = refuses (6 ∷ file_numbers) (omega arith) (WhollyRefused file before) _ _ among gives (go (verdict file) refl)
  where
    Left : Type 0
    Left = (r.nodes ≡ 0) × (r.answer ≡ 0) × WordsLeft r.refusal.number before after

    among : (n : ℕ) → WhollyRefused file before n → Memᴰ n (6 ∷ file_numbers)
    among n (wholly_file x) = Memᴰ.tail (in_file file n x)
    among n (wholly_short held e l) = Memᴰ.head refl

    number : {given : Refusal} → r ≡ refused_whole given → r.refusal.number ≡ given.number
    number e = ap (λ (a : Wholly). a.refusal.number) e

    gives : (n : ℕ) → WhollyRefused file before n → r.refusal.number ≡ n
    gives n (wholly_file x) = number (p.faulty n x.0 x.1).0
    gives n (wholly_short held e l) = number (p.short held e l).0

    left : {given : Refusal} → r ≡ refused_whole given → WordsLeft r.refusal.number before after → Left
    left e w = (ap (λ (a : Wholly). a.nodes) e, ap (λ (a : Wholly). a.answer) e, w)

    room : (held : Held) → verdict file ≡ holds held → Dec (whole_nodes before < length (converted held).table) → (r.refusal.number ≡ 0) ⊎ (WhollyRefused file before r.refusal.number × Left)
    room held e (yes l) = let c = p.short held e l in inr (rw (number c.0) (wholly_short held e l), left c.0 (words-zero _ before after (number c.0) c.1))
    room held e (no l) = inl (ap (λ (a : Wholly). a.refusal.number) (p.done held e (omega arith)).0)

    go : (v : Verdict) → verdict file ≡ v → (r.refusal.number ≡ 0) ⊎ (WhollyRefused file before r.refusal.number × Left)
    go (holds held) e = room held e (dec_lt (whole_nodes before) (length (converted held).table))
    go (fault n offset) e =
        let c = p.faulty n offset e in
        inr (rw (number c.0) (wholly_file (offset, e)), left c.0 (words_same _ before after (λ z. not-six file n (offset, e) (sym (number c.0) ∙ z)) c.1))

-- ---- what is printed

print-refuses : (file nodes after out bytes : List ℕ) (r : Extent) → Prints file nodes after out bytes r
    → Refuses (6 ∷ []) (PrintRefused file nodes out) r.refusal.number ((r.length ≡ 0) × (after ≡ replicate (length nodes) 0) × (bytes ≡ out))
print-refuses file nodes after out bytes r p = refuses (6 ∷ []) (omega arith) (PrintRefused file nodes out) _ _ among gives (go (verdict file) refl)
  where
    Left : Type 0
    Left = (r.length ≡ 0) × (after ≡ replicate (length nodes) 0) × (bytes ≡ out)

    among : (n : ℕ) → PrintRefused file nodes out n → Memᴰ n (6 ∷ [])
    among n (print_nodes held e l) = Memᴰ.head refl
    among n (print_bytes l) = Memᴰ.head refl

    six : TooShort file nodes out → r.refusal.number ≡ 6
    six t = ap (λ (a : Extent). a.refusal.number) (p.short t).0

    gives : (n : ℕ) → PrintRefused file nodes out n → r.refusal.number ≡ n
    gives n (print_nodes held e l) = six (short-nodes file nodes out (rw (made_holds file held e) l))
    gives n (print_bytes l) = six (short-bytes file nodes out l)

    short : TooShort file nodes out → PrintRefused file nodes out 6 → (r.refusal.number ≡ 0) ⊎ (PrintRefused file nodes out r.refusal.number × Left)
    short t x = let c = p.short t in inr (rw (six t) x, (ap (λ (a : Extent). a.length) c.0, c.1.0, c.1.1))

    bytes-room : nodes_made (verdict file) ≤ whole_nodes nodes → Dec (length out < length (printed_text file)) → (r.refusal.number ≡ 0) ⊎ (PrintRefused file nodes out r.refusal.number × Left)
    bytes-room h (yes l) = short (short-bytes file nodes out l) (print_bytes l)
    bytes-room h (no l) = inl (ap (λ (a : Extent). a.refusal.number) (p.done (room-both file nodes out h (omega arith))).0)

    nodes-room : (held : Held) → verdict file ≡ holds held → Dec (whole_nodes nodes < length (converted held).table) → (r.refusal.number ≡ 0) ⊎ (PrintRefused file nodes out r.refusal.number × Left)
    nodes-room held e (yes l) = short (short-nodes file nodes out (rw (made_holds file held e) l)) (print_nodes held e l)
    nodes-room held e (no l) = bytes-room (omega (arith, made_holds file held e)) (dec_lt (length out) (length (printed_text file)))

    go : (v : Verdict) → verdict file ≡ v → (r.refusal.number ≡ 0) ⊎ (PrintRefused file nodes out r.refusal.number × Left)
    go (holds held) e = nodes-room held e (dec_lt (whole_nodes nodes) (length (converted held).table))
    go (fault n offset) e = bytes-room (omega (arith, made_fault file n offset e)) (dec_lt (length out) (length (printed_text file)))

pub refuses_exactly : RefusesExactly
refuses_exactly =
    record {
      read = read-refuses;
      write = write-refuses;
      run = run-refuses;
      productive = productive-refuses;
      is_sound = λ words count answer r d. (d.only, d.always);
      make = make-refuses;
      measure = measure-refuses;
      list = list-refuses;
      convert_partly = partly-refuses;
      convert = wholly-refuses;
      printed = print-refuses;
    }
