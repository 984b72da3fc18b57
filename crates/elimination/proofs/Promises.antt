-- The public promises: how they follow from what the private functions do.
use Prim.Native.Nat.{ℕ, ◌+◌, ◌*◌, ◌<◌, ◌≤◌}
use native.Mathlib.Omega.{arith}
use native.Mathlib.Numerals.{add-one}
use mathlib.Core.Path.{◌≡◌, refl, sym, ◌∙◌, ap, ap₂, subst}
use mathlib.Core.List.{List, [], ◌∷◌, ◌++◌, map, map-append}
use lib.ListN.{length, get_or, set, take, drop, replicate, length-map}
use lib.Seq.{take-suc, take_all, length-take-le}
use Rattle.sets.specs.Members.{size, state_width}
use Rattle.ground.specs.Lists.{filled}
use Rattle.buffers.specs.Writing.{all_zero}
use Rattle.ground.proofs.Places.{filled_none, filled-set, filled-take}
use Rattle.ground.proofs.Lists.{all_map, map_same}
use Rattle.automaton.specs.declared.Reading.{Reading}
use Rattle.automaton.specs.declared.Refusal.{Refusal}
use Rattle.automaton.specs.declared.Refused.{Refused}
use Rattle.automaton.specs.Held.{Held, Valid}
use Rattle.automaton.specs.Checks.{Verdict, holds, fault, verdict}
use Rattle.automaton.specs.Refusals.{refusal, no_refusal, number_of}
use Rattle.automaton.specs.Answers.{held_by, read_answer}
use Rattle.automaton.proofs.Files.Pair.{verdict-valid}
use Rattle.automaton.proofs.Handing.{read-refused, read_done, read_held}
use Rattle.expressions.specs.declared.Node.{Node}
use Rattle.expressions.specs.Nodes.{Table}
use Rattle.expressions.specs.Words.{node_width, words_of}
use Rattle.expressions.specs.Soundness.{most_nodes}
use Rattle.expressions.proofs.Words.{table-words}
use Rattle.theory.specs.declared.NodeRow.{NodeRow}
use Rattle.theory.specs.RowLists.{list_places}
use Rattle.theory.specs.Stages.{Stage, Made, waits_for, stage_after, converted}
use Rattle.theory.specs.Theorem.{PartlyConverted, WhollyConverted}
use Rattle.theory.proofs.Counting.Bound.{bound-file}
use Rattle.theory.proofs.Theorem.{partly-ascending, wholly-ascending}
use Rattle.elimination.specs.declared.maker.Got.{Got}
use Rattle.elimination.specs.declared.rows.Staged.{Staged}
use Rattle.elimination.specs.declared.ListRow.{ListRow}
use Rattle.elimination.specs.declared.Partly.{Partly}
use Rattle.elimination.specs.declared.Wholly.{Wholly}
use Rattle.elimination.specs.Answers.{whole_nodes, written_to, unused_place, list_row, list_of_rows, refused_partly, partly_done, row_of_place, stage_answered, PartlyAnswered, refused_whole, wholly_done, made_answered, WhollyAnswered}
use Rattle.elimination.specs.Inside.{Ready, NoRoom, HasNode, LowRows, HasStage, reported_row, reported_rows, PartlyOf, WhollyOf}
use Rattle.elimination.proofs.Room.{written-node}
use Rattle.elimination.proofs.Joining.{no_row}
use Rattle.elimination.proofs.Conversion.{stage-low}

-- ---- the list that is returned

pub record ListLoop (words : List ℕ) (rows : List NodeRow) (out : List ListRow) (i : ℕ) : Type 0 where
  pub far : i ≤ length rows
  pub is : out ≡ filled list_places unused_place (map (reported_row words) (take i rows))

module _ (words : List ℕ) (rows : List NodeRow) where
  pub list-start : ListLoop words rows (replicate list_places unused_place) 0
  list-start = record { far = omega arith; is = filled_none list_places unused_place }

  module _ (out : List ListRow) (i : ℕ) (l : ListLoop words rows out i) where
    pub list-end : length rows ≤ i → out ≡ reported_rows words rows
    list-end h = l.is ∙ ap (λ (so : List NodeRow). filled list_places unused_place (map (reported_row words) so)) (take_all i rows h)

    pub list-next : length rows ≤ list_places → i < length rows → (row : ListRow) → row ≡ reported_row words (get_or rows i no_row) → ListLoop words rows (set out i row) (i + 1)
    list-next few h row er =
        let so = take i rows in
        let lt = length-take-le i rows (omega arith) in
        let lm = length-map so (reported_row words) in
        record {
          far = omega arith;
          is =
              ap₂ (λ (x : List ListRow) (y : ListRow). set x i y) l.is er
              ∙ filled-set list_places unused_place (map (reported_row words) so) (reported_row words (get_or rows i no_row)) i (sym (lm ∙ lt)) (omega arith)
              ∙ ap (filled list_places unused_place)
              (sym (map-append (reported_row words) so (get_or rows i no_row ∷ [])) ∙ ap (map (reported_row words)) (sym (ap (λ (n : ℕ). take n rows) (add-one i) ∙ take-suc rows i no_row h)));
        }

-- the list by the words is the list by the table
reported-is : (before words : List ℕ) (stage : Stage) → words ≡ written_to before stage.table → LowRows stage.rows stage.table → map (reported_row words) stage.rows ≡ map (list_row stage.table) stage.rows
unfolding list_row waits_for
reported-is before words stage e low =
    map_same (reported_row words) (list_row stage.table) stage.rows
    (all_map stage.rows (λ row h. ap (λ (node : Node). record { node = row.node; target = row.target; waits = size state_width node.opens }) (written-node before stage.table words e row.node h)) low)

-- ---- room

pub fits-ready : (words : List ℕ) (count : ℕ) → count ≤ most_nodes → count ≤ whole_nodes words → Ready words count
unfolding whole_nodes
fits-ready words count f h = record { few = f; roomy = omega arith }

pub short-not : (words : List ℕ) (count : ℕ) → whole_nodes words < count → Ready words count → ⊥
unfolding whole_nodes
short-not words count h r = let g = r.roomy in omega arith

-- ---- what stands in the words and in what is returned

rows_back : (table : Table) (rows : List NodeRow) → map row_of_place (map (list_row table) rows) ≡ rows
unfolding list_row
rows_back table [] = refl
rows_back table (row ∷ rows) = ap (row ∷◌) (rows_back table rows)

pub answered : (stage : Stage) (rest : List ℕ) → stage_answered (words_of stage.table ++ rest) (partly_done stage) ≡ stage
unfolding stage_answered partly_done list_of_rows
answered stage rest =
    ap₂ (λ (t : Table) (r : List NodeRow). record { table = t; rows = r }) (table-words stage.table rest)
    (ap (map row_of_place) (filled-take list_places unused_place (map (list_row stage.table) stage.rows) (length stage.rows) (sym (length-map stage.rows (list_row stage.table)))) ∙ rows_back stage.table stage.rows)

pub answered-made : (made : Made) (rest : List ℕ) → made_answered (words_of made.table ++ rest) (wholly_done made) ≡ made
unfolding made_answered wholly_done
answered-made made rest = ap (λ (t : Table). record { table = t; node = made.node }) (table-words made.table rest)

-- ---- a file holds one automaton, or has a fault

module _ {v : Verdict} {held : Held} (e : v ≡ holds held) where
  no-fault : {number offset : ℕ} → v ≡ fault number offset → ⊥
  no-fault f = let z : ◌≡◌ {A = ℕ} 0 1 = cc in omega arith

  one : {other : Held} → v ≡ holds other → held ≡ other
  one f = cc

-- ---- `convert_partly`

-- the file is refused
pub partly-refused : (file : List ℕ) (reading : Reading) → reading ≡ read_answer file → (k : ℕ) (before : List ℕ) → (reading.refusal.number ≡ 0 → ⊥) → PartlyAnswered file k before before (refused_partly reading.refusal)
partly-refused file reading er k before n =
    record {
      faulty = λ number offset e. (ap refused_partly (read-refused file reading er number offset e), refl);
      too_far = λ held e h. absurd (none held e);
      short = λ held e h l. absurd (none held e);
      done = λ held e h l. absurd (none held e);
      means = λ held e h l. absurd (none held e);
    }
  where
    none : (held : Held) → verdict file ≡ holds held → ⊥
    none held e = n (ap (λ (r : Refusal). r.number) (read_done file reading er held e))

-- it holds what the value says
pub partly-held : (file : List ℕ) (reading : Reading) → reading ≡ read_answer file → (k : ℕ) (before after : List ℕ) (r : Partly) → reading.refusal.number ≡ 0 → PartlyOf (held_by reading.automaton) k before after r
    → PartlyAnswered file k before after r
partly-held file reading er k before after r z p = let h = read_held file reading er z in p file (h.in_file ∙ ap holds (sym h.said))

module _ (held : Held) (k : ℕ) (before : List ℕ) where
  pub partly-too-far : held.states < k → PartlyOf held k before before (refused_partly (refusal 9))
  partly-too-far f file e =
      record {
        faulty = λ number offset d. absurd (no-fault e d);
        too_far = λ other o h. (refl, refl);
        short = λ other o h l. absurd (far other o h);
        done = λ other o h l. absurd (far other o h);
        means = λ other o h l. absurd (far other o h);
      }
    where
      far : (other : Held) → verdict file ≡ holds other → k ≤ other.states → ⊥
      far other o h = omega (arith, ap (λ (x : Held). x.states) (one e o))

  -- there is no room for the table
  pub partly-short : k ≤ held.states → (reason : Refused) → NoRoom before (stage_after k held).table reason → (w1 : List ℕ) → length w1 ≡ length before
      → PartlyOf held k before (all_zero w1) (refused_partly (refusal (number_of reason)))
  partly-short within reason x w1 el file e =
      record {
        faulty = λ number offset d. absurd (no-fault e d);
        too_far = λ other o h. absurd (omega (arith, ap (λ (y : Held). y.states) (one e o)));
        short = λ other o h l. (ap (λ (n : ℕ). refused_partly (refusal n)) x.short, ap (λ (n : ℕ). replicate n 0) el);
        done = λ other o h l. absurd (full (rw (← (one e o)) at l));
        means = λ other o h l. absurd (full (rw (← (one e o)) at l));
      }
    where
      full : length (stage_after k held).table ≤ whole_nodes before → ⊥
      full l = let few = (partly-ascending held (verdict-valid file held e) k within).few in x.none (fits-ready before (length (stage_after k held).table) (omega (arith, bound-file held (verdict-valid file held e))) l)

  -- a stop
  module _ (within : k ≤ held.states) (after : List ℕ) (staged : Staged) (g : HasStage before (stage_after k held) after staged) (list : List ListRow) (el : list ≡ reported_rows after staged.list) where
    stopped : Partly
    stopped = record { refusal = no_refusal; nodes = staged.count; rows = length staged.list; list = list }

    module _ (v : Valid held) where
      returned : stopped ≡ partly_done (stage_after k held)
      unfolding stopped partly_done list_of_rows
      returned =
          let stage = stage_after k held in
          eq g.has.counted (ap length g.listed)
          (el ∙ ap (filled list_places unused_place) (ap (map (reported_row after)) g.listed ∙ reported-is before after stage g.has.words (stage-low held v k within)))
        where
          eq : {a b c d : ℕ} {p q : List ListRow} → a ≡ b → c ≡ d → p ≡ q → ◌≡◌ {A = Partly} (record { refusal = no_refusal; nodes = a; rows = c; list = p }) (record { refusal = no_refusal; nodes = b; rows = d; list = q })
          eq s t u = λ i. record { refusal = no_refusal; nodes = s i; rows = t i; list = u i }

      means : PartlyConverted held (λ q. q < k) (stage_answered after stopped)
      unfolding written_to
      means =
          subst (PartlyConverted held (λ q. q < k)) (sym (ap₂ stage_answered g.has.words returned ∙ answered (stage_after k held) (drop (node_width * length (stage_after k held).table) before)))
          (partly-ascending held v k within)

    pub partly-stopped : PartlyOf held k before after (record { refusal = no_refusal; nodes = staged.count; rows = length staged.list; list = list })
    unfolding stopped
    partly-stopped file e =
        record {
          faulty = λ number offset d. absurd (no-fault e d);
          too_far = λ other o h. absurd (omega (arith, ap (λ (y : Held). y.states) (one e o)));
          short = λ other o h l. absurd (short-not before (length (stage_after k held).table) (rw (← (one e o)) at l) g.has.room);
          done = λ other o h l. rw (← (one e o)) (returned (verdict-valid file held e), g.has.words);
          means = λ other o h l. rw (← (one e o)) (means (verdict-valid file held e));
        }

-- ---- `convert`

pub wholly-refused : (file : List ℕ) (reading : Reading) → reading ≡ read_answer file → (before : List ℕ) → (reading.refusal.number ≡ 0 → ⊥) → WhollyAnswered file before before (refused_whole reading.refusal)
wholly-refused file reading er before n =
    record {
      faulty = λ number offset e. (ap refused_whole (read-refused file reading er number offset e), refl);
      short = λ held e l. absurd (none held e);
      done = λ held e l. absurd (none held e);
      means = λ held e l. absurd (none held e);
    }
  where
    none : (held : Held) → verdict file ≡ holds held → ⊥
    none held e = n (ap (λ (r : Refusal). r.number) (read_done file reading er held e))

pub wholly-held : (file : List ℕ) (reading : Reading) → reading ≡ read_answer file → (before after : List ℕ) (r : Wholly) → reading.refusal.number ≡ 0 → WhollyOf (held_by reading.automaton) before after r
    → WhollyAnswered file before after r
wholly-held file reading er before after r z p = let h = read_held file reading er z in p file (h.in_file ∙ ap holds (sym h.said))

module _ (held : Held) (before : List ℕ) where
  -- there is no room for the table
  pub wholly-short : (reason : Refused) → NoRoom before (converted held).table reason → (w1 : List ℕ) → length w1 ≡ length before
      → WhollyOf held before (all_zero w1) (refused_whole (refusal (number_of reason)))
  wholly-short reason x w1 el file e =
      record {
        faulty = λ number offset d. absurd (no-fault e d);
        short = λ other o l. (ap (λ (n : ℕ). refused_whole (refusal n)) x.short, ap (λ (n : ℕ). replicate n 0) el);
        done = λ other o l. absurd (full (rw (← (one e o)) at l));
        means = λ other o l. absurd (full (rw (← (one e o)) at l));
      }
    where
      full : length (converted held).table ≤ whole_nodes before → ⊥
      full l = let few = (wholly-ascending held (verdict-valid file held e)).few in x.none (fits-ready before (length (converted held).table) (omega (arith, bound-file held (verdict-valid file held e))) l)

  -- an end
  module _ (after : List ℕ) (got : Got) (g : HasNode before (converted held) after got) where
    ended : Wholly
    ended = record { refusal = no_refusal; nodes = got.count; answer = got.node }

    end-is : ended ≡ wholly_done (converted held)
    unfolding ended wholly_done
    end-is = ap₂ (λ (a b : ℕ). record { refusal = no_refusal; nodes = a; answer = b }) g.has.counted g.node

    end-means : Valid held → WhollyConverted held (made_answered after ended)
    unfolding written_to
    end-means v =
        subst (WhollyConverted held) (sym (ap₂ made_answered g.has.words end-is ∙ answered-made (converted held) (drop (node_width * length (converted held).table) before))) (wholly-ascending held v)

    pub wholly-ended : WhollyOf held before after (record { refusal = no_refusal; nodes = got.count; answer = got.node })
    unfolding ended
    wholly-ended file e =
        record {
          faulty = λ number offset d. absurd (no-fault e d);
          short = λ other o l. absurd (short-not before (length (converted held).table) (rw (← (one e o)) at l) g.has.room);
          done = λ other o l. rw (← (one e o)) (end-is, g.has.words);
          means = λ other o l. rw (← (one e o)) (end-means (verdict-valid file held e));
        }
