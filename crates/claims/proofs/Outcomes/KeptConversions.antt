-- The promises of the conversions are kept: by the refusals, and by the table that the definitions give.
use Prim.Native.Nat.{ℕ, ◌*◌, ◌≤◌, ◌<◌}
use native.Mathlib.Omega.{arith}
use native.Mathlib.Decide.{dec_lt}
use mathlib.Core.Path.{◌≡◌, refl, sym, ◌∙◌, ap, ap₂, subst}
use mathlib.Core.List.{List}
use lib.ListN.{length, drop}
use Rattle.buffers.specs.Writing.{all_zero}
use Rattle.automaton.specs.Held.{Held}
use Rattle.automaton.specs.Checks.{Verdict, verdict, holds, fault}
use Rattle.automaton.specs.Refusals.{refusal, fault_refusal}
use Rattle.automaton.proofs.Files.Faults.{fault-number, one-held, one_number, never_both}
use Rattle.automaton.proofs.Files.Pair.{verdict-valid}
use Rattle.expressions.specs.Words.{node_width}
use Rattle.elimination.specs.declared.Partly.{Partly}
use Rattle.elimination.specs.declared.Wholly.{Wholly}
use Rattle.theory.specs.Stages.{Stage, Made, stage_after, converted}
use Rattle.elimination.specs.Answers.{whole_nodes, written_to, refused_partly, partly_done, stage_answered, PartlyAnswered, refused_whole, wholly_done, made_answered, WhollyAnswered}
use Rattle.theory.specs.Theorem.{PartlyConverted, WhollyConverted}
use Rattle.elimination.proofs.Promises.{answered, answered-made}
use Rattle.theory.proofs.Theorem.{partly-ascending, wholly-ascending}
use Rattle.claims.specs.Types.{Words, PartlyFits, WhollyFits}
use Rattle.claims.specs.Kept.{KeptBoth}
use Rattle.claims.proofs.Outcomes.KeptTables.{stays_same}
use Rattle.claims.proofs.Outcomes.TypedConversions.{zero-stays, refused-part-fits, part_stays, part-fits, refused-whole-fits, whole-stays, whole-fits}

-- what stands in the words and in the answer is what was made
stage-back : (before : List ℕ) (stage : Stage) → stage_answered (written_to before stage.table) (partly_done stage) ≡ stage
unfolding written_to
stage-back before stage = answered stage (drop (node_width * length stage.table) before)

made-back : (before : List ℕ) (made : Made) → made_answered (written_to before made.table) (wholly_done made) ≡ made
unfolding written_to
made-back before made = answered-made made (drop (node_width * length made.table) before)

-- what holds of the automaton that the file holds, holds of every one that it is said to hold
module _ (file : List ℕ) (held : Held) (e : verdict file ≡ holds held) where
  of-held : (P : Held → Type 0) → P held → (other : Held) → verdict file ≡ holds other → P other
  of-held P p other d = subst P (one-held file held other e d) p

-- ---- a partial conversion

module _ (file : List ℕ) (k : ℕ) (before : List ℕ) where
  part-faulty : (number offset : ℕ) → verdict file ≡ fault number offset → PartlyAnswered file k before before (refused_partly (fault_refusal number offset))
  part-faulty number offset e =
      record {
        faulty = λ n o d. (ap (λ (m : ℕ). refused_partly (refusal m)) (one_number file number offset n o e d), refl);
        too_far = λ held d h. absurd (never_both file held number offset d e);
        short = λ held d h l. absurd (never_both file held number offset d e);
        done = λ held d h l. absurd (never_both file held number offset d e);
        means = λ held d h l. absurd (never_both file held number offset d e);
      }

  module _ (held : Held) (e : verdict file ≡ holds held) (after : List ℕ) (r : Partly) where
    part-answered : (held.states < k → (r ≡ refused_partly (refusal 9)) × (after ≡ before))
        → (k ≤ held.states → whole_nodes before < length (stage_after k held).table → (r ≡ refused_partly (refusal 6)) × (after ≡ all_zero before))
        → (k ≤ held.states → length (stage_after k held).table ≤ whole_nodes before → (r ≡ partly_done (stage_after k held)) × (after ≡ written_to before (stage_after k held).table))
        → PartlyAnswered file k before after r
    part-answered far short done =
        record {
          faulty = λ n o d. absurd (never_both file held n o e d);
          too_far = of-held file held e (λ h. h.states < k → (r ≡ refused_partly (refusal 9)) × (after ≡ before)) far;
          short = of-held file held e (λ h. k ≤ h.states → whole_nodes before < length (stage_after k h).table → (r ≡ refused_partly (refusal 6)) × (after ≡ all_zero before)) short;
          done = of-held file held e
              (λ h. k ≤ h.states → length (stage_after k h).table ≤ whole_nodes before → (r ≡ partly_done (stage_after k h)) × (after ≡ written_to before (stage_after k h).table)) done;
          means = of-held file held e (λ h. k ≤ h.states → length (stage_after k h).table ≤ whole_nodes before → PartlyConverted h (λ q. q < k) (stage_answered after r)) means;
        }
      where
        means : k ≤ held.states → length (stage_after k held).table ≤ whole_nodes before → PartlyConverted held (λ q. q < k) (stage_answered after r)
        means near l =
            let d = done near l in
            subst (PartlyConverted held (λ q. q < k)) (sym (ap₂ stage_answered d.1 d.0 ∙ stage-back before (stage_after k held)))
            (partly-ascending held (verdict-valid file held e) k near)

  pub partly-kept : KeptBoth PartlyFits Words before (PartlyAnswered file k before)
  partly-kept = go (verdict file) refl
    where
      room : (held : Held) → verdict file ≡ holds held → k ≤ held.states → Dec (whole_nodes before < length (stage_after k held).table)
          → KeptBoth PartlyFits Words before (PartlyAnswered file k before)
      room held e near (yes l) = (
        all_zero before,
        refused_partly (refusal 6),
        part-answered held e (all_zero before) (refused_partly (refusal 6)) (λ far. absurd (omega arith)) (λ _ _. (refl, refl)) (λ _ m. absurd (omega arith)),
        zero-stays before,
        refused-part-fits (refusal 6) (omega arith),
      )
      room held e near (no l) = (
        written_to before (stage_after k held).table,
        partly_done (stage_after k held),
        part-answered held e (written_to before (stage_after k held).table) (partly_done (stage_after k held)) (λ far. absurd (omega arith)) (λ _ m. absurd (l m)) (λ _ _. (refl, refl)),
        part_stays held (verdict-valid file held e) k near before (omega arith),
        part-fits held (verdict-valid file held e) k near,
      )

      far : (held : Held) → verdict file ≡ holds held → Dec (held.states < k) → KeptBoth PartlyFits Words before (PartlyAnswered file k before)
      far held e (yes l) = (
        before,
        refused_partly (refusal 9),
        part-answered held e before (refused_partly (refusal 9)) (λ _. (refl, refl)) (λ near m. absurd (omega arith)) (λ near m. absurd (omega arith)),
        stays_same Words before,
        refused-part-fits (refusal 9) (omega arith),
      )
      far held e (no l) = room held e (omega arith) (dec_lt (whole_nodes before) (length (stage_after k held).table))

      go : (v : Verdict) → verdict file ≡ v → KeptBoth PartlyFits Words before (PartlyAnswered file k before)
      go (holds held) e = far held e (dec_lt held.states k)
      go (fault number offset) e = (before, refused_partly (fault_refusal number offset), part-faulty number offset e, stays_same Words before, refused-part-fits (fault_refusal number offset) (omega (arith, fault-number file number offset e)))

-- ---- a full conversion

module _ (file before : List ℕ) where
  whole-faulty : (number offset : ℕ) → verdict file ≡ fault number offset → WhollyAnswered file before before (refused_whole (fault_refusal number offset))
  whole-faulty number offset e =
      record {
        faulty = λ n o d. (ap (λ (m : ℕ). refused_whole (refusal m)) (one_number file number offset n o e d), refl);
        short = λ held d l. absurd (never_both file held number offset d e);
        done = λ held d l. absurd (never_both file held number offset d e);
        means = λ held d l. absurd (never_both file held number offset d e);
      }

  module _ (held : Held) (e : verdict file ≡ holds held) (after : List ℕ) (r : Wholly) where
    whole-answered : (whole_nodes before < length (converted held).table → (r ≡ refused_whole (refusal 6)) × (after ≡ all_zero before))
        → (length (converted held).table ≤ whole_nodes before → (r ≡ wholly_done (converted held)) × (after ≡ written_to before (converted held).table))
        → WhollyAnswered file before after r
    whole-answered short done =
        record {
          faulty = λ n o d. absurd (never_both file held n o e d);
          short = of-held file held e (λ h. whole_nodes before < length (converted h).table → (r ≡ refused_whole (refusal 6)) × (after ≡ all_zero before)) short;
          done = of-held file held e (λ h. length (converted h).table ≤ whole_nodes before → (r ≡ wholly_done (converted h)) × (after ≡ written_to before (converted h).table)) done;
          means = of-held file held e (λ h. length (converted h).table ≤ whole_nodes before → WhollyConverted h (made_answered after r)) means;
        }
      where
        means : length (converted held).table ≤ whole_nodes before → WhollyConverted held (made_answered after r)
        means l =
            let d = done l in
            subst (WhollyConverted held) (sym (ap₂ made_answered d.1 d.0 ∙ made-back before (converted held))) (wholly-ascending held (verdict-valid file held e))

  pub wholly-kept : KeptBoth WhollyFits Words before (WhollyAnswered file before)
  wholly-kept = go (verdict file) refl
    where
      room : (held : Held) → verdict file ≡ holds held → Dec (whole_nodes before < length (converted held).table) → KeptBoth WhollyFits Words before (WhollyAnswered file before)
      room held e (yes l) = (
        all_zero before,
        refused_whole (refusal 6),
        whole-answered held e (all_zero before) (refused_whole (refusal 6)) (λ _. (refl, refl)) (λ m. absurd (omega arith)),
        zero-stays before,
        refused-whole-fits (refusal 6) (omega arith),
      )
      room held e (no l) = (
        written_to before (converted held).table,
        wholly_done (converted held),
        whole-answered held e (written_to before (converted held).table) (wholly_done (converted held)) (λ m. absurd (l m)) (λ _. (refl, refl)),
        whole-stays held (verdict-valid file held e) before (omega arith),
        whole-fits held (verdict-valid file held e),
      )

      go : (v : Verdict) → verdict file ≡ v → KeptBoth WhollyFits Words before (WhollyAnswered file before)
      go (holds held) e = room held e (dec_lt (whole_nodes before) (length (converted held).table))
      go (fault number offset) e = (before, refused_whole (fault_refusal number offset), whole-faulty number offset e, stays_same Words before, refused-whole-fits (fault_refusal number offset) (omega (arith, fault-number file number offset e)))
