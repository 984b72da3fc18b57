-- The first record: what its values are found to be.
use Prim.Native.Nat.{ℕ, ◌^◌, ◌≤◌, ◌<◌}
use mathlib.Core.Bool.{true, false, ◌||◌}
use mathlib.Core.Path.{◌≡◌, ◌∙◌}
use mathlib.Core.List.{List, []}
use lib.Dec.{leb, ltb}
use lib.ListN.{length, get_or}
use borrow.Author.Tests.{lt-ltb, le-ltb, eqb-true}
use Rattle.automaton.specs.Checks.{nothing, wrong, more, wrong_if, number_at, kind_allowed, head_values, values, record_found}
use Rattle.automaton.specs.Inside.{code_of, RecordRead, HeadRead}
use Rattle.automaton.specs.declared.reader.Kind.{Kind}
use Rattle.automaton.proofs.Finding.Frames.{length-head}

module _ (file payload rest : List ℕ) (kind : Kind) (r : RecordRead nothing file kind payload rest) where
  head-kind : code_of kind ≡ 1
  unfolding kind_allowed
  head-kind = eqb-true _ _ r.allowed

  pub head-long : length payload ≡ 3
  head-long = eqb-true _ _ (length-head (length payload) ∙ (rw head-kind at r.sized))

  module _ (finals : ℕ) (f : finals ≡ number_at payload 1) where
    found : record_found nothing file
        ≡ wrong_if (ltb (get_or payload 0 0) 1 || ltb 16 (get_or payload 0 0)) 4
        (wrong_if (leb (2 ^ get_or payload 0 0) finals) 4 (more (record { states = get_or payload 0 0; finals = finals; arities = []; rules = [] })))
    unfolding values head_values
    found = r.found ∙ rw f

    pub head_few : get_or payload 0 0 < 1 → record_found nothing file ≡ wrong 4
    head_few h = found ∙ rw (lt-ltb (get_or payload 0 0) 1 h)

    module _ (some : 1 ≤ get_or payload 0 0) where
      pub head-many : 16 < get_or payload 0 0 → record_found nothing file ≡ wrong 4
      head-many h = found ∙ rw (le-ltb (get_or payload 0 0) 1 some, lt-ltb 16 (get_or payload 0 0) h)

      module _ (few : get_or payload 0 0 ≤ 16) where
        pub head-past : leb (2 ^ get_or payload 0 0) finals ≡ true → record_found nothing file ≡ wrong 4
        head-past h = found ∙ rw (le-ltb (get_or payload 0 0) 1 some, le-ltb 16 (get_or payload 0 0) few, h)

        pub head_read : leb (2 ^ get_or payload 0 0) finals ≡ false → HeadRead file (get_or payload 0 0) (record { 0 = finals }) rest
        head_read h =
            record {
              found = found ∙ rw (le-ltb (get_or payload 0 0) 1 some, le-ltb 16 (get_or payload 0 0) few, h);
              left = rw r.size r.left;
            }
