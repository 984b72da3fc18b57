-- All claims are proved.
use Rattle.claims.specs.Claims.{Claims}
use Rattle.claims.proofs.Refusing.Refusals.{refuses_exactly}
use Rattle.claims.proofs.Meaning.Meanings.{means_what_it_should}
use Rattle.claims.proofs.Meaning.Slips.{no_slip}
use Rattle.claims.proofs.Meaning.Conversions.{converts_faithfully}
use Rattle.claims.proofs.Meaning.Printings.{prints_faithfully}
use Rattle.claims.proofs.Outcomes.Uniqueness.{each_once}
use Rattle.claims.proofs.Outcomes.Told.{each_told}
use Rattle.claims.proofs.Outcomes.Kept.{each_kept}
use Rattle.claims.proofs.Outcomes.Returned.{each_returned}
use Rattle.claims.proofs.Worked.Shams.{no_sham}
use Rattle.claims.proofs.Worked.WorkedDrafts.{worked_drafts}
use Rattle.claims.proofs.Computing.Computed.{computed}

pub claims : Claims
claims =
    record {
      refuses_exactly = refuses_exactly;
      means_what_it_should = means_what_it_should;
      no_slip = no_slip;
      converts_faithfully = converts_faithfully;
      prints_faithfully = prints_faithfully;
      each_once = each_once;
      each_told = each_told;
      each_kept = each_kept;
      each_returned = each_returned;
      no_sham = no_sham;
      worked_drafts = worked_drafts;
      computed = computed;
    }
