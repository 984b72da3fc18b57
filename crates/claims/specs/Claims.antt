-- What is claimed of this house, in one place: the three demands, that no promise has a second outcome or none, that no sham passes, the worked drafts, and the outside look at the definitions.
use Rattle.claims.specs.Refusals.{RefusesExactly}
use Rattle.claims.specs.Meanings.{MeansWhatItShould}
use Rattle.claims.specs.Slips.{NoSlip}
use Rattle.claims.specs.Conversions.{ConvertsFaithfully}
use Rattle.claims.specs.Printings.{PrintsFaithfully}
use Rattle.claims.specs.Uniqueness.{EachOnce, EachTold}
use Rattle.claims.specs.Kept.{EachKept, EachReturned}
use Rattle.claims.specs.Shams.{NoSham}
use Rattle.claims.specs.WorkedDrafts.{WorkedDrafts}
use Rattle.claims.specs.Computed.{Computed}

pub record Claims : Type 0 where
  -- the first demand: refusals, given exactly when they should be [1.1, 1.2]
  pub refuses_exactly : RefusesExactly
  -- the second demand: runs, expressions and files mean what they should [1.3 to 1.5]
  pub means_what_it_should : MeansWhatItShould
  -- and the meaning makes no slip [11.1 to 11.5]
  pub no_slip : NoSlip
  -- the third demand: a conversion, at every stop and at the end [1.6 to 1.10]
  pub converts_faithfully : ConvertsFaithfully
  -- what the program prints [9.9 to 9.12]
  pub prints_faithfully : PrintsFaithfully
  -- each promise leaves one outcome [12.3]
  pub each_once : EachOnce
  -- and a result is known by the numbers that it stands for [12.3, 12.13]
  pub each_told : EachTold
  -- and has one, in numbers of the types that the code declares [12.15]
  pub each_kept : EachKept
  -- and every outcome that it allows is what some result stands for [12.13, 12.15]
  pub each_returned : EachReturned
  -- no sham keeps them [12.4 to 12.8]
  pub no_sham : NoSham
  -- the worked drafts [10.2 to 10.17]
  pub worked_drafts : WorkedDrafts
  -- an outside look at the definitions
  pub computed : Computed
