-- Sets of states, computed.
use mathlib.Core.Path.{refl}
use Rattle.sets.specs.Members.{has, set_of, how_many, empty_set, one_set, union, without, size}
use Rattle.claims.specs.Computed.{SetCases}

pub set_cases : SetCases
unfolding has set_of how_many empty_set one_set union without size
set_cases =
    record {
      members = (refl, refl, refl, refl);
      last_state = (refl, refl);
      first_three = refl;
      none = refl;
      one = (refl, refl, refl);
      both = refl;
      past = (refl, refl, refl, refl);
      of_word = (refl, refl);
      taken_out = (refl, refl, refl);
      sizes = (refl, refl, refl);
    }
