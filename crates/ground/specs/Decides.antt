-- What it is for a yes or no to answer a question.
use Rattle.std.specs.Prelude.{◌≡◌, Bool, true}

-- the answer is yes exactly when the claim holds [7.13]
pub record Decides (claim : Type 0) (answer : Bool) : Type 0 where
  pub only : answer ≡ true → claim
  pub always : claim → answer ≡ true
