-- What holds of the parts of a list, each on its own.
use Rattle.std.specs.Prelude.{◌≡◌, Bool, true, false, List, Result, Ok, Contains}

-- all parts were found to hold, or one was found not to
abbrev pub IsSaidOfAll : {E : Type 0} → Bool → List (Result Bool E) → Type 0
IsSaidOfAll {E} true said = (one : Result Bool E) → Contains said one → one ≡ Ok true
IsSaidOfAll {E} false said = Contains said (Ok false)
