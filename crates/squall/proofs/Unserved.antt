-- Engines whose reports can't be written.
use Rattle.std.proofs.Common.{⊎_elim, inl, inr, ℕ, Bool, List, refl}
use Rattle.std.specs.Prelude.{Option}
use Rattle.squall.specs.Session.{EndsEngine}

-- an engine was served, and then a report couldn't be written
pub refused_later : (strict : Bool) (before now : Option (List ℕ)) (status : ℕ) → EndsEngine strict before now status
    → EndsEngine strict before now 2
refused_later strict before now status ends =
    ⊎_elim (λ served. inl (served.0, served.1, inr refl)) (λ none. inr (none.0, refl)) ends
