-- What moves between the plans of an input.
use Rattle.std.proofs.Common.{◌≡◌, ℕ, List, [], Option, inl, inr, refl, subst}
use Rattle.std.specs.Prelude.{None, Result, Ok, Err, IfOk}
use Rattle.std.specs.Io.KnownBytes.{Appends}
use Rattle.sq_schema.specs.declared.schema.TheConstants.{MAX_TABLES}
use Rattle.sq_moves.specs.OpeningValue.{OpeningValue}
use Rattle.sq_moves.specs.ReconValue.{ReconValue}
use Rattle.sq_text.specs.Coming.{LinesValue, Leaves}
use Rattle.sq_text.proofs.Comings.{some_pieces}
use Rattle.sq_text.specs.declared.located.LocatedFault.{LocatedFault}
use Rattle.sq_text.specs.declared.input_fault.InputFault.TheVariants.{Memory}
use Rattle.sq_text.specs.Located.{located}
use Rattle.sq_text.specs.Header.{plans_of, Opens}
use Rattle.sq_text.proofs.Appending.{both}
use Rattle.sq_world.specs.declared.ending.Ending.{Ending}
use Rattle.sq_world.specs.Run.{IsFault, EndsAtFault}
use Rattle.sq_world.specs.Listing.{IsListing, TellsLines, TellsOrRefuses}

-- there was no memory to write what moves, and nothing of it was written
pub not_told : {E : Type 0} (tells : ReconValue → List ℕ → Type 0) (r : Result Ending E) (recon : ReconValue) (fault : LocatedFault) (before mid now : Option (List ℕ)) → fault ≡ located Memory None → Appends before mid []
    → IfOk r (EndsAtFault fault mid now) → IfOk r (TellsOrRefuses tells recon before now)
not_told tells (Err e) recon fault before mid now is nothing wrote = tt
not_told tells (Ok ending) recon fault before mid now is nothing wrote = (wrote.0, both before mid now [] wrote.0 wrote.0 nothing wrote.1 refl, inr (subst (λ f. IsFault f wrote.0 ending) is wrote.2))

-- what moves was written
pub listed : {E : Type 0} (tells : ReconValue → List ℕ → Type 0) (r : Result Ending E) (tables : ℕ) (o : OpeningValue) (recon : ReconValue) (begin lines : LinesValue) (before now : Option (List ℕ)) → tables ≡ MAX_TABLES → recon ≡ o.recon
    → Leaves begin lines (λ all left. Opens tables (Ok o) left (plans_of all))
    → IfOk r (TellsOrRefuses tells recon before now) → IfOk r (TellsLines tells MAX_TABLES begin before now)
listed tells (Err e) tables o recon begin lines before now eight same opens wrote = tt
listed tells (Ok ending) tables o recon begin lines before now eight same opens wrote =
    let some = some_pieces lines in
    let all = opens some.can_come.0 some.pieces some.can_come.1 in (
      all.0,
      (some.can_come.0, all.1),
      wrote.0,
      wrote.1,
      elim wrote.2 as (λ _. IsListing tells MAX_TABLES all.0 wrote.0 ending) [
        | inl told ↦ inl (record { opening = o; left = some.pieces; plans = subst (λ n. Opens n (Ok o) some.pieces (plans_of all.0)) eight all.2; says = subst (λ w. tells w wrote.0) same told.0; ends = told.1 })
        | inr fault ↦ inr (record { fault = located Memory None; left = some.pieces; plans = λ apart. absurd (apart refl); wrote = fault })
      ],
    )

-- the lines were refused
pub not_listed : {E : Type 0} (tells : ReconValue → List ℕ → Type 0) (r : Result Ending E) (tables : ℕ) (fault : LocatedFault) (begin lines : LinesValue) (before now : Option (List ℕ)) → tables ≡ MAX_TABLES
    → Leaves begin lines (λ all left. Opens tables (Err fault) left (plans_of all))
    → IfOk r (EndsAtFault fault before now) → IfOk r (TellsLines tells MAX_TABLES begin before now)
not_listed tells (Err e) tables fault begin lines before now eight opens wrote = tt
not_listed tells (Ok ending) tables fault begin lines before now eight opens wrote =
    let some = some_pieces lines in
    let all = opens some.can_come.0 some.pieces some.can_come.1 in
    (all.0, (some.can_come.0, all.1), wrote.0, wrote.1, inr (record { fault = fault; left = some.pieces; plans = subst (λ n. Opens n (Err fault) some.pieces (plans_of all.0)) eight all.2; wrote = wrote.2 }))
