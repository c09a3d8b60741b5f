-- The clauses of what fits together.
use Rattle.std.proofs.Common.{ℕ, Bool, Result, Ok, Err}
use Rattle.std.specs.Prelude.{IfOk}
use Rattle.std.specs.Bool.{Decides}
use Rattle.std.proofs.lemmas.Bool.Decides.{Decides-like}
use Rattle.sq_gather.specs.Prelude.{FamilyValue, OpeningValue, IsOpening, AreDisjoint, IsOf, Spot, GatheredValue, AllGrown, cut_notes, StandsAt, HasEachPart, FitTogether}
use Rattle.sq_audit.specs.Notes.{LinksPlaced}
use Rattle.sq_audit.specs.Statuses.{CompleteAreLoaded}
use Rattle.sq_audit.specs.Fits.{ArePlaced}
use Rattle.sq_audit.proofs.Apart.{apart}

-- what is known before it is looked at where the families are
pub record FitsSoFar (o : OpeningValue) (g : GatheredValue) : Type 0 where
  pub parts : HasEachPart o g
  pub grown : AllGrown g.statuses
  pub links : LinksPlaced o g
  pub complete : CompleteAreLoaded g

module _ (o : OpeningValue) (is : IsOpening o) (g : GatheredValue) (so_far : FitsSoFar o g) where
  pub notes_apart : AreDisjoint (cut_notes g)
  notes_apart = apart o is g so_far.links so_far.grown

  -- all but where the families are is known
  pub fit_if_placed : {E : Type 0} (r : Result Bool E) → ((spot : Spot) (root : ℕ) (family : FamilyValue) → StandsAt g spot root family → IsOf root family)
      → IfOk r (λ placed. Decides placed (ArePlaced o g)) → IfOk r (λ fit. Decides fit (FitTogether o g))
  fit_if_placed (Ok b) keyed decides =
      Decides-like b
      (λ placed. record { parts = so_far.parts; links = so_far.links; apart = notes_apart; grown = so_far.grown; complete = so_far.complete; placed = placed; keyed = keyed })
      (λ fit. fit.placed)
      decides
  fit_if_placed (Err e) keyed decides = decides
