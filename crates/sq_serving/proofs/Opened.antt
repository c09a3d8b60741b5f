-- An engine that is opened and served, with its desk.
use Rattle.std.proofs.Common.{⊎_elim, inl, inr, ℕ, Bool, List, sym, subst}
use Rattle.std.specs.Prelude.{Option}
use Rattle.sq_moves.specs.OpeningValue.{OpeningValue}
use Rattle.sq_serving.specs.declared.ending.ServeEnding.{ServeEnding}
use Rattle.sq_serving.specs.declared.outlet.Outlet.{Outlet}
use Rattle.sq_serving.specs.Service.{first_desk, ServesNone, ServesOpening, ServesSome}

module _ {W : Type 0} (strict : Bool) (saves : List ℕ → List ℕ → Bool → Type 0) (contents : W → Option (List ℕ)) where
  -- an engine with some opening was served, or there was no memory for it
  pub opening_serves_some : (o : OpeningValue) (outlet : Outlet W) (ending : ServeEnding) (new : Outlet W)
      → ServesOpening saves contents o (first_desk strict contents outlet o.new) outlet ending new → ServesSome strict saves contents outlet ending new
  opening_serves_some o outlet ending new serves =
      ⊎_elim
      (λ served. inl (o, served))
      (λ none. inr (subst ServesNone (sym none.0) tt, none.1))
      serves
