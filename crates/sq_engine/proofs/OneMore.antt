-- One event more: tests that hold of all events.
use Rattle.std.proofs.Common.{◌≡◌, Bool, true, false, List, [], ◌∷◌, ◌++◌, refl, sym, ap, ◌∙◌}
use Rattle.std.specs.Prelude.{◌&&◌}
use Rattle.std.specs.List.{list_all}
use Rattle.std.proofs.lemmas.List.Folds.{list_all-append}
use Rattle.sq_engine.specs.declared.event.Event.{Event}

and_true : (b : Bool) → b ≡ (b && true)
and_true true = refl
and_true false = refl

and_false : (b : Bool) → false ≡ (b && false)
and_false true = refl
and_false false = refl

module _ (p : Event → Bool) (events : List Event) (event : Event) where
  -- a test that holds of one event more
  pub still_all : p event ≡ true → list_all p (events ++ event ∷ []) ≡ list_all p events
  still_all here =
      list_all-append p events (event ∷ []) ∙ ap (λ (b : Bool). list_all p events && (b && true)) here ∙ sym (and_true (list_all p events))

  -- and one that doesn't
  pub not_all : p event ≡ false → list_all p (events ++ event ∷ []) ≡ false
  not_all here =
      list_all-append p events (event ∷ []) ∙ ap (λ (b : Bool). list_all p events && (b && true)) here ∙ sym (and_false (list_all p events))
