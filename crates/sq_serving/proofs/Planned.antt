-- Where an engine that was served ends, and what its desk wrote by then.
use Rattle.std.proofs.Common.{◌≡◌, inl, inr, ℕ, Bool, List, [], ◌∷◌, ap, ◌∙◌}
use Rattle.sq_moves.specs.OpeningValue.{OpeningValue}
use Rattle.sq_engine.specs.declared.event.Event.{Event}
use Rattle.sq_engine.specs.Values.{EngineValue}
use Rattle.sq_engine.proofs.Endings.{ends_as_planned}
use Rattle.sq_serving.specs.declared.desk.Wish.{Wish}
use Rattle.sq_serving.specs.declared.desk.Wish.TheVariants as wish
use Rattle.sq_serving.specs.Becoming.{ServeDeskValue}
use Rattle.sq_serving.specs.Events.{ServeEvent, Flushed, EpochServed, MoveEnded, Granted, ChangesEngine, Happens, HappenEach}
use Rattle.sq_serving.specs.Planned.{IsServedAndClosed, EndsServingAsPlanned}

module _ (saves : List ℕ → List ℕ → Bool → Type 0) where
  -- whatever happens, the engine has opened with the same opening
  changes_first : (asked : Wish) (more : List Event) (old new : EngineValue) → ChangesEngine asked more old new → new.first ≡ old.first
  changes_first (wish.Move move) more old new changes = elim changes [
    | inl begun ↦ begun.0.first
    | inr stays ↦ ap (λ (e : EngineValue). e.first) stays.0
  ]
  changes_first (wish.Rows rows) more old new changes = ap (λ (e : EngineValue). e.first) changes.0.same
  changes_first wish.Close more old new changes = ap (λ (e : EngineValue). e.first) changes.0

  happens_first : (event : ServeEvent) (old : EngineValue) (before : ServeDeskValue) (new : EngineValue) (after : ServeDeskValue)
      → Happens saves event old before new after → new.first ≡ old.first
  happens_first Flushed old before new after is = ap (λ (e : EngineValue). e.first) is.0
  happens_first (EpochServed more) old before new after is = is.0.epoch.first
  happens_first MoveEnded old before new after is = ap (λ (e : EngineValue). e.first) is.0
  happens_first (Granted asked more) old before new after is = changes_first asked more old new is.engine

  pub same_first : (events : List ServeEvent) (old : EngineValue) (before : ServeDeskValue) (new : EngineValue) (after : ServeDeskValue)
      → HappenEach saves events old before new after → new.first ≡ old.first
  same_first [] old before new after same = ap (λ (e : EngineValue). e.first) same.0
  same_first (event ∷ events) old before new after each =
      same_first events each.0 each.1 new after each.3 ∙ happens_first event old before each.0 each.1 each.2

  -- an engine that was served and closed ended as planned
  pub served_planned : (o : OpeningValue) (closed : EngineValue) → IsServedAndClosed saves o closed → EndsServingAsPlanned o closed
  served_planned o closed is = record {
    first =
        ap (λ (e : EngineValue). e.first) is.closed_after.keeps.same
        ∙ same_first is.events is.engine is.before is.last is.after is.happened ∙ is.opened.first;
    planned = ends_as_planned closed is.reached is.closed_after.ends;
  }
