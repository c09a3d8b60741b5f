-- What happens to an engine that is served, one thing after another.
use Rattle.std.proofs.Common.{◌≡◌, inl, inr, ℕ, Bool, List, [], ◌∷◌, ◌++◌, refl, sym, ap, ◌∙◌, subst, append_assoc, append-nil}
use Rattle.std.specs.Prelude.{Result, Ok, Err}
use Rattle.sq_engine.specs.declared.event.Event.{Event}
use Rattle.sq_engine.specs.declared.serving.EpochEnd.TheVariants.{Whole}
use Rattle.sq_engine.specs.Values.{EngineValue}
use Rattle.sq_serving.specs.declared.desk.Wish.{Wish}
use Rattle.sq_serving.specs.declared.desk.Wish.TheVariants as wish
use Rattle.sq_serving.specs.declared.ending.ServeEnding.{ServeEnding}
use Rattle.sq_serving.specs.declared.ending.ServeEnding.TheVariants.{Sound, Unsound, NoHeader, Memory, Threads, Unwritten}
use Rattle.sq_serving.specs.Becoming.{ServeDeskValue, Speaks, WritesBytes}
use Rattle.sq_serving.specs.Written.{EpochIsWritten}
use Rattle.sq_serving.specs.Wishes.{EndsMove}
use Rattle.sq_serving.specs.Events.{ServeEvent, Flushed, EpochServed, MoveEnded, Granted, ChangesEngine, IsGranted, Happens, HappenEach, added, all_added, HasServed}
use Rattle.sq_serving.specs.Ends.{EndsBy, HasEndedServing}
use Rattle.sq_serving.specs.Service.{ServesNone}
use Rattle.sq_serving.specs.Steps.{EndsForWant, StepGives}

module _ (saves : List ℕ → List ℕ → Bool → Type 0) where
  happen_on : (first more : List ServeEvent) (old : EngineValue) (before : ServeDeskValue) (mid : EngineValue) (between : ServeDeskValue)
      (new : EngineValue) (after : ServeDeskValue)
      → HappenEach saves first old before mid between → HappenEach saves more mid between new after
      → HappenEach saves (first ++ more) old before new after
  happen_on [] more old before mid between new after same goes =
      subst (λ (p : EngineValue × ServeDeskValue). HappenEach saves more p.0 p.1 new after) (λ i. (same.0 i, same.1 i)) goes
  happen_on (event ∷ first) more old before mid between new after each goes =
      (each.0, each.1, each.2, happen_on first more each.0 each.1 mid between new after each.3 goes)

  -- nothing has happened yet, one thing has, or more has
  pub not_yet : (engine : EngineValue) (desk : ServeDeskValue) → HasServed saves engine desk engine desk
  not_yet engine desk = record { events = []; happened = (refl, refl) }

  one_happened : (event : ServeEvent) (old : EngineValue) (before : ServeDeskValue) (new : EngineValue) (after : ServeDeskValue)
      → Happens saves event old before new after → HasServed saves old before new after
  one_happened event old before new after is = record { events = event ∷ []; happened = (new, after, is, (refl, refl)) }

  pub served_then : (old : EngineValue) (before : ServeDeskValue) (mid : EngineValue) (between : ServeDeskValue) (new : EngineValue) (after : ServeDeskValue)
      → HasServed saves old before mid between → HasServed saves mid between new after → HasServed saves old before new after
  served_then old before mid between new after was next = record {
    events = was.events ++ next.events;
    happened = happen_on was.events next.events old before mid between new after was.happened next.happened;
  }

  pub served_ends : (old : EngineValue) (before : ServeDeskValue) (mid : EngineValue) (between : ServeDeskValue) (ending : ServeEnding)
      (last : EngineValue) (after : ServeDeskValue)
      → HasServed saves old before mid between → HasEndedServing saves mid between ending last after → HasEndedServing saves old before ending last after
  served_ends old before mid between ending last after was ends = record {
    events = was.events ++ ends.events;
    served = ends.served;
    between = ends.between;
    happened = happen_on was.events ends.events old before mid between ends.served ends.between was.happened ends.happened;
    ends = ends.ends;
  }

  pub ends_now : (old : EngineValue) (before : ServeDeskValue) (ending : ServeEnding) (last : EngineValue) (after : ServeDeskValue)
      → EndsBy ending old before last after → HasEndedServing saves old before ending last after
  ends_now old before ending last after ends =
      record { events = []; served = old; between = before; happened = (refl, refl); ends = ends }

  pub served_steps : {A : Type 0} (old : EngineValue) (before : ServeDeskValue) (mid : EngineValue) (between : ServeDeskValue)
      (result : Result A ServeEnding) (new : EngineValue) (after : ServeDeskValue)
      → HasServed saves old before mid between → StepGives saves mid between result new after → StepGives saves old before result new after
  served_steps old before mid between (Ok step) new after was gives = served_then old before mid between new after was gives
  served_steps old before mid between (Err ending) new after was gives = served_ends old before mid between ending new after was gives

  -- the output was flushed, an epoch was served, a move has ended, or a wish was granted
  pub flushed : (engine : EngineValue) (before after : ServeDeskValue) → WritesBytes [] before after → HasServed saves engine before engine after
  flushed engine before after writes = one_happened Flushed engine before engine after (refl, writes)

  pub epoch_served : (old : EngineValue) (before : ServeDeskValue) (new : EngineValue) (after : ServeDeskValue)
      → EpochIsWritten old before Whole new after → HasServed saves old before new after
  epoch_served old before new after epoch = one_happened (EpochServed epoch.more) old before new after (epoch, refl)

  pub move_ended : (engine : EngineValue) (before after : ServeDeskValue) → EndsMove engine before after → Speaks before after
      → HasServed saves engine before engine after
  move_ended engine before after ends speaks = one_happened MoveEnded engine before engine after (refl, ends, speaks)

  pub granted : (asked : Wish) (more : List Event) (old : EngineValue) (before : ServeDeskValue) (new : EngineValue) (after : ServeDeskValue)
      → IsGranted saves asked more old before new after → HasServed saves old before new after
  granted asked more old before new after is = one_happened (Granted asked more) old before new after is

  -- how the events of an engine grow
  added_by : (event : ServeEvent) (old : EngineValue) (before : ServeDeskValue) (new : EngineValue) (after : ServeDeskValue)
      → Happens saves event old before new after → new.jobs.events ≡ old.jobs.events ++ added event
  added_by Flushed old before new after is =
      ap (λ (e : EngineValue). e.jobs.events) is.0 ∙ sym (append-nil old.jobs.events)
  added_by (EpochServed more) old before new after is =
      is.0.epoch.runs.jobs.events ∙ ap (λ (list : List Event). old.jobs.events ++ list) (sym is.1)
  added_by MoveEnded old before new after is =
      ap (λ (e : EngineValue). e.jobs.events) is.0 ∙ sym (append-nil old.jobs.events)
  added_by (Granted asked more) old before new after is = grants_add asked more old new is.engine
    where
      grants_add : (asked : Wish) (more : List Event) (old new : EngineValue) → ChangesEngine asked more old new
          → new.jobs.events ≡ old.jobs.events ++ more
      grants_add (wish.Move move) more old new changes = elim changes [
        | inl begun ↦ begun.0.adds.events ∙ ap (λ (list : List Event). old.jobs.events ++ list) (sym begun.1)
        | inr stays ↦
            ap (λ (e : EngineValue). e.jobs.events) stays.0 ∙ sym (append-nil old.jobs.events)
            ∙ ap (λ (list : List Event). old.jobs.events ++ list) (sym stays.1)
      ]
      grants_add (wish.Rows rows) more old new changes =
          ap (λ (e : EngineValue). e.jobs.events) changes.0.same ∙ sym (append-nil old.jobs.events)
          ∙ ap (λ (list : List Event). old.jobs.events ++ list) (sym changes.1)
      grants_add wish.Close more old new changes =
          ap (λ (e : EngineValue). e.jobs.events) changes.0 ∙ sym (append-nil old.jobs.events)
          ∙ ap (λ (list : List Event). old.jobs.events ++ list) (sym changes.1)

  pub events_grow : (events : List ServeEvent) (old : EngineValue) (before : ServeDeskValue) (new : EngineValue) (after : ServeDeskValue)
      → HappenEach saves events old before new after → new.jobs.events ≡ old.jobs.events ++ all_added events
  events_grow [] old before new after same =
      ap (λ (e : EngineValue). e.jobs.events) same.0 ∙ sym (append-nil old.jobs.events)
  events_grow (event ∷ events) old before new after each =
      events_grow events each.0 each.1 new after each.3
      ∙ ap (λ (list : List Event). list ++ all_added events) (added_by event old before each.0 each.1 each.2)
      ∙ append_assoc old.jobs.events (added event) (all_added events)

-- for want of memory or of a thread nothing is served
pub want_serves_none : (ending : ServeEnding) → EndsForWant ending → ServesNone ending
want_serves_none Memory want = tt
want_serves_none Threads want = tt
want_serves_none (Sound families committed input) want = absurd want
want_serves_none (Unsound defect) want = absurd want
want_serves_none (NoHeader fault) want = absurd want
want_serves_none Unwritten want = absurd want
