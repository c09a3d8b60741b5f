-- The outcome of a step of an engine that is served.
use Rattle.std.specs.Prelude.{◌≡◌, ◌⊎◌, ℕ, Bool, List, Result, Ok, Err}
use Rattle.sq_engine.specs.declared.engine.Served.{Served}
use Rattle.sq_engine.specs.declared.serving.EpochEnd.{EpochEnd}
use Rattle.sq_engine.specs.declared.serving.EpochEnd.TheVariants.{Whole}
use Rattle.sq_engine.specs.Values.{EngineValue}
use Rattle.sq_engine.specs.Engine.{Keeps, HasBegunMove}
use Rattle.sq_engine.specs.declared.event.Event.{Event}
use Rattle.sq_serving.specs.declared.desk.AskedMove.{AskedMove}
use Rattle.sq_serving.specs.declared.desk.Wish.{Wish}
use Rattle.sq_serving.specs.declared.desk.Wish.TheVariants as wish
use Rattle.sq_serving.specs.declared.ending.ServeEnding.{ServeEnding}
use Rattle.sq_serving.specs.declared.ending.ServeEnding.TheVariants.{Sound, Unsound, NoHeader, Memory, Threads, Unwritten}
use Rattle.sq_serving.specs.Becoming.{ServeDeskValue, Speaks}
use Rattle.sq_serving.specs.Written.{EpochIsWritten}
use Rattle.sq_serving.specs.Events.{ChangesEngine, WritesOf, HasServed}
use Rattle.sq_serving.specs.Ends.{IsEnding, EndsInEpoch, HasEndedServing, ClosesWith}

-- an engine ends because memory ran out or a thread was missing
abbrev pub EndsForWant : ServeEnding → Type 0
EndsForWant Memory = Unit {0}
EndsForWant Threads = Unit {0}
EndsForWant (Sound families committed input) = ⊥
EndsForWant (Unsound defect) = ⊥
EndsForWant (NoHeader fault) = ⊥
EndsForWant Unwritten = ⊥

-- an engine goes on after an epoch that ended like this, or ends
abbrev pub IsEndBy : {A : Type 0} → EpochEnd → Result A ServeEnding → Type 0
IsEndBy end (Ok step) = end ≡ Whole
IsEndBy end (Err ending) = IsEnding end ending

-- the same of an epoch that was served, or for which memory was lacking
abbrev pub IsEndOf : {A E : Type 0} → Result Served E → Result A ServeEnding → Type 0
IsEndOf (Ok served) result = IsEndBy served.end result
IsEndOf (Err lack) (Ok step) = ⊥
IsEndOf (Err lack) (Err ending) = ending ≡ Memory

-- an epoch was served, and the engine goes on; or it ends for how the epoch ended, or since memory
-- ran out before it
abbrev pub EpochGives : {A : Type 0} → EngineValue → ServeDeskValue → Result A ServeEnding → EngineValue → ServeDeskValue → Type 0
EpochGives old before (Ok step) new after = EpochIsWritten old before Whole new after
EpochGives old before (Err ending) new after =
    EndsInEpoch ending old before new after ⊎ ((ending ≡ Memory) × Keeps old new × (after ≡ before))

-- the move that a line asks for began, or the engine is as it was, and other lines were written; or
-- memory ran out
abbrev pub MovesOrLacksMemory : {A : Type 0} → AskedMove → EngineValue → ServeDeskValue → Result A ServeEnding → EngineValue → ServeDeskValue → Type 0
MovesOrLacksMemory asked old before (Ok step) new after =
    (HasBegunMove asked.plan asked.limit old new ⊎ (new ≡ old)) × Speaks before after
MovesOrLacksMemory asked old before (Err ending) new after =
    (ending ≡ Memory) × (HasBegunMove asked.plan asked.limit old new ⊎ Keeps old new) × Speaks before after

-- how an engine ends in place of granting a wish that was taken: memory ran out for a move, which
-- may have begun; or to close is what was wished, and the engine was closed or had to end
abbrev pub EndsGranting : Wish → ServeEnding → EngineValue → ServeDeskValue → EngineValue → ServeDeskValue → Type 0
EndsGranting (wish.Move asked) ending old before new after =
    (ending ≡ Memory) × (HasBegunMove asked.plan asked.limit old new ⊎ Keeps old new) × Speaks before after
EndsGranting (wish.Rows asked) ending old before new after = ⊥
EndsGranting wish.Close ending old before new after = ClosesWith ending old new after × (after ≡ before)

-- a wish that was taken is granted, by which these events were added; or the engine has ended
abbrev pub GrantsTaken : {A : Type 0} → Wish → EngineValue → ServeDeskValue → Result A ServeEnding → EngineValue → ServeDeskValue → Type 0
GrantsTaken asked old before (Ok step) new after =
    (more : List Event) × ChangesEngine asked more old new × WritesOf asked new before after
GrantsTaken asked old before (Err ending) new after = EndsGranting asked ending old before new after

-- an engine continues to be served, or has ended
abbrev pub StepGives : {A : Type 0} → (List ℕ → List ℕ → Bool → Type 0) → EngineValue → ServeDeskValue → Result A ServeEnding → EngineValue → ServeDeskValue → Type 0
StepGives saves old before (Ok step) new after = HasServed saves old before new after
StepGives saves old before (Err ending) new after = HasEndedServing saves old before ending new after
