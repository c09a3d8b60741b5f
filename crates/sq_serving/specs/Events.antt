-- What happens to an engine that is served, and what its desk writes meanwhile.
use Rattle.std.specs.Prelude.{◌≡◌, ◌⊎◌, ℕ, Bool, List, [], ◌∷◌, Some}
use Rattle.std.specs.List.{flat_map}
use Rattle.sq_engine.specs.declared.event.Event.{Event}
use Rattle.sq_engine.specs.declared.event.Event.TheVariants.{MovesTo}
use Rattle.sq_engine.specs.declared.serving.EpochEnd.TheVariants.{Whole}
use Rattle.sq_engine.specs.Values.{EngineValue}
use Rattle.sq_engine.specs.Engine.{Keeps, HasBegunMove}
use Rattle.sq_serving.specs.declared.desk.Wish.{Wish}
use Rattle.sq_serving.specs.declared.desk.Wish.TheVariants as wish
use Rattle.sq_serving.specs.Becoming.{ServeDeskValue, Speaks, WritesBytes, TakesWish}
use Rattle.sq_serving.specs.Written.{EpochIsWritten}
use Rattle.sq_serving.specs.Rows.{TellsRows}
use Rattle.sq_serving.specs.Wishes.{EndsMove, AnswersWish}

-- the output was flushed; an epoch was served in which these events were added to those of the
-- engine; a move has ended; or a wish was granted, by which events were added too
pub data ServeEvent : Type 0 where
  Flushed : ServeEvent
  EpochServed : (more : List Event) → ServeEvent
  MoveEnded : ServeEvent
  Granted : (asked : Wish) → (more : List Event) → ServeEvent

-- how a wish changes an engine, and which events it adds: a move that isn't refused has its event
abbrev pub ChangesEngine : Wish → List Event → EngineValue → EngineValue → Type 0
ChangesEngine (wish.Move asked) more old new =
    (HasBegunMove asked.plan asked.limit old new × (more ≡ MovesTo asked.plan ∷ [])) ⊎ ((new ≡ old) × (more ≡ []))
ChangesEngine (wish.Rows asked) more old new = Keeps old new × (more ≡ [])
ChangesEngine wish.Close more old new = (new ≡ old) × (more ≡ [])

-- what is written of a wish: rows, or other lines
abbrev pub WritesOf : Wish → EngineValue → ServeDeskValue → ServeDeskValue → Type 0
WritesOf (wish.Move asked) engine before after = Speaks before after
WritesOf (wish.Rows asked) engine before after = TellsRows engine before after ⊎ Speaks before after
WritesOf wish.Close engine before after = after ≡ before

-- a wish was taken and granted
pub record IsGranted (saves : List ℕ → List ℕ → Bool → Type 0) (asked : Wish) (more : List Event)
    (old : EngineValue) (before : ServeDeskValue) (new : EngineValue) (after : ServeDeskValue) : Type 0 where
  pub between : ServeDeskValue
  pub takes : TakesWish (Some asked) before between
  pub engine : ChangesEngine asked more old new
  pub answers : AnswersWish saves asked old between new after
  pub writes : WritesOf asked new between after

-- what happens to an engine and to its desk
abbrev pub Happens : (List ℕ → List ℕ → Bool → Type 0) → ServeEvent → EngineValue → ServeDeskValue → EngineValue → ServeDeskValue → Type 0
Happens saves Flushed old before new after = (new ≡ old) × WritesBytes [] before after
Happens saves (EpochServed more) old before new after =
    (epoch : EpochIsWritten old before Whole new after) × (more ≡ epoch.more)
Happens saves MoveEnded old before new after = (new ≡ old) × EndsMove old before after × Speaks before after
Happens saves (Granted asked more) old before new after = IsGranted saves asked more old before new after

-- what happens, one after another, to an engine and its desk
abbrev pub HappenEach : (List ℕ → List ℕ → Bool → Type 0) → List ServeEvent → EngineValue → ServeDeskValue → EngineValue → ServeDeskValue → Type 0
HappenEach saves [] old before new after = (new ≡ old) × (after ≡ before)
HappenEach saves (event ∷ events) old before new after =
    (mid : EngineValue) × (between : ServeDeskValue) × Happens saves event old before mid between × HappenEach saves events mid between new after

abbrev pub added : ServeEvent → List Event
added Flushed = []
added (EpochServed more) = more
added MoveEnded = []
added (Granted asked more) = more

-- the events that were added to those of the engine, in their order
abbrev pub all_added : List ServeEvent → List Event
all_added events = flat_map added events

-- an engine was served for a while, and no answer is missing
pub record HasServed (saves : List ℕ → List ℕ → Bool → Type 0) (old : EngineValue) (before : ServeDeskValue)
    (new : EngineValue) (after : ServeDeskValue) : Type 0 where
  pub events : List ServeEvent
  pub happened : HappenEach saves events old before new after
