-- Where an engine that was served ends.
use Rattle.std.specs.Prelude.{◌≡◌, ◌<◌, ◌^◌, ℕ, Bool, List}
use Rattle.sq_moves.specs.OpeningValue.{OpeningValue}
use Rattle.sq_engine.specs.Values.{EngineValue}
use Rattle.sq_engine.specs.Engine.{IsReached, HasOpened, HasClosed}
use Rattle.sq_engine.specs.Events.{answers_in}
use Rattle.sq_engine.specs.Ending.{EndsAsPlanned, HasAnsweredAll, commits_in}
use Rattle.sq_serving.specs.Becoming.{ServeDeskValue}
use Rattle.sq_serving.specs.Written.{WritesEach}
use Rattle.sq_serving.specs.Events.{ServeEvent, HappenEach}
use Rattle.sq_serving.specs.Ends.{HasTotals}

-- an engine with this opening was served by a desk that began as `before`: all its events are those
-- in which the desk wrote each answer that it was given
pub record IsServedFrom (o : OpeningValue) (before : ServeDeskValue) (last : EngineValue) (after : ServeDeskValue) : Type 0 where
  pub reached : IsReached last
  pub first : last.first ≡ o
  pub writes : WritesEach last.jobs.events before after

-- an engine with this opening was served and closed
pub record IsServedAndClosed (saves : List ℕ → List ℕ → Bool → Type 0) (o : OpeningValue) (closed : EngineValue) : Type 0 where
  pub engine : EngineValue
  pub last : EngineValue
  pub before : ServeDeskValue
  pub after : ServeDeskValue
  pub events : List ServeEvent
  pub opened : HasOpened o engine
  pub happened : HappenEach saves events engine before last after
  pub closed_after : HasClosed last closed
  pub reached : IsReached closed

-- an engine with this opening was closed where planned
pub record EndsServingAsPlanned (o : OpeningValue) (closed : EngineValue) : Type 0 where
  pub first : closed.first ≡ o
  pub planned : EndsAsPlanned closed

-- an engine with this opening ended sound with these totals: it was closed where planned, each job
-- that was posted was answered once, by the receipt of its transaction, and of the answers this
-- number are commits, if 64 bits count them
pub record EndsServingSoundly (o : OpeningValue) (families committed : ℕ) (closed : EngineValue) : Type 0 where
  pub ends : EndsServingAsPlanned o closed
  pub totals : HasTotals closed families committed
  pub answered : HasAnsweredAll closed
  pub commits : commits_in (answers_in closed.jobs.events) < 2 ^ 64 → committed ≡ commits_in (answers_in closed.jobs.events)
