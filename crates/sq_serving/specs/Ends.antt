-- How an engine that is served ends.
use Rattle.std.specs.Prelude.{◌≡◌, ◌⊎◌, ◌^◌, ◌<◌, ◌==◌, ℕ, true, false, Bool, not, List, length, sum_by, count_by, Option, Some, unwrap_or}
use Rattle.sq_schema.specs.Family.{rows_of}
use Rattle.sq_audit.specs.declared.verdict.Verdict.TheVariants as verdict
use Rattle.sq_audit.specs.declared.verdict.Defect.TheVariants.{ReceiptUnknown}
use Rattle.sq_store.specs.StoreValue.{StoreValue}
use Rattle.sq_store.specs.InOrder.{families_in}
use Rattle.sq_engine.specs.declared.serving.EpochEnd.{EpochEnd}
use Rattle.sq_engine.specs.declared.serving.EpochEnd.TheVariants as epoch
use Rattle.sq_engine.specs.Values.{EngineValue}
use Rattle.sq_engine.specs.Engine.{Keeps, HasBegunMove, HasClosed, rows_in, verdict_on}
use Rattle.sq_engine.specs.Ending.{logged_in}
use Rattle.sq_serving.specs.declared.desk.AskedMove.{AskedMove}
use Rattle.sq_serving.specs.declared.desk.Wish.TheVariants as wish
use Rattle.sq_serving.specs.declared.ending.InputOutcome.{InputOutcome}
use Rattle.sq_serving.specs.declared.ending.InputOutcome.TheVariants.{Broken}
use Rattle.sq_serving.specs.declared.ending.ServeEnding.{ServeEnding}
use Rattle.sq_serving.specs.declared.ending.ServeEnding.TheVariants.{Sound, Unsound, NoHeader, Memory, Threads, Unwritten}
use Rattle.sq_serving.specs.Becoming.{ServeDeskValue, Speaks, TakesWish}
use Rattle.sq_serving.specs.Ending.{EndsStopped}
use Rattle.sq_serving.specs.Written.{EpochIsWritten}
use Rattle.sq_serving.specs.Events.{ServeEvent, HappenEach}

-- how an engine ends after an epoch that ended like this
abbrev pub IsEnding : EpochEnd → ServeEnding → Type 0
IsEnding epoch.Whole ending = ⊥
IsEnding epoch.LacksThreads ending = ending ≡ Threads
IsEnding epoch.ReceiptUnknown ending = ending ≡ Unsound ReceiptUnknown
IsEnding epoch.LacksMemory ending = ending ≡ Memory
IsEnding epoch.ReceiptLost ending = ending ≡ Memory

-- how many families in a store have rows
abbrev pub families_with_rows : StoreValue → ℕ
families_with_rows store = count_by (λ family. not (length (rows_of family) == 0)) (families_in store)

-- this number of families in stores have rows, and their logs have this number of transactions, if
-- 64 bits count them
pub record AreTotals (stores : List StoreValue) (families committed : ℕ) : Type 0 where
  pub families_are : sum_by families_with_rows stores < 2 ^ 64 → families ≡ sum_by families_with_rows stores
  pub committed_are : sum_by logged_in stores < 2 ^ 64 → committed ≡ sum_by logged_in stores

-- an engine that is closed has these totals
abbrev pub HasTotals : EngineValue → ℕ → ℕ → Type 0
HasTotals engine families committed =
    (stores : List StoreValue) × (rows_in engine ≡ Some stores) × AreTotals stores families committed

-- the ending of a closed engine, by the verdict on it, and by how its input ended
abbrev pub ClosedEndsBy : EngineValue → Option InputOutcome → ServeEnding → Type 0
ClosedEndsBy closed ended (Sound families committed input) =
    (verdict_on closed.jobs ≡ verdict.Sound) × HasTotals closed families committed × (input ≡ unwrap_or ended Broken)
ClosedEndsBy closed ended (Unsound defect) = verdict_on closed.jobs ≡ verdict.Unsound defect
ClosedEndsBy closed ended (NoHeader fault) = ⊥
ClosedEndsBy closed ended Memory = ⊥
ClosedEndsBy closed ended Threads = ⊥
ClosedEndsBy closed ended Unwritten = ⊥

-- a desk hasn't stopped, so all that it had to write is written; and no job waits
pub record IsCleared (desk : ServeDeskValue) : Type 0 where
  pub still : desk.has_stopped ≡ false
  pub none_waits : sum_by length desk.waiting ≡ 0

-- an engine was closed at a desk where no job waits, and ends by the verdict on it
pub record EndsClosed (ending : ServeEnding) (old : EngineValue) (before : ServeDeskValue) (last : EngineValue) (after : ServeDeskValue) : Type 0 where
  pub takes : TakesWish (Some wish.Close) before after
  pub cleared : IsCleared after
  pub closed : HasClosed old last
  pub ends : ClosedEndsBy last after.ended ending

-- an epoch ended an engine: a thread, memory or a receipt was missing, or a receipt was no open job's
pub record EndsInEpoch (ending : ServeEnding) (old : EngineValue) (before : ServeDeskValue) (last : EngineValue) (after : ServeDeskValue) : Type 0 where
  pub how : EpochEnd
  pub is : IsEnding how ending
  pub epoch : EpochIsWritten old before how last after

-- memory ran out: before an epoch, at the end of a move, or for a wish, whose move may have begun
abbrev pub EndsForMemory : ServeEnding → EngineValue → ServeDeskValue → EngineValue → ServeDeskValue → Type 0
EndsForMemory ending old before last after =
    (ending ≡ Memory) × Speaks before after
    × (Keeps old last ⊎ ((asked : AskedMove) × (between : ServeDeskValue)
    × TakesWish (Some (wish.Move asked)) before between × HasBegunMove asked.plan asked.limit old last))

-- nothing more could be written, or memory ran out at the desk
abbrev pub EndsAtDesk : ServeEnding → EngineValue → ServeDeskValue → EngineValue → ServeDeskValue → Type 0
EndsAtDesk ending old before last after =
    EndsStopped ending × (last ≡ old) × (after.has_stopped ≡ true) × Speaks before after

-- how an engine ended, which was `old` before and is `last` then
abbrev pub EndsBy : ServeEnding → EngineValue → ServeDeskValue → EngineValue → ServeDeskValue → Type 0
EndsBy ending old before last after =
    EndsClosed ending old before last after ⊎ EndsInEpoch ending old before last after
    ⊎ EndsForMemory ending old before last after ⊎ EndsAtDesk ending old before last after

-- an engine was served until it ended with `ending`, and is `last` then
pub record HasEndedServing (saves : List ℕ → List ℕ → Bool → Type 0) (old : EngineValue) (before : ServeDeskValue)
    (ending : ServeEnding) (last : EngineValue) (after : ServeDeskValue) : Type 0 where
  pub events : List ServeEvent
  pub served : EngineValue
  pub between : ServeDeskValue
  pub happened : HappenEach saves events old before served between
  pub ends : EndsBy ending served between last after

-- how a desk without jobs that wait ends an engine: it closes it, has stopped, or memory ran out
abbrev pub ClosesWith : ServeEnding → EngineValue → EngineValue → ServeDeskValue → Type 0
ClosesWith ending old last desk =
    (HasClosed old last × ClosedEndsBy last desk.ended ending × IsCleared desk)
    ⊎ (EndsStopped ending × (last ≡ old) × (desk.has_stopped ≡ true))
    ⊎ ((ending ≡ Memory) × Keeps old last)
