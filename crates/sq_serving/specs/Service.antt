-- An engine that is served from its opening to its end.
use Rattle.std.specs.Prelude.{◌≡◌, ◌⊎◌, false, ℕ, ◌^◌, ◌<◌, Bool, List, [], ◌++◌, replicate, Option, None, Some}
use Rattle.std.specs.List.{flat_map}
use Rattle.std.specs.Io.KnownBytes.{Appends}
use Rattle.sq_plan.specs.PlanValue.{PlanValue}
use Rattle.sq_moves.specs.OpeningValue.{OpeningValue, unlimited}
use Rattle.sq_engine.specs.Values.{EngineValue}
use Rattle.sq_engine.specs.Engine.{HasOpened, rows_in}
use Rattle.sq_engine.specs.Ending.{commits_in}
use Rattle.sq_serving.specs.declared.ending.ServeEnding.{ServeEnding}
use Rattle.sq_serving.specs.declared.ending.ServeEnding.TheVariants.{Sound, Unsound, NoHeader, Memory, Threads, Unwritten}
use Rattle.sq_serving.specs.declared.feed.Fed.{Fed}
use Rattle.sq_serving.specs.declared.outlet.Outlet.{Outlet}
use Rattle.sq_serving.specs.Becoming.{ServeDeskValue, new_desk}
use Rattle.sq_serving.specs.Rows.{LeavesRows}
use Rattle.sq_serving.specs.InputEnds.{KnowsEnd}
use Rattle.sq_serving.specs.Written.{SaidLine, receipts_said, said_line}
use Rattle.sq_serving.specs.Ends.{HasEndedServing}
use Rattle.sq_serving.specs.Planned.{IsServedFrom, EndsServingSoundly}
use Rattle.sq_serving.specs.Telling.{IsLineOfEnding, TellsEnding}

-- an engine was served until it ended with `ending`, is `last` then, and the outlet holds what its
-- desk wrote by then
pub record HasEndedWithOutlet {W : Type 0} (saves : List ℕ → List ℕ → Bool → Type 0) (contents : W → Option (List ℕ)) (engine : EngineValue) (before : ServeDeskValue)
    (ending : ServeEnding) (last : EngineValue) (outlet : Outlet W) : Type 0 where
  pub after : ServeDeskValue
  pub ended : HasEndedServing saves engine before ending last after
  pub written : contents outlet.writer ≡ after.written
  pub failed : outlet.has_failed ≡ after.has_failed

-- a desk for the partitions of a plan that is in force, to which nothing was handed on yet, and
-- which has written what an outlet holds
abbrev pub first_desk : {W : Type 0} → Bool → (W → Option (List ℕ)) → Outlet W → PlanValue → ServeDeskValue
first_desk strict contents outlet plan =
    new_desk contents outlet [] (replicate plan.parts []) plan strict

-- if the engine ends sound, it has answered all and ends as planned, with these totals
abbrev pub SoundAsPlanned : OpeningValue → ServeEnding → EngineValue → Type 0
SoundAsPlanned o (Sound families committed input) last = EndsServingSoundly o families committed last
SoundAsPlanned o (Unsound defect) last = Unit {0}
SoundAsPlanned o (NoHeader fault) last = Unit {0}
SoundAsPlanned o Memory last = Unit {0}
SoundAsPlanned o Threads last = Unit {0}
SoundAsPlanned o Unwritten last = Unit {0}

-- the rows of all partitions were left of an engine that was closed
abbrev pub LeavesAtEnd : (Option (List ℕ) → Type 0) → ServeEnding → EngineValue → Type 0
LeavesAtEnd leaves (Sound families committed input) last = LeavesRows leaves (rows_in last)
LeavesAtEnd leaves (Unsound defect) last = LeavesRows leaves (rows_in last)
LeavesAtEnd leaves (NoHeader fault) last = Unit {0}
LeavesAtEnd leaves Memory last = Unit {0}
LeavesAtEnd leaves Threads last = Unit {0}
LeavesAtEnd leaves Unwritten last = Unit {0}

-- an engine with this opening, whose logs have no limit, was served, by a desk that began as
-- `before`, until it ended with `ending`; whatever the ending, its events are all that happened, and
-- the desk wrote each answer that it was given in them
pub record EngineServes {W : Type 0} (saves : List ℕ → List ℕ → Bool → Type 0) (contents : W → Option (List ℕ)) (o : OpeningValue) (before : ServeDeskValue)
    (ending : ServeEnding) (new : Outlet W) : Type 0 where
  pub engine : EngineValue
  pub opened : HasOpened (unlimited o) engine
  pub last : EngineValue
  pub ended : HasEndedWithOutlet saves contents engine before ending last new
  pub served : IsServedFrom (unlimited o) before last ended.after
  pub sound : SoundAsPlanned (unlimited o) ending last

-- the same, or memory ran out before
abbrev pub ServesOpening : {W : Type 0} → (List ℕ → List ℕ → Bool → Type 0) → (W → Option (List ℕ)) → OpeningValue → ServeDeskValue → Outlet W → ServeEnding → Outlet W → Type 0
ServesOpening saves contents o before outlet ending new =
    EngineServes saves contents o before ending new ⊎ ((ending ≡ Memory) × (new ≡ outlet))

-- nothing was served: the header has a fault, memory ran out, or a thread was missing
abbrev pub ServesNone : ServeEnding → Type 0
ServesNone (NoHeader fault) = Unit {0}
ServesNone Memory = Unit {0}
ServesNone Threads = Unit {0}
ServesNone (Sound families committed input) = ⊥
ServesNone (Unsound defect) = ⊥
ServesNone Unwritten = ⊥

-- an engine with some opening was served, or none was
abbrev pub ServesSome : {W : Type 0} → Bool → (List ℕ → List ℕ → Bool → Type 0) → (W → Option (List ℕ)) → Outlet W → ServeEnding → Outlet W → Type 0
ServesSome strict saves contents outlet ending new =
    ((o : OpeningValue) × EngineServes saves contents o (first_desk strict contents outlet o.new) ending new)
    ⊎ (ServesNone ending × (new ≡ outlet))

-- what a writer holds grew by what an engine with some opening wrote, if one was served, and by the
-- line of its ending
pub record ServesWriter {W : Type 0} (strict : Bool) (saves : List ℕ → List ℕ → Bool → Type 0) (contents : W → Option (List ℕ)) (old new : W) (told : ServeEnding) : Type 0 where
  pub first : Outlet W
  pub first_writer : first.writer ≡ old
  pub ending : ServeEnding
  pub last : Outlet W
  pub served : ServesSome strict saves contents first ending last
  pub end : Outlet W
  pub tells : TellsEnding contents last ending end told
  pub end_writer : end.writer ≡ new

-- a desk as it begins: it has written nothing but `old`, nothing was handed on to it, no job waits,
-- no move is under way, and the plan of the opening is in force
pub record Begins (strict : Bool) (o : OpeningValue) (old : Option (List ℕ)) (desk : ServeDeskValue) : Type 0 where
  pub written : desk.written ≡ old
  pub none_heard : desk.heard ≡ []
  pub none_waits : desk.waiting ≡ replicate o.new.parts []
  pub none_wished : desk.wishes ≡ []
  pub rests : desk.moving ≡ None
  pub standing : desk.standing ≡ record { plan = o.new; answered = 0 }
  pub strict_is : desk.is_strict ≡ strict
  pub goes_on : desk.ended ≡ None

-- the number of commits in the line of a sound ending is that of the lines `commit` before it, if
-- 64 bits count them
abbrev pub CountsCommits : ServeEnding → List SaidLine → Type 0
CountsCommits (Sound families committed input) said =
    commits_in (receipts_said said) < 2 ^ 64 → committed ≡ commits_in (receipts_said said)
CountsCommits (Unsound defect) said = Unit {0}
CountsCommits (NoHeader fault) said = Unit {0}
CountsCommits Memory said = Unit {0}
CountsCommits Threads said = Unit {0}
CountsCommits Unwritten said = Unit {0}

-- the input was taken as far as a sound ending reports: to its end, which was handed on; up to a
-- line that broke it; or, if it is strict, up to a refused line
abbrev pub TookInput : Bool → List Fed → ServeEnding → Type 0
TookInput strict heard (Sound families committed input) = KnowsEnd strict heard (Some input)
TookInput strict heard (Unsound defect) = Unit {0}
TookInput strict heard (NoHeader fault) = Unit {0}
TookInput strict heard Memory = Unit {0}
TookInput strict heard Threads = Unit {0}
TookInput strict heard Unwritten = Unit {0}

-- an engine was served from its opening to its ending, and what a writer holds grew by the line of
-- each answer, once, in the order in which they came, by other lines, and last by the line of the
-- ending
pub record Service (strict : Bool) (saves : List ℕ → List ℕ → Bool → Type 0) (ending : ServeEnding) (old new : Option (List ℕ)) : Type 0 where
  pub opening : OpeningValue
  pub engine : EngineValue
  pub opened : HasOpened opening engine
  pub before : ServeDeskValue
  pub begins : Begins strict opening old before
  pub last : EngineValue
  pub after : ServeDeskValue
  pub ended : HasEndedServing saves engine before ending last after
  pub served : IsServedFrom opening before last after
  pub sound : SoundAsPlanned opening ending last
  pub counts : CountsCommits ending served.writes.said
  pub took : TookInput strict after.heard ending
  pub text : List ℕ
  pub is : IsLineOfEnding ending text
  pub written : Appends old new (flat_map said_line served.writes.said ++ text)

-- nothing was served, and just the line of the ending was written
abbrev pub OnlyEnds : ServeEnding → Option (List ℕ) → Option (List ℕ) → Type 0
OnlyEnds ending old new = ServesNone ending × (text : List ℕ) × IsLineOfEnding ending text × Appends old new text

-- an engine was served or not, until it ended as is told; if a write failed, its own ending isn't
-- told
abbrev pub Serves : Bool → (List ℕ → List ℕ → Bool → Type 0) → Option (List ℕ) → Option (List ℕ) → ServeEnding → Type 0
Serves strict saves old new Unwritten = Unit {0}
Serves strict saves old new ending = Service strict saves ending old new ⊎ OnlyEnds ending old new
