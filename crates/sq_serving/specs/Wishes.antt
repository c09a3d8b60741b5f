-- The answers to lines that wish something of an engine.
use Rattle.std.specs.Prelude.{◌≡◌, ◌⊎◌, ℕ, Bool, true, false, List, ◌++◌, length, Option, None, Some, Result, OnOk, IfSome}
use Rattle.std.specs.Io.KnownBytes.{Appends}
use Rattle.sq_moves.specs.declared.opening_fault.ReconFault.{ReconFault}
use Rattle.sq_moves.specs.OpeningFaults.{recon_fault_number}
use Rattle.sq_moves.specs.Between.{recon_fault}
use Rattle.sq_text.specs.Texts.{refused_line}
use Rattle.sq_engine.specs.Values.{EngineValue}
use Rattle.sq_engine.specs.declared.engine.NotMoved.{NotMoved}
use Rattle.sq_engine.specs.declared.engine.NotMoved.TheVariants as moved
use Rattle.sq_engine.specs.History.{onward_opening}
use Rattle.sq_engine.specs.Engine.{rests}
use Rattle.sq_serving.specs.declared.serve_answer.ServeAnswer.TheVariants.{Moving, Moved}
use Rattle.sq_serving.specs.ServeAnswers.{serve_answer_line}
use Rattle.sq_serving.specs.declared.desk.MoveProgress.{MoveProgress}
use Rattle.sq_serving.specs.declared.desk.AskedMove.{AskedMove}
use Rattle.sq_serving.specs.declared.desk.Wish.{Wish}
use Rattle.sq_serving.specs.declared.desk.Wish.TheVariants as wish
use Rattle.sq_serving.specs.declared.ending.ServeEnding.{ServeEnding}
use Rattle.sq_serving.specs.Becoming.{ServeDeskValue, WritesBytes, TakesWish}
use Rattle.sq_serving.specs.Rows.{AnswersRows}

-- just this text was written, and the same wishes are kept
pub record WritesText (text : List ℕ) (old new : ServeDeskValue) : Type 0 where
  pub goes_on : new.has_stopped ≡ false → old.has_stopped ≡ false
  pub writes_on : new.has_failed ≡ false → old.has_failed ≡ false
  pub written : new.has_failed ≡ false → Appends old.written new.written text
  pub wishes : new.wishes ≡ old.wishes

-- a desk has a move with this number of segments recorded
abbrev pub IsUnderWay : ℕ → ServeDeskValue → Type 0
IsUnderWay segments desk = (progress : MoveProgress) × (desk.moving ≡ Some progress) × (progress.segments ≡ segments)

-- how many segments the move of an engine has
abbrev pub segments_in : EngineValue → ℕ
segments_in engine = length engine.opening.recon.segments

-- the plan that rows went to is in force
abbrev pub TakesEffect : EngineValue → ServeDeskValue → ServeDeskValue → Type 0
TakesEffect engine before after = after.standing ≡ record before.standing { plan = engine.opening.new }

-- a move that is over is answered by the one line that it is done, and its plan is in force; or no
-- move is over, and nothing was written
abbrev pub EndsMove : EngineValue → ServeDeskValue → ServeDeskValue → Type 0
EndsMove engine before after =
    ((segments : ℕ) × IsUnderWay segments before × (rests engine ≡ true) × (after.moving ≡ None)
    × TakesEffect engine before after × WritesText (serve_answer_line (Moved segments)) before after)
    ⊎ (((segments : ℕ) → IsUnderWay segments before → rests engine ≡ false) × (after ≡ before))

-- the line that the move of an engine begins was written, and after it, if nothing moves, the line
-- that it is done
abbrev pub TellsMove : EngineValue → ServeDeskValue → ServeDeskValue → Type 0
TellsMove engine before after =
    let segments = segments_in engine in
    ((rests engine ≡ true) × (after.moving ≡ None) × TakesEffect engine before after
    × WritesText (serve_answer_line (Moving segments) ++ serve_answer_line (Moved segments)) before after)
    ⊎ ((rests engine ≡ false) × IsUnderWay segments after × (after.standing ≡ before.standing)
    × WritesText (serve_answer_line (Moving segments)) before after)

-- a move is refused for just one reason, a fault of its plan, and one line reports that
abbrev pub RefusesMove : NotMoved → ServeDeskValue → ServeDeskValue → Type 0
RefusesMove (moved.Plans fault) before after = WritesBytes (refused_line (recon_fault_number fault)) before after
RefusesMove moved.Moving before after = ⊥
RefusesMove moved.Memory before after = ⊥

-- the move that a line asks for began, and its lines were written; or its plan has a fault, and one
-- line reports that
abbrev pub AnswersMove : AskedMove → EngineValue → ServeDeskValue → EngineValue → ServeDeskValue → Type 0
AnswersMove asked old before new after =
    ((new.opening ≡ onward_opening old.opening asked.plan asked.limit) × TellsMove new before after)
    ⊎ ((fault : ReconFault) × (recon_fault old.opening.new asked.plan old.opening.config.width ≡ Some fault)
    × WritesBytes (refused_line (recon_fault_number fault)) before after)

-- a wish is answered: by one line, or by rows
abbrev pub AnswersWish : (List ℕ → List ℕ → Bool → Type 0) → Wish → EngineValue → ServeDeskValue → EngineValue → ServeDeskValue → Type 0
AnswersWish saves (wish.Move asked) old before new after = AnswersMove asked old before new after
AnswersWish saves (wish.Rows asked) old before new after = AnswersRows saves asked old before new after
AnswersWish saves wish.Close old before new after = after ≡ before

-- this wish was taken, if there was one, and it is answered unless the engine ends
pub record AnswersTaken {A : Type 0} (saves : List ℕ → List ℕ → Bool → Type 0) (taken : Option Wish) (old : EngineValue) (before : ServeDeskValue)
    (result : Result A ServeEnding) (new : EngineValue) (after : ServeDeskValue) : Type 0 where
  pub between : ServeDeskValue
  pub takes : TakesWish taken before between
  pub answers : IfSome taken (λ asked. OnOk result (AnswersWish saves asked old between new after))
