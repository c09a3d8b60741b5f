-- How the lines that wish something are answered.
use Rattle.std.proofs.Common.{◌≡◌, ◌⊎◌, ⊎_elim, inl, inr, ℕ, Bool, true, false, List, ◌++◌, refl, sym, ap, subst, ◌∙◌}
use Rattle.std.specs.Prelude.{Option, Some, None, unwrap_or, Result, Ok, Err, IfOk, OnOk}
use Rattle.sq_text.proofs.Appending.{both}
use Rattle.sq_text.specs.Texts.{refused_line}
use Rattle.sq_plan.specs.PlanValue.{PlanValue}
use Rattle.sq_moves.specs.declared.opening_fault.ReconFault.{ReconFault}
use Rattle.sq_moves.specs.OpeningFaults.{recon_fault_number}
use Rattle.sq_schema.specs.Fault.{memory_number}
use Rattle.sq_engine.specs.Values.{EngineValue}
use Rattle.sq_engine.specs.declared.engine.NotEnded.{NotEnded}
use Rattle.sq_engine.specs.declared.engine.NotEnded.TheVariants as unended
use Rattle.sq_engine.specs.declared.engine.NotMoved.{NotMoved}
use Rattle.sq_engine.specs.declared.engine.NotMoved.TheVariants as moved
use Rattle.sq_engine.specs.Engine.{rests, HasBegunMove, IsNotMoved}
use Rattle.sq_serving.specs.declared.line_place.LinePlace.{LinePlace}
use Rattle.sq_serving.specs.declared.serve_answer.ServeAnswer.TheVariants.{Fault, Moving, Moved, Rows}
use Rattle.sq_serving.specs.ServeAnswers.{serve_answer_line}
use Rattle.sq_serving.specs.declared.desk.AskedMove.{AskedMove}
use Rattle.sq_serving.specs.declared.desk.MoveProgress.{MoveProgress}
use Rattle.sq_serving.specs.declared.desk.Wish.{Wish}
use Rattle.sq_serving.specs.declared.ending.ServeEnding.{ServeEnding}
use Rattle.sq_serving.specs.Settling.{Standing}
use Rattle.sq_serving.specs.Saying.{Answered, Refused, lines_in}
use Rattle.sq_serving.specs.Becoming.{ServeDeskValue, Speaks, WritesBytes, TakesWish}
use Rattle.sq_serving.proofs.Desks.{line_speaks}
use Rattle.sq_serving.specs.Rows.{saved_line, not_ended_line}
use Rattle.sq_serving.specs.Wishes.{WritesText, TakesEffect, IsUnderWay, segments_in, EndsMove, TellsMove, RefusesMove, AnswersMove, AnswersWish, AnswersTaken}

-- a text, and then another one
text_then : (first second : List ℕ) (a b c : ServeDeskValue) → WritesText first a b → WritesText second b c → WritesText (first ++ second) a c
text_then first second a b c one two =
    record {
      goes_on = λ still. one.goes_on (two.goes_on still);
      writes_on = λ still. one.writes_on (two.writes_on still);
      written = λ still.
          both a.written b.written c.written first second (first ++ second) (one.written (two.writes_on still)) (two.written still) refl;
      wishes = two.wishes ∙ one.wishes;
    }

same_progress : (moving : Option MoveProgress) (one other : MoveProgress) → moving ≡ Some one → moving ≡ Some other → one ≡ other
same_progress moving one other is also = ap (λ (m : Option MoveProgress). unwrap_or m one) (sym is ∙ also)

same_segments : (desk : ServeDeskValue) (one other : ℕ) → IsUnderWay one desk → IsUnderWay other desk → one ≡ other
same_segments desk one other is also =
    sym is.2 ∙ ap (λ (p : MoveProgress). p.segments) (same_progress desk.moving is.0 also.0 is.1 also.1) ∙ also.2

-- a move is over, unless there is no memory to say so
pub move_over : {A : Type 0} (result : Result A ServeEnding) (engine : EngineValue) (progress : MoveProgress) (a b : ServeDeskValue)
    → a.moving ≡ Some progress → rests engine ≡ true
    → IfOk result (λ done. WritesText (serve_answer_line (Moved progress.segments)) a b) → IfOk result (λ done. b.moving ≡ None)
    → IfOk result (λ done. TakesEffect engine a b) → IfOk result (λ done. EndsMove engine a b)
move_over (Ok done) engine progress a b is still says none plan = inl (progress.segments, (progress, is, refl), still, none, plan, says)
move_over (Err ending) engine progress a b is still says none plan = tt

some_is_none : (progress : MoveProgress) → Some progress ≡ None → ⊥
some_is_none progress e = cc

-- no move is over where none is under way, or rows move
pub no_move_over : (engine : EngineValue) (desk : ServeDeskValue) → desk.moving ≡ None → EndsMove engine desk desk
no_move_over engine desk none = inr ((λ segments is. absurd (some_is_none is.0 (sym is.1 ∙ none))), refl)

pub rows_move : (engine : EngineValue) (desk : ServeDeskValue) → rests engine ≡ false → EndsMove engine desk desk
rows_move engine desk moves = inr ((λ segments is. moves), refl)

-- a move begins, and is over at once or not
pub move_told : (engine : EngineValue) (segments : ℕ) (a b c : ServeDeskValue) → segments ≡ segments_in engine → IsUnderWay segments b
    → b.standing ≡ a.standing → WritesText (serve_answer_line (Moving segments)) a b → EndsMove engine b c → TellsMove engine a c
move_told engine segments a b c all is stands begins ends =
    let known : IsUnderWay (segments_in engine) b = subst (λ (n : ℕ). IsUnderWay n b) all is in
    let begun : WritesText (serve_answer_line (Moving (segments_in engine))) a b =
    subst (λ (n : ℕ). WritesText (serve_answer_line (Moving n)) a b) all begins in
    ⊎_elim
    (λ over.
    let moved : WritesText (serve_answer_line (Moved (segments_in engine))) b c =
    subst (λ (n : ℕ). WritesText (serve_answer_line (Moved n)) b c) (same_segments b over.0 (segments_in engine) over.1 known) over.5 in
    inl (
      over.2,
      over.3,
      subst (λ (s : Standing). c.standing ≡ record s { plan = engine.opening.new }) stands over.4,
      text_then (serve_answer_line (Moving (segments_in engine))) (serve_answer_line (Moved (segments_in engine))) a b c begun moved,
    ))
    (λ on.
    inr (
      on.0 (segments_in engine) known,
      subst (λ (d : ServeDeskValue). IsUnderWay (segments_in engine) d) (sym on.1) known,
      ap (λ (d : ServeDeskValue). d.standing) on.1 ∙ stands,
      subst (λ (d : ServeDeskValue). WritesText (serve_answer_line (Moving (segments_in engine))) a d) (sym on.1) begun,
    ))
    ends

-- the same, unless there is no memory to say that it is over
pub move_told_if : {A : Type 0} (result : Result A ServeEnding) (engine : EngineValue) (segments : ℕ) (a b c : ServeDeskValue)
    → segments ≡ segments_in engine → IsUnderWay segments b → b.standing ≡ a.standing → WritesText (serve_answer_line (Moving segments)) a b
    → IfOk result (λ done. EndsMove engine b c) → OnOk result (TellsMove engine a c)
move_told_if (Ok done) engine segments a b c all is stands begins ends = move_told engine segments a b c all is stands begins ends
move_told_if (Err ending) engine segments a b c all is stands begins ends = tt

-- a line that asks for a move is answered: the move begins, or it is refused
pub move_answered : {A : Type 0} (asked : AskedMove) (old : EngineValue) (before : ServeDeskValue) (result : Result A ServeEnding)
    (new : EngineValue) (after : ServeDeskValue) → HasBegunMove asked.plan asked.limit old new
    → OnOk result (TellsMove new before after) → OnOk result (AnswersMove asked old before new after)
move_answered asked old before (Ok done) new after begun tells = inl (begun.opening, tells)
move_answered asked old before (Err ending) new after begun tells = tt

pub refusal_answered : {A : Type 0} (asked : AskedMove) (why : NotMoved) (old : EngineValue) (before : ServeDeskValue)
    (result : Result A ServeEnding) (new : EngineValue) (after : ServeDeskValue) → IsNotMoved asked.plan why old new
    → OnOk result (RefusesMove why before after) → OnOk result (AnswersMove asked old before new after)
refusal_answered asked (moved.Plans fault) old before (Ok done) new after is refuses = inr (fault, is.1, refuses)
refusal_answered asked moved.Moving old before (Ok done) new after is refuses = absurd refuses
refusal_answered asked moved.Memory old before (Ok done) new after is refuses = absurd refuses
refusal_answered asked why old before (Err ending) new after is refuses = tt

-- nothing is written to close an engine
pub stays_silent : {A : Type 0} (result : Result A ServeEnding) (a : ServeDeskValue) → OnOk result (a ≡ a)
stays_silent (Ok done) a = refl
stays_silent (Err ending) a = tt

-- the plan of a move has a fault
pub fault_of_move : (number : ℕ) (fault : ReconFault) (a b : ServeDeskValue) → number ≡ recon_fault_number fault
    → WritesBytes (refused_line number) a b → WritesBytes (refused_line (recon_fault_number fault)) a b
fault_of_move number fault a b is says = subst (λ (n : ℕ). WritesBytes (refused_line n) a b) is says

-- a fault by its number and the place of its line
pub fault_told : (number wanted : ℕ) (at place : LinePlace) (id : Option ℕ) (a b : ServeDeskValue) → number ≡ wanted → at ≡ place → id ≡ None
    → WritesBytes (serve_answer_line (Fault number at.line id)) a b → WritesBytes (serve_answer_line (Fault wanted place.line None)) a b
fault_told number wanted at place id a b is here none says =
    subst (λ (n : ℕ). WritesBytes (serve_answer_line (Fault n place.line None)) a b) is
    (subst (λ (p : LinePlace). WritesBytes (serve_answer_line (Fault number p.line None)) a b) here
    (subst (λ (i : Option ℕ). WritesBytes (serve_answer_line (Fault number at.line i)) a b) none says))

pub refused_told : (number wanted : ℕ) (a b : ServeDeskValue) → number ≡ wanted → WritesBytes (refused_line number) a b
    → WritesBytes (refused_line wanted) a b
refused_told number wanted a b is says = subst (λ (n : ℕ). WritesBytes (refused_line n) a b) is says

-- lines about rows are other lines
pub saved_speaks : (saved : Bool) (lines : List ℕ) (a b : ServeDeskValue) → WritesBytes (saved_line saved lines) a b → Speaks a b
saved_speaks true lines a b says = line_speaks (Answered (Rows (lines_in lines))) a b says
saved_speaks false lines a b says = line_speaks (Refused 124) a b says

pub not_ended_speaks : (why : NotEnded) (place : LinePlace) (a b : ServeDeskValue) → WritesBytes (not_ended_line why place) a b → Speaks a b
not_ended_speaks unended.Moving place a b says = line_speaks (Refused 217) a b says
not_ended_speaks unended.Memory place a b says = line_speaks (Answered (Fault memory_number place.line None)) a b says

module _ (saves : List ℕ → List ℕ → Bool → Type 0) where
  pub none_taken : {A : Type 0} (taken : Option Wish) (old : EngineValue) (before between : ServeDeskValue)
      (result : Result A ServeEnding) (new : EngineValue) → None ≡ taken → TakesWish None before between
      → AnswersTaken saves taken old before result new between
  none_taken taken old before between result new is takes =
      subst (λ (t : Option Wish). AnswersTaken saves t old before result new between) is
      (record { between = between; takes = takes; answers = tt })

  pub some_taken : {A : Type 0} (taken : Option Wish) (wish : Wish) (old : EngineValue) (before between : ServeDeskValue)
      (result : Result A ServeEnding) (new : EngineValue) (after : ServeDeskValue) → Some wish ≡ taken → TakesWish (Some wish) before between
      → OnOk result (AnswersWish saves wish old between new after) → AnswersTaken saves taken old before result new after
  some_taken taken wish old before between result new after is takes answers =
      subst (λ (t : Option Wish). AnswersTaken saves t old before result new after) is
      (record { between = between; takes = takes; answers = answers })
