-- What a step does to a world.
use Rattle.std.specs.Prelude.{◌≡◌, ◌⊎◌, IsTrue}
use Rattle.sq_model.specs.declared.step.Step.{Step}
use Rattle.sq_model.specs.declared.step.Step.TheVariants.{Prepare, Start, Submit, Resume, Split, Claim, Begin, Cut, Push, Pop, Load, Complete, Report, Next, Finish, Status, Fold}
use Rattle.sq_model.specs.declared.answer.Answer.{Answer}
use Rattle.sq_model.specs.declared.answer.Answer.TheVariants.{Refused}
use Rattle.sq_model.specs.declared.answer.Refusal.TheVariants.{Memory}
use Rattle.sq_model.specs.Legal.{takes_memory}
use Rattle.sq_transition.specs.WorldValue.{WorldValue}
use Rattle.sq_transition.specs.LeaderResults.{StepResult, prepare_result, start_result, report_result, next_result, finish_result, fold_result}
use Rattle.sq_transition.specs.TreeResults.{split_result, claim_result, begin_result, complete_result, status_result}
use Rattle.sq_transition.specs.LinkResults.{cut_result, push_result, pop_result, load_result}
use Rattle.sq_transition.specs.SubmitResults.{submit_result, resume_result}

-- the answer to a step for which memory doesn't run out, and the world after it
abbrev pub step_result : WorldValue → Step → StepResult
step_result w (Prepare part) = prepare_result w part
step_result w Start = start_result w
step_result w (Submit part txn) = submit_result w part txn
step_result w (Resume part) = resume_result w part
step_result w (Split seg node) = split_result w seg node
step_result w (Claim seg node pull) = claim_result w seg node pull
step_result w (Begin seg node pull) = begin_result w seg node pull
step_result w (Cut src dst) = cut_result w src dst
step_result w (Push src dst) = push_result w src dst
step_result w (Pop src dst) = pop_result w src dst
step_result w (Load src dst) = load_result w src dst
step_result w (Complete seg node pull) = complete_result w seg node pull
step_result w (Report part) = report_result w part
step_result w Next = next_result w
step_result w Finish = finish_result w
step_result w (Fold part) = fold_result w part
step_result w (Status seg node) = status_result w seg node

-- a step has this result; or it takes memory, which runs out, and then nothing changes
abbrev pub IsResult : Step → WorldValue → StepResult → Answer → WorldValue → Type 0
IsResult step old result answer new =
    ((answer, new) ≡ result) ⊎ ((answer ≡ Refused Memory) × IsTrue (takes_memory step result.0) × (new ≡ old))

-- the step has this answer and leaves this world
abbrev pub IsTransition : WorldValue → Step → Answer → WorldValue → Type 0
IsTransition old step answer new = IsResult step old (step_result old step) answer new
