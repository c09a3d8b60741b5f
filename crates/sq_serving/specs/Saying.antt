-- What is written, unless a write fails.
use Rattle.std.specs.Prelude.{◌≡◌, ◌==◌, ◌+◌, ◌<◌, ◌^◌, false, ℕ, List, ◌++◌, Option, count_by}
use Rattle.std.specs.List.{flat_map}
use Rattle.std.specs.Io.KnownBytes.{Appends}
use Rattle.sq_schema.specs.Family.{FamilyValue}
use Rattle.sq_plan.specs.PlanValue.{PlanValue}
use Rattle.sq_plan.specs.PlanText.{plan_text}
use Rattle.sq_text.specs.Texts.{refused_line}
use Rattle.sq_results.specs.RowLines.{root_lines}
use Rattle.sq_serving.specs.declared.serve_answer.ServeAnswer.{ServeAnswer}
use Rattle.sq_serving.specs.declared.serve_answer.ServeAnswer.TheVariants.{Rows}
use Rattle.sq_serving.specs.ServeAnswers.{serve_answer_line, status_line, json_line, plan_line}
use Rattle.sq_serving.specs.declared.outlet.Outlet.{Outlet}

-- these bytes were written: no write failed before, and what the writer holds grew by them; or else
-- a write failed
pub record Says {W : Type 0} (contents : W → Option (List ℕ)) (old : Outlet W) (bytes : List ℕ) (new : Outlet W) : Type 0 where
  pub goes_on : new.has_failed ≡ false → old.has_failed ≡ false
  pub written : new.has_failed ≡ false → Appends (contents old.writer) (contents new.writer) bytes

-- how many lines a text has
abbrev pub lines_in : List ℕ → ℕ
lines_in text = count_by (λ byte. byte == 10) text

-- the lines of rows, and then their number
abbrev pub rows_told : List ℕ → List ℕ
rows_told lines = lines ++ serve_answer_line (Rows (lines_in lines))

-- one more line was refused, unless 64 bits can't count them
abbrev pub CountsOneMore : ℕ → ℕ → Type 0
CountsOneMore old new = old + 1 < 2 ^ 64 → new ≡ old + 1

-- a line other than the reply to a job, or the lines of the rows of families, which belong together
pub data OtherLine : Type 0 where
  Answered : (answer : ServeAnswer) → OtherLine
  Refused : (number : ℕ) → OtherLine
  StatusTold : (status : ServeAnswer) → (figures : List ℕ) → OtherLine
  JsonTold : (text : List ℕ) → OtherLine
  PlanTold : (plan : PlanValue) → OtherLine
  RowLines : (families : List FamilyValue) → OtherLine

-- its bytes
abbrev pub other_line : OtherLine → List ℕ
other_line (Answered answer) = serve_answer_line answer
other_line (Refused number) = refused_line number
other_line (StatusTold status figures) = status_line status figures
other_line (JsonTold text) = json_line text
other_line (PlanTold plan) = plan_line (plan_text plan)
other_line (RowLines families) = flat_map root_lines families
