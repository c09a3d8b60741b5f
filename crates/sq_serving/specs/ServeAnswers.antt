-- The lines that an engine answers, other than those of jobs.
use Rattle.std.specs.Prelude.{◌≡◌, ◌==◌, ◌⊎◌, nat_eq, ℕ, Bool, true, false, List, [], ◌∷◌, ◌++◌, codes, decimal, Some, None}
use Rattle.std.specs.List.{list_any, starts_with}
use Rattle.sq_text.specs.Texts.{line}
use Rattle.sq_serving.specs.declared.serve_answer.ServeAnswer.{ServeAnswer}
use Rattle.sq_serving.specs.declared.serve_answer.ServeAnswer.TheVariants.{Fault, Moving, Moved, Folded, Rows, AtRest, Progress, Paused, Resumed, Pumps, Chunk, Queued, Dropped, NothingQueued, Owner}

-- the line that nothing moves, how many jobs have no answer, and whether pumps rest, with figures
-- after these words
abbrev pub rest_line : ℕ → Bool → List ℕ → List ℕ
rest_line unanswered false figures =
    line (codes "at" ∷ codes "rest," ∷ decimal unanswered ∷ codes "jobs" ∷ (codes "open" ++ figures) ∷ [])
rest_line unanswered true figures =
    line (codes "at" ∷ codes "rest," ∷ decimal unanswered ∷ codes "jobs" ∷ codes "open," ∷ (codes "paused" ++ figures) ∷ [])

-- the same of a stage that moves
abbrev pub progress_line : ℕ → ℕ → ℕ → Bool → List ℕ → List ℕ
progress_line complete segments unanswered false figures =
    line (codes "moving" ∷ decimal complete ∷ codes "of" ∷ decimal segments ∷ codes "segments," ∷ decimal unanswered
    ∷ codes "jobs" ∷ (codes "open" ++ figures) ∷ [])
progress_line complete segments unanswered true figures =
    line (codes "moving" ∷ decimal complete ∷ codes "of" ∷ decimal segments ∷ codes "segments," ∷ decimal unanswered
    ∷ codes "jobs" ∷ codes "open," ∷ (codes "paused" ++ figures) ∷ [])

-- the line of an answer
abbrev pub serve_answer_line : ServeAnswer → List ℕ
serve_answer_line (Fault fault number None) = line (codes "fault" ∷ decimal fault ∷ decimal number ∷ [])
serve_answer_line (Fault fault number (Some id)) =
    line (codes "fault" ∷ decimal fault ∷ decimal number ∷ codes "id" ∷ decimal id ∷ [])
serve_answer_line (Moving segments) = line (codes "moving" ∷ decimal segments ∷ [])
serve_answer_line (Moved segments) = line (codes "moved" ∷ decimal segments ∷ [])
serve_answer_line (Folded answers) = line (codes "folded" ∷ decimal answers ∷ [])
serve_answer_line (Rows count) = line (codes "rows" ∷ decimal count ∷ [])
serve_answer_line (AtRest unanswered paused) = rest_line unanswered paused []
serve_answer_line (Progress complete segments unanswered paused) = progress_line complete segments unanswered paused []
serve_answer_line Paused = line (codes "paused" ∷ [])
serve_answer_line Resumed = line (codes "resumed" ∷ [])
serve_answer_line (Pumps count) = line (codes "pumps" ∷ decimal count ∷ [])
serve_answer_line (Chunk bytes) = line (codes "chunk" ∷ decimal bytes ∷ [])
serve_answer_line (Queued waiting) = line (codes "queued" ∷ decimal waiting ∷ [])
serve_answer_line (Dropped waiting) = line (codes "dropped" ∷ decimal waiting ∷ [])
serve_answer_line NothingQueued = line (codes "nothing" ∷ codes "queued" ∷ [])
serve_answer_line (Owner root part) = line (codes "owner" ∷ decimal root ∷ decimal part ∷ [])

-- the line of the status, with figures after its words
abbrev pub status_line : ServeAnswer → List ℕ → List ℕ
status_line (AtRest unanswered paused) figures = rest_line unanswered paused figures
status_line (Progress complete segments unanswered paused) figures = progress_line complete segments unanswered paused figures
status_line answer figures = serve_answer_line answer

-- text on one line
abbrev pub HasNoLineEnd : List ℕ → Type 0
HasNoLineEnd text = list_any (λ byte. byte == 10) text ≡ false

-- a line that is JSON, so that it can't be taken for the answer to a job: an object, or `null`
abbrev pub IsJsonLine : List ℕ → Type 0
IsJsonLine text =
    HasNoLineEnd text × ((starts_with nat_eq text (codes "{") ≡ true) ⊎ (text ≡ codes "null"))

-- a line of JSON
abbrev pub json_line : List ℕ → List ℕ
json_line text = text ++ 10 ∷ []

-- the line of a plan with this text
abbrev pub plan_line : List ℕ → List ℕ
plan_line text = line (codes "plan" ∷ text ∷ [])
