-- What Split, Claim, Begin, Complete and Status do to a world.
use Rattle.std.specs.Prelude.{ℕ, Bool, not, is_none, if◌then◌else◌}
use Rattle.sq_moves.specs.declared.status.Status.{Status}
use Rattle.sq_moves.specs.declared.status.Status.TheVariants as status
use Rattle.sq_moves.specs.Node.{is_node}
use Rattle.sq_moves.specs.Status.{reading}
use Rattle.sq_moves.specs.Tree.{with_status}
use Rattle.sq_moves.specs.Answer.{split_answer, claim_answer, begin_answer, complete_answer}
use Rattle.sq_exec.specs.Runs.{is_whole}
use Rattle.sq_exec.specs.CoreValue.{loaded_at}
use Rattle.sq_exec.specs.Moving.{begun_core}
use Rattle.sq_model.specs.declared.answer.Answer.{Answer}
use Rattle.sq_model.specs.declared.answer.Answer.TheVariants.{Done, Reads}
use Rattle.sq_model.specs.declared.answer.Refusal.TheVariants.{NoSuchSegment, NoSuchNode}
use Rattle.sq_model.specs.Answers.{split_answered, claim_answered, begin_answered, complete_answered}
use Rattle.sq_transition.specs.WorldValue.{WorldValue, core_at, with_core, tree_at, with_tree, status_in, running_range, source_of, destination_of}
use Rattle.sq_transition.specs.LeaderResults.{StepResult, refuse, if_moving}

abbrev pub if_segment : WorldValue → ℕ → StepResult → StepResult
if_segment w seg result = if is_none (running_range w seg) then refuse w NoSuchSegment else result

abbrev pub if_node : WorldValue → ℕ → StepResult → StepResult
if_node w node result = if not (is_node node) then refuse w NoSuchNode else result

-- the world in which a node has this status
abbrev pub with_node : WorldValue → ℕ → ℕ → Status → WorldValue
with_node w seg node new = with_tree w seg (with_status (tree_at w seg) node new)

-- if the step was done the world changes, otherwise it stays
abbrev pub if_done : Answer → WorldValue → WorldValue → StepResult
if_done Done old new = (Done, new)
if_done answer old new = (answer, old)

abbrev pub split_result : WorldValue → ℕ → ℕ → StepResult
split_result w seg node =
    if_moving w (if_segment w seg (if_node w node (
    if_done (split_answered (split_answer (status_in w seg) node)) w (with_node w seg node status.Split)
    )))

abbrev pub claim_result : WorldValue → ℕ → ℕ → ℕ → StepResult
claim_result w seg node pull =
    if_moving w (if_segment w seg (if_node w node (
    if_done (claim_answered (claim_answer (status_in w seg) node pull)) w (with_node w seg node (status.Claimed pull))
    )))

-- the world in which a node was begun: all of it is to be cut at its source
abbrev pub with_begun : WorldValue → ℕ → ℕ → ℕ → WorldValue
with_begun w seg node pull =
    let src = source_of w seg in
    with_core (with_node w seg node (status.Partial pull)) src (begun_core (core_at w src) seg node pull)

abbrev pub begin_result : WorldValue → ℕ → ℕ → ℕ → StepResult
begin_result w seg node pull =
    if_moving w (if_segment w seg (if_node w node (
    if_done (begin_answered (begin_answer (status_in w seg) node pull)) w (with_begun w seg node pull)
    )))

-- the last chunk of the node is loaded at its destination
abbrev pub is_loaded_whole : WorldValue → ℕ → ℕ → Bool
is_loaded_whole w seg node = is_whole (loaded_at (core_at w (destination_of w seg)) seg) node

abbrev pub complete_result : WorldValue → ℕ → ℕ → ℕ → StepResult
complete_result w seg node pull =
    if_moving w (if_segment w seg (if_node w node (
    if_done (complete_answered (is_loaded_whole w seg node) (complete_answer (status_in w seg) node pull))
    w (with_node w seg node (status.Complete pull))
    )))

abbrev pub status_result : WorldValue → ℕ → ℕ → StepResult
status_result w seg node = if_segment w seg (if_node w node (Reads (status_in w seg node) (reading (status_in w seg) node), w))
