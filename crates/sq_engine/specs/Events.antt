-- The events of an engine, in their order, and what they say together.
use Rattle.std.specs.Prelude.{ℕ, ◌==◌, if◌then◌else◌, Bool, true, false, List, [], ◌∷◌, count_by}
use Rattle.std.specs.List.{flat_map, list_all}
use Rattle.sq_plan.specs.PlanValue.{PlanValue}
use Rattle.sq_node_model.specs.NodeValue.{ReceiptValue}
use Rattle.sq_audit.specs.declared.job.Job.{Job}
use Rattle.sq_engine.specs.declared.client.Command.{Command}
use Rattle.sq_engine.specs.declared.client.Command.TheVariants.{Post, Rest, End}
use Rattle.sq_engine.specs.declared.event.Event.{Event}
use Rattle.sq_engine.specs.declared.event.Event.TheVariants.{Posts, Refuses, Answers, Drops, Loses, Rests, Ends, MovesTo}

abbrev pub posted_job : Event → List Job
posted_job (Posts job) = job ∷ []
posted_job _ = []

-- the jobs that were posted, in order
abbrev pub posted_in : List Event → List Job
posted_in events = flat_map posted_job events

abbrev pub answer_in : Event → List ReceiptValue
answer_in (Answers part receipt) = receipt ∷ []
answer_in _ = []

-- the answers, in order
abbrev pub answers_in : List Event → List ReceiptValue
answers_in events = flat_map answer_in events

abbrev pub answer_at : ℕ → Event → List ReceiptValue
answer_at part (Answers from receipt) = if from == part then receipt ∷ [] else []
answer_at part _ = []

-- the answers of a partition, in order
abbrev pub given_from : ℕ → List Event → List ReceiptValue
given_from part events = flat_map (answer_at part) events

abbrev pub arrival_in : Event → List ReceiptValue
arrival_in (Answers part receipt) = receipt ∷ []
arrival_in (Drops part receipt) = receipt ∷ []
arrival_in _ = []

-- the receipts that arrived, in order: the answers, and those that were dropped
abbrev pub arrivals_in : List Event → List ReceiptValue
arrivals_in events = flat_map arrival_in events

abbrev pub arrival_at : ℕ → Event → List ReceiptValue
arrival_at part (Answers from receipt) = if from == part then receipt ∷ [] else []
arrival_at part (Drops from receipt) = if from == part then receipt ∷ [] else []
arrival_at part _ = []

-- the receipts of a partition that arrived, in order
abbrev pub arrived_from : ℕ → List Event → List ReceiptValue
arrived_from part events = flat_map (arrival_at part) events

abbrev pub is_known : Event → Bool
is_known (Drops part receipt) = false
is_known _ = true

-- each receipt that arrived was that of an open job
abbrev pub are_known : List Event → Bool
are_known events = list_all is_known events

abbrev pub is_arrived : Event → Bool
is_arrived Loses = false
is_arrived _ = true

-- no receipt was lost
abbrev pub are_whole : List Event → Bool
are_whole events = list_all is_arrived events

abbrev pub command_in : Event → List Command
command_in (Posts job) = Post job ∷ []
command_in (Refuses job fault) = Post job ∷ []
command_in Rests = Rest ∷ []
command_in Ends = End ∷ []
command_in _ = []

-- the commands that a client was asked for, in order, if it was served in these events
abbrev pub commands_in : List Event → List Command
commands_in events = flat_map command_in events

abbrev pub plan_by : PlanValue → Event → PlanValue
plan_by plan (MovesTo next) = next
plan_by plan _ = plan

-- the plan that rows go to after these events, if it was `plan` before
abbrev pub plan_after : PlanValue → List Event → PlanValue
plan_after plan [] = plan
plan_after plan (event ∷ more) = plan_after (plan_by plan event) more

-- how many jobs with this id were posted, and how many were answered
abbrev pub times_posted : ℕ → List Event → ℕ
times_posted id events = count_by (λ job. job.txn.id == id) (posted_in events)

abbrev pub times_answered : ℕ → List Event → ℕ
times_answered id events = count_by (λ receipt. receipt.txn.id == id) (answers_in events)
