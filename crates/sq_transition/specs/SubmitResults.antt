-- What a submitted transaction, or one that waited, does to a world.
use Rattle.std.specs.Prelude.{ℕ, Bool, false, if◌then◌else◌, [], ◌∷◌, ◌++◌, remove, position, slice_index_or, unwrap_or, Option, Some, None}
use Rattle.std.specs.Option.{option_map_or}
use Rattle.sq_schema.specs.TxnValue.{TxnValue}
use Rattle.sq_plan.specs.PlanValue.{owner}
use Rattle.sq_moves.specs.Status.{covering, is_begun}
use Rattle.sq_moves.specs.ReconValue.{leaf_at}
use Rattle.sq_store.specs.StoreValue.{store_reply, store_after}
use Rattle.sq_exec.specs.declared.fault.SubmitFault.{SubmitFault}
use Rattle.sq_exec.specs.declared.fault.SubmitFault.TheVariants as submit
use Rattle.sq_exec.specs.declared.fault.ResumeFault.{ResumeFault}
use Rattle.sq_exec.specs.declared.fault.ResumeFault.TheVariants as resume
use Rattle.sq_exec.specs.declared.outcome.Outcome.{Outcome}
use Rattle.sq_exec.specs.declared.outcome.Outcome.TheVariants as outcome
use Rattle.sq_exec.specs.CoreValue.{CoreValue}
use Rattle.sq_exec.specs.Location.{route}
use Rattle.sq_exec.specs.Serving.{served, must_wait, submit_refusal, resume_refusal, is_ready_here}
use Rattle.sq_model.specs.declared.answer.Answer.{Answer}
use Rattle.sq_model.specs.declared.answer.Answer.TheVariants.{Replied, Moved, Waits, Resumed}
use Rattle.sq_model.specs.declared.answer.Refusal.{Refusal}
use Rattle.sq_model.specs.declared.answer.Refusal.TheVariants.{WaitFull, LogFull, NoneReady, Memory}
use Rattle.sq_model.specs.Answers.{waits_at}
use Rattle.sq_transition.specs.WorldValue.{WorldValue, core_at, with_core, status_in}
use Rattle.sq_transition.specs.LeaderResults.{StepResult, refuse, if_partition}

-- the node over a root key was begun
abbrev pub is_root_given_up : WorldValue → ℕ → Bool
is_root_given_up w root = option_map_or (λ at. is_begun (status_in w at.0 (covering (status_in w at.0) at.1))) (leaf_at w.recon root) false

-- where a transaction is forwarded to: the destination once the source gave its root key up, which
-- a third partition can't know, and otherwise where the partition says
abbrev pub sent_to : WorldValue → ℕ → ℕ → ℕ
sent_to w root who = if is_root_given_up w root then owner w.new root else who

-- the answer to a submitted transaction with this outcome
abbrev pub submitted : WorldValue → TxnValue → Outcome → Answer
submitted w txn (outcome.Done reply) = Replied txn.id reply
submitted w txn (outcome.Moved who) = Moved txn.id (sent_to w txn.root who)
submitted w txn (outcome.Waits seg leaf) = Waits txn.id seg leaf

-- a transaction is served at a partition: its outcome, and the partition after it
abbrev pub served_core : CoreValue → TxnValue → Outcome × CoreValue
served_core core txn =
    let served_here = served core.part (route core txn.root) core.store txn in
    (served_here.0, record core { store = served_here.1 })

abbrev pub submit_refused : SubmitFault → Refusal
submit_refused submit.WaitFull = WaitFull
submit_refused submit.LogFull = LogFull
submit_refused submit.Memory = Memory

-- a transaction that isn't refused waits after all others, or is served
abbrev pub taken : WorldValue → ℕ → TxnValue → Option SubmitFault → StepResult
taken w part txn (Some fault) = refuse w (submit_refused fault)
taken w part txn None =
    let core = core_at w part in
    if must_wait core txn.root then (waits_at w.recon txn, with_core w part (record core { waiting = core.waiting ++ txn ∷ [] }))
    else (submitted w txn (served_core core txn).0, with_core w part (served_core core txn).1)

abbrev pub submit_result : WorldValue → ℕ → TxnValue → StepResult
submit_result w part txn = if_partition w part (taken w part txn (submit_refusal (core_at w part) txn))

abbrev pub resume_refused : ResumeFault → Refusal
resume_refused resume.NoneReady = NoneReady
resume_refused resume.LogFull = LogFull
resume_refused resume.Memory = Memory

abbrev pub no_txn : TxnValue
no_txn = record { id = 0; root = 0; ops = [] }

-- the first waiting transaction that is ready, which is at this place, runs and no longer waits
abbrev pub resumed_at : WorldValue → ℕ → Option ℕ → StepResult
resumed_at w part None = refuse w (resume_refused (unwrap_or (resume_refusal (core_at w part)) resume.NoneReady))
resumed_at w part (Some place) =
    let core = core_at w part in
    let txn = slice_index_or core.waiting place no_txn in
    let given = store_reply core.store txn in
    (Resumed txn given, with_core w part (record core { store = store_after core.store txn given; waiting = remove core.waiting place }))

abbrev pub resume_result : WorldValue → ℕ → StepResult
resume_result w part =
    if_partition w part (resumed_at w part (position (is_ready_here (core_at w part)) (core_at w part).waiting))
