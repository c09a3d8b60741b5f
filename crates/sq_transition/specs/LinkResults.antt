-- What Cut, Push, Pop and Load do to a world.
use Rattle.std.specs.Prelude.{ℕ, ◌==◌, not, nat_le, if◌then◌else◌, List, [], ◌∷◌, ◌++◌, length, Option, Some, None, is_some}
use Rattle.sq_store.specs.declared.chunk.Note.{Note}
use Rattle.sq_store.specs.ChunkValue.{ChunkValue}
use Rattle.sq_store.specs.StoreValue.{families_between}
use Rattle.sq_exec.specs.Work.{next_work}
use Rattle.sq_exec.specs.OutLink.{cut_here}
use Rattle.sq_exec.specs.CoreValue.{CoreValue, out_at, with_out, link_to, inbox_at, with_inbox}
use Rattle.sq_moves.specs.ReconValue.{stage_on}
use Rattle.sq_exec.specs.Moving.{loaded_core}
use Rattle.sq_model.specs.declared.answer.Answer.TheVariants.{Done, WasCut, WasLoaded}
use Rattle.sq_model.specs.declared.answer.Refusal.TheVariants.{NoSuchLink, NothingToCut, OutboxFull, OutboxEmpty, LinkFull, LinkEmpty, InboxFull, InboxEmpty}
use Rattle.sq_transition.specs.WorldValue.{WorldValue, core_at, with_core, link_index, queue_at, with_queue, running_stage}
use Rattle.sq_transition.specs.LeaderResults.{StepResult, refuse, if_moving}

-- the result, if there is such a link and the running stage has it
abbrev pub result_at_link : WorldValue → (ℕ → StepResult) → Option ℕ → StepResult
result_at_link w result None = refuse w NoSuchLink
result_at_link w result (Some i) = result i

abbrev pub if_link : WorldValue → ℕ → ℕ → (ℕ → StepResult) → StepResult
if_link w src dst result =
    if_moving w (
    if not (stage_on w.recon src dst == running_stage w) then refuse w NoSuchLink
    else result_at_link w result (link_index w src dst)
    )

-- a chunk of the work at this place, cut for another partition: its note, and the partition that it
-- leaves
abbrev pub cut_core : CoreValue → ℕ → ℕ → Note × CoreValue
cut_core core dst at =
    let cut = cut_here core.limit (link_to core dst) (out_at core dst) core.store at in
    (cut.0, record (with_out core dst cut.1.0) { store = cut.1.1 })

abbrev pub cut_work : WorldValue → ℕ → ℕ → Option ℕ → StepResult
cut_work w src dst None = refuse w NothingToCut
cut_work w src dst (Some at) =
    let core = core_at w src in
    let cut = cut_core core dst at in
    (WasCut cut.0 (length (families_between core.store cut.0.lo cut.0.hi)), with_core w src cut.1)

abbrev pub cut_at : WorldValue → ℕ → ℕ → StepResult
cut_at w src dst =
    let out = out_at (core_at w src) dst in
    if is_some out.outbox then refuse w OutboxFull else cut_work w src dst (next_work out.work)

abbrev pub cut_result : WorldValue → ℕ → ℕ → StepResult
cut_result w src dst = if_link w src dst (λ _. cut_at w src dst)

-- the partition whose outbox for another one is empty
abbrev pub sent_core : CoreValue → ℕ → CoreValue
sent_core core dst = with_out core dst (record (out_at core dst) { outbox = None })

abbrev pub push_chunk : WorldValue → ℕ → ℕ → ℕ → Option ChunkValue → StepResult
push_chunk w src dst i None = refuse w OutboxEmpty
push_chunk w src dst i (Some chunk) =
    if nat_le w.config.capacity (length (queue_at w i).chunks) then refuse w LinkFull
    else (Done, with_queue (with_core w src (sent_core (core_at w src) dst)) i ((queue_at w i).chunks ++ chunk ∷ []))

abbrev pub push_result : WorldValue → ℕ → ℕ → StepResult
push_result w src dst = if_link w src dst (λ i. push_chunk w src dst i (out_at (core_at w src) dst).outbox)

abbrev pub pop_chunk : WorldValue → ℕ → ℕ → ℕ → List ChunkValue → StepResult
pop_chunk w src dst i [] = refuse w LinkEmpty
pop_chunk w src dst i (chunk ∷ chunks) = (Done, with_core (with_queue w i chunks) dst (with_inbox (core_at w dst) src (Some chunk)))

abbrev pub pop_result : WorldValue → ℕ → ℕ → StepResult
pop_result w src dst =
    if_link w src dst (λ i.
    if is_some (inbox_at (core_at w dst) src) then refuse w InboxFull else pop_chunk w src dst i (queue_at w i).chunks
    )

abbrev pub load_chunk : WorldValue → ℕ → ℕ → Option ChunkValue → StepResult
load_chunk w src dst None = refuse w InboxEmpty
load_chunk w src dst (Some chunk) = (WasLoaded chunk.note (length chunk.families), with_core w dst (loaded_core (core_at w dst) src chunk))

abbrev pub load_result : WorldValue → ℕ → ℕ → StepResult
load_result w src dst = if_link w src dst (λ _. load_chunk w src dst (inbox_at (core_at w dst) src))
