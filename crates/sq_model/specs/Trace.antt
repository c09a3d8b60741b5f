-- A trace is the steps so far with their answers, the newest first. Its values follow from the
-- successful steps.
use Rattle.std.specs.Prelude.{ℕ, ◌+◌, ◌==◌, ◌&&◌, if◌then◌else◌, List, [], ◌∷◌, ◌++◌, filter, length}
use Rattle.sq_schema.specs.TxnValue.{TxnValue}
use Rattle.sq_schema.specs.declared.txn.Reply.TheVariants.{Committed}
use Rattle.sq_store.specs.declared.chunk.Note.{Note}
use Rattle.sq_model.specs.declared.step.Step.{Step}
use Rattle.sq_model.specs.declared.step.Step.TheVariants.{Submit, Resume, Cut, Push, Pop, Load, Next, Fold}
use Rattle.sq_model.specs.declared.answer.Answer.{Answer}
use Rattle.sq_model.specs.declared.answer.Answer.TheVariants.{Done, Replied, Resumed, WasCut, WasLoaded}

abbrev pub Trace : Type 0
Trace = List (Step × Answer)

-- the value of a trace, step by step: what each step with its answer turns it into, from this start
abbrev pub by_steps : {A : Type 0} → (Step → Answer → A → A) → A → Trace → A
by_steps each start [] = start
by_steps each start ((step, answer) ∷ trace) = each step answer (by_steps each start trace)

abbrev pub enters : Step → Answer → ℕ → ℕ
enters Next Done i = i + 1
enters _ _ i = i

-- the running stage: the number of successful Nexts
abbrev pub stage : Trace → ℕ
stage = by_steps enters 0

abbrev pub commits : Step → Answer → List TxnValue → List TxnValue
commits (Submit at txn) (Replied id (Committed answers)) txns = txns ++ txn ∷ []
commits (Resume at) (Resumed txn (Committed answers)) txns = txns ++ txn ∷ []
commits _ _ txns = txns

-- the committed transactions, in order
abbrev pub committed : Trace → List TxnValue
committed = by_steps commits []

abbrev pub clears : ℕ → Step → Answer → List TxnValue → List TxnValue
clears part (Fold which) Done txns = if part == which then [] else txns
clears part _ _ txns = txns

-- the transactions that committed since the last fold of a partition, in order; all committed ones
-- if it was never folded
abbrev pub unfolded : Trace → ℕ → List TxnValue
unfolded t part = by_steps (λ step answer txns. clears part step answer (commits step answer txns)) [] t

abbrev pub cuts : Step → Answer → List Note → List Note
cuts (Cut src dst) (WasCut note families) notes = note ∷ notes
cuts _ _ notes = notes

-- the notes of the chunks that were cut, the newest first
abbrev pub notes : Trace → List Note
notes = by_steps cuts []

abbrev pub loads_note : Step → Answer → List Note → List Note
loads_note (Load src dst) (WasLoaded note families) notes = note ∷ notes
loads_note _ _ notes = notes

-- the notes of the chunks that were loaded, the newest first
abbrev pub loads : Trace → List Note
loads = by_steps loads_note []

-- the notes of one link
abbrev pub link : ℕ → ℕ → List Note → List Note
link src dst notes = filter (λ note. (note.src == src) && (note.dst == dst)) notes

-- how many chunks were cut for a link
abbrev pub cut_count : Trace → ℕ → ℕ → ℕ
cut_count t src dst = length (link src dst (notes t))

-- how many chunks of a link were loaded
abbrev pub load_count : Trace → ℕ → ℕ → ℕ
load_count t src dst = length (link src dst (loads t))

-- one more, if a step of the one link is one of the other
abbrev pub one_more_on : ℕ → ℕ → ℕ → ℕ → ℕ → ℕ
one_more_on src dst from to n = if (from == src) && (to == dst) then n + 1 else n

abbrev pub pushes : ℕ → ℕ → Step → Answer → ℕ → ℕ
pushes src dst (Push from to) Done n = one_more_on src dst from to n
pushes src dst _ _ n = n

-- how many chunks were pushed onto a link
abbrev pub push_count : Trace → ℕ → ℕ → ℕ
push_count t src dst = by_steps (pushes src dst) 0 t

abbrev pub pops : ℕ → ℕ → Step → Answer → ℕ → ℕ
pops src dst (Pop from to) Done n = one_more_on src dst from to n
pops src dst _ _ n = n

-- how many chunks were popped off a link
abbrev pub pop_count : Trace → ℕ → ℕ → ℕ
pop_count t src dst = by_steps (pops src dst) 0 t
