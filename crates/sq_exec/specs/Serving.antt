-- The outcomes of transactions that are submitted at a partition, and of those that waited at it.
use Rattle.std.specs.Prelude.{◌≡◌, ℕ, Bool, true, false, ◌==◌, ◌&&◌, ◌||◌, not, nat_le, if◌then◌else◌, [], ◌∷◌, ◌++◌, length, position, remove, slice_get, Option, Some, None, is_none, option_and_then}
use Rattle.std.specs.Option.{option_map_or}
use Rattle.std.specs.List.{list_all}
use Rattle.sq_schema.specs.TxnValue.{TxnValue}
use Rattle.sq_schema.specs.declared.family.TheConstants.{MAX_LOG}
use Rattle.sq_store.specs.StoreValue.{StoreValue, log_length, store_reply, store_after}
use Rattle.sq_moves.specs.declared.opening.TheConstants.{MAX_WAITING}
use Rattle.sq_exec.specs.declared.fault.SubmitFault.{SubmitFault}
use Rattle.sq_exec.specs.declared.fault.SubmitFault.TheVariants as submit
use Rattle.sq_exec.specs.declared.fault.ResumeFault.{ResumeFault}
use Rattle.sq_exec.specs.declared.fault.ResumeFault.TheVariants as resume
use Rattle.sq_exec.specs.declared.outcome.Outcome.{Outcome}
use Rattle.sq_exec.specs.declared.outcome.Outcome.TheVariants.{Done, Moved, Waits}
use Rattle.sq_exec.specs.declared.outcome.Resumed.{Resumed}
use Rattle.sq_exec.specs.declared.location.Location.{Location}
use Rattle.sq_exec.specs.CoreValue.{CoreValue}
use Rattle.sq_exec.specs.Location.{location, is_coming_here, route, waits_for}

-- the log of the root key is full: it has `limit` transactions
abbrev pub is_log_full : ℕ → StoreValue → ℕ → Bool
is_log_full limit store root = nat_le limit (log_length store root)

-- the root key belongs here, and its log is full
abbrev pub is_stuck : CoreValue → ℕ → Bool
is_stuck core root = (route core root == core.part) && is_log_full core.log_limit core.store root

-- a root key that belongs to one partition has its log here, and the log is as long as can be
-- counted
abbrev pub is_at_end : ℕ → ℕ → StoreValue → ℕ → Bool
is_at_end here who store root = (who == here) && is_log_full MAX_LOG store root

-- a transaction that belongs to one partition is served at another: it runs if these are the same,
-- and is forwarded if not; with the store after it
abbrev pub served : ℕ → ℕ → StoreValue → TxnValue → Outcome × StoreValue
served here who store txn =
    if who == here then (Done (store_reply store txn), store_after store txn (store_reply store txn)) else (Moved who, store)

-- a transaction is served at the partition; it belongs to the partition that transactions on its
-- root key go to
abbrev pub served_here : CoreValue → TxnValue → Outcome × StoreValue
served_here core txn = served core.part (route core txn.root) core.store txn

-- a transaction on the root key has to wait: another one waits, or the rows are coming and aren't
-- here yet
abbrev pub must_wait : CoreValue → ℕ → Bool
must_wait core root = waits_for core root || is_coming_here core root

-- why a transaction is refused
abbrev pub submit_refusal : CoreValue → TxnValue → Option SubmitFault
submit_refusal core txn =
    if must_wait core txn.root then if nat_le MAX_WAITING (length core.waiting) then Some submit.WaitFull else None
    else if is_stuck core txn.root then Some submit.LogFull
    else None

-- taking it uses memory: it waits, or it runs here
abbrev pub submit_takes_memory : CoreValue → TxnValue → Bool
submit_takes_memory core txn = must_wait core txn.root || (route core txn.root == core.part)

-- the transaction waits after all others, and the answer has its segment and leaf
pub record IsMadeToWait (old : CoreValue) (txn : TxnValue) (outcome : Outcome) (new : CoreValue) : Type 0 where
  pub at : Location
  pub moves : location old txn.root ≡ Some at
  pub told : outcome ≡ Waits at.seg at.leaf
  pub last : new ≡ record old { waiting = old.waiting ++ txn ∷ [] }

-- a transaction that needn't wait is served
pub record IsServed (old : CoreValue) (txn : TxnValue) (outcome : Outcome) (new : CoreValue) : Type 0 where
  pub told : outcome ≡ (served_here old txn).0
  pub after : new ≡ record old { store = (served_here old txn).1 }

abbrev pub IsTaken : Bool → CoreValue → TxnValue → Outcome → CoreValue → Type 0
IsTaken true old txn outcome new = IsMadeToWait old txn outcome new
IsTaken false old txn outcome new = IsServed old txn outcome new

-- a waiting transaction can go: its rows aren't on their way here, and if it runs here, its log has
-- room
abbrev pub is_ready_here : CoreValue → TxnValue → Bool
is_ready_here core txn = not (is_coming_here core txn.root) && not (is_stuck core txn.root)

-- why a transaction stays: its rows are on their way, or else the log is full
abbrev pub stays_by : Bool → ResumeFault
stays_by true = resume.NoneReady
stays_by false = resume.LogFull

-- the graver reason why two stay: a full log outweighs rows on their way
abbrev pub graver : ResumeFault → ResumeFault → ResumeFault
graver fault resume.NoneReady = fault
graver fault resume.LogFull = resume.LogFull
graver fault resume.Memory = resume.Memory

-- why every waiting transaction stays
abbrev pub resume_refusal : CoreValue → Option ResumeFault
resume_refusal core =
    if list_all (λ txn. is_coming_here core txn.root) core.waiting then Some resume.NoneReady
    else if is_none (position (is_ready_here core) core.waiting) then Some resume.LogFull
    else None

-- the first waiting transaction that is ready
abbrev pub first_ready_here : CoreValue → Option TxnValue
first_ready_here core = option_and_then (slice_get core.waiting) (position (is_ready_here core) core.waiting)

-- it runs here, which uses memory
abbrev pub resume_takes_memory : CoreValue → Bool
resume_takes_memory core = option_map_or (λ txn. route core txn.root == core.part) (first_ready_here core) false

-- the first waiting transaction that is ready was served, and no longer waits
pub record IsResumed (old : CoreValue) (resumed : Resumed) (new : CoreValue) : Type 0 where
  pub place : ℕ
  pub first : position (is_ready_here old) old.waiting ≡ Some place
  pub found : slice_get old.waiting place ≡ Some resumed.txn
  pub told : resumed.outcome ≡ (served_here old resumed.txn).0
  pub after : new ≡ record old { store = (served_here old resumed.txn).1; waiting = remove old.waiting place }
