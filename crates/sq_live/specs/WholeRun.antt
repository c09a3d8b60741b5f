-- What a whole live run leaves: the receipts and the logs of all its stages, and the rows at the
-- end.
use Rattle.std.specs.Prelude.{◌≡◌, ℕ, ◌+◌, ◌≤◌, ◌^◌, ◌<◌, ◌==◌, Bool, true, false, List, [], ◌∷◌, ◌++◌, Contains, count_by, unwrap_or}
use Rattle.sq_schema.specs.TxnValue.{TxnValue}
use Rattle.sq_schema.specs.Family.{FamilyValue, rows_of}
use Rattle.sq_store.specs.StoreValue.{absent}
use Rattle.sq_moves.specs.OpeningValue.{OpeningValue}
use Rattle.sq_text.specs.Pieces.{PieceValue}
use Rattle.sq_model.specs.Place.{destination}
use Rattle.sq_model.specs.Tables.{opening_rows}
use Rattle.sq_model.specs.Staged.{owner_in}
use Rattle.sq_node_model.specs.NodeValue.{ReceiptValue}
use Rattle.sq_node_model.specs.Receipts.{is_commit}
use Rattle.sq_node_model.specs.declared.spot.Spot.{Spot}
use Rattle.sq_node_model.specs.declared.spot.Spot.TheVariants.{Store}
use Rattle.sq_node_model.specs.Gathered.{GatheredValue}
use Rattle.sq_node_model.specs.Spots.{family_at_spot, StandsAt}
use Rattle.sq_audit.specs.declared.job.Job.{Job}
use Rattle.sq_audit.specs.Answers.{IsAnswerTo, IsPosted, is_of, AreAnsweredBy}
use Rattle.sq_live.specs.declared.outcome.LiveOutcome.{LiveOutcome}
use Rattle.sq_live.specs.declared.outcome.LiveOutcome.TheVariants.{Sound, Stopped, Unsound}
use Rattle.sq_live.specs.declared.ending.LiveEnding.{LiveEnding}
use Rattle.sq_live.specs.declared.ending.LiveEnding.TheVariants.{Done}
use Rattle.sq_live.specs.Outcome.{commit_count, stored_count}
use Rattle.sq_live.specs.Live.{SpellJobs}

-- the stages that together have a run's receipts and logs, the latest first: with folds each stage,
-- since a fold starts both anew, and otherwise the last stage, which has all
abbrev pub telling_stages : Bool → List GatheredValue → GatheredValue → List GatheredValue
telling_stages true earlier g = g ∷ earlier
telling_stages false earlier g = g ∷ []

-- their receipts, the oldest first
abbrev pub receipts_over : List GatheredValue → List ReceiptValue
receipts_over [] = []
receipts_over (g ∷ earlier) = receipts_over earlier ++ g.receipts

-- the family of a root key in the store of a partition, or an empty one
abbrev pub stored_family : GatheredValue → ℕ → ℕ → FamilyValue
stored_family g part root = unwrap_or (family_at_spot g (Store part) root) (absent root)

-- the log of a root key after a stage, at its owner then
abbrev pub log_after : OpeningValue → GatheredValue → ℕ → List TxnValue
log_after o g root = (stored_family g (owner_in o (g.stage + 1) root) root).log

-- the logs of a root key over these stages, the oldest first
abbrev pub log_over : OpeningValue → List GatheredValue → ℕ → List TxnValue
log_over o [] root = []
log_over o (g ∷ earlier) root = log_over o earlier root ++ log_after o g root

-- the family of a root key over these stages: the opening rows, and the whole log
abbrev pub whole_family : OpeningValue → List GatheredValue → ℕ → FamilyValue
whole_family o stages root =
    record { root = root; base = opening_rows o root; log = log_over o stages root }

-- one of these receipts is the job's, and is of a commit
abbrev pub IsCommitted : List ReceiptValue → Job → Type 0
IsCommitted receipts job =
    (receipt : ReceiptValue) × Contains receipts receipt
    × (is_of job.txn receipt ≡ true) × (is_commit receipt.reply ≡ true)

-- the log of a root key has exactly the committed ones of these jobs on it, each once
pub record HasJustCommitted (receipts : List ReceiptValue) (jobs : List Job)
    (root : ℕ) (log : List TxnValue) : Type 0 where
  pub each : (txn : TxnValue) → Contains log txn
      → (job : Job) × Contains jobs job × (job.txn ≡ txn) × (txn.root ≡ root)
      × IsCommitted receipts job
  pub all : (job : Job) → Contains jobs job → job.txn.root ≡ root → IsCommitted receipts job
      → Contains log job.txn
  pub once : (id : ℕ) → count_by (λ txn. txn.id == id) log ≤ 1

-- each receipt is of a job, and the right answer at some position of the whole log of its root key
abbrev pub AreAllAnswers : OpeningValue → List Job → List GatheredValue → Type 0
AreAllAnswers o jobs stages =
    (receipt : ReceiptValue) → Contains (receipts_over stages) receipt
    → IsPosted jobs receipt × (position : ℕ)
    × IsAnswerTo (whole_family o stages receipt.txn.root) (record receipt { position = position })

-- a run of these jobs ended as the opening plans it: `stages` have its receipts and logs, and its
-- last stage left `g`
pub record EndsAsPlanned (o : OpeningValue) (jobs : List Job) (stages : List GatheredValue)
    (g : GatheredValue) (families committed : ℕ) : Type 0 where
  -- each family is in the store of its owner by the new plan, and so none is under way
  pub owned : (spot : Spot) (root : ℕ) (family : FamilyValue) → StandsAt g spot root family
      → spot ≡ Store (destination o root)
  -- the rows there are the opening rows after a replay of the whole log of the root key
  pub rows : (root : ℕ)
      → rows_of (stored_family g (destination o root) root) ≡ rows_of (whole_family o stages root)
  pub logs : (root : ℕ)
      → HasJustCommitted (receipts_over stages) jobs root (log_over o stages root)
  pub answers : AreAllAnswers o jobs stages
  -- each job has one receipt
  pub answered : AreAnsweredBy (receipts_over stages) jobs
  pub committed_are : committed ≡ commit_count (receipts_over stages)
  pub families_are : stored_count g < 2 ^ 64 → families ≡ stored_count g

-- if the outcome is sound, a run of these jobs ended as the opening plans it; `earlier` is what its
-- earlier stages left, and `g` what its last one left
abbrev pub MeetsPlan : Bool → OpeningValue → List Job → List GatheredValue → GatheredValue
    → LiveOutcome → Type 0
MeetsPlan folds o jobs earlier g (Sound families committed) =
    EndsAsPlanned o jobs (telling_stages folds earlier g) g families committed
MeetsPlan folds o jobs earlier g (Stopped answered all complete segments) = Unit {0}
MeetsPlan folds o jobs earlier g (Unsound defect) = Unit {0}

-- jobs were run with a sound outcome
abbrev pub sound_ending : ℕ → ℕ → LiveEnding
sound_ending families committed = Done (Sound families committed)

-- the pieces spell an opening and jobs, and a run of these jobs ended as the opening plans it
abbrev pub AreRunAsPlanned : Bool → ℕ → List PieceValue → ℕ → ℕ → Type 0
AreRunAsPlanned folds tables given families committed =
    (o : OpeningValue) × (jobs : List Job) × (earlier : List GatheredValue) × (g : GatheredValue)
    × SpellJobs tables given o jobs
    × EndsAsPlanned o jobs (telling_stages folds earlier g) g families committed
