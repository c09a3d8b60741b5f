-- How an engine ends.
use Rattle.std.specs.Prelude.{◌≡◌, ℕ, ◌+◌, false, List, length, sum_by, count_by, unwrap_or, is_some}
use Rattle.std.specs.List.Sorted.{IsPermutation}
use Rattle.sq_schema.specs.Effect.{replay_rows}
use Rattle.sq_schema.specs.Family.{FamilyValue, rows_of}
use Rattle.sq_store.specs.StoreValue.{StoreValue, absent}
use Rattle.sq_store.specs.InOrder.{families_in}
use Rattle.sq_model.specs.Place.{destination}
use Rattle.sq_model.specs.Staged.{owner_in}
use Rattle.sq_model.specs.Tables.{opening_rows}
use Rattle.sq_moves.specs.OpeningValue.{OpeningValue}
use Rattle.sq_gather.specs.Prelude.{one_if}
use Rattle.sq_node_model.specs.declared.spot.Spot.{Spot}
use Rattle.sq_node_model.specs.declared.spot.Spot.TheVariants.{Store}
use Rattle.sq_node_model.specs.NodeValue.{ReceiptValue}
use Rattle.sq_node_model.specs.Receipts.{is_commit}
use Rattle.sq_node_model.specs.Gathered.{GatheredValue}
use Rattle.sq_node_model.specs.Spots.{family_at_spot, StandsAt}
use Rattle.sq_node_model.specs.Placed.{NameEach, AreTold, AreAborted}
use Rattle.sq_engine.specs.Events.{answers_in, times_posted, times_answered, plan_after}
use Rattle.sq_engine.specs.Open.{open_job}
use Rattle.sq_engine.specs.Values.{EngineValue, Between}
use Rattle.sq_engine.specs.Engine.{AreReceipts}

-- the family of a root key after a stage, at its owner then, or an empty one
abbrev pub family_after : OpeningValue → GatheredValue → ℕ → FamilyValue
family_after o g root =
    let owner = owner_in o (g.stage + 1) root in
    unwrap_or (family_at_spot g (Store owner) root) (absent root)

-- an engine ended as planned
pub record EndsAsPlanned (engine : EngineValue) : Type 0 where
  pub gathered : GatheredValue
  pub at : engine.at ≡ Between gathered false
  -- rows went to the plan that the last move was asked for
  pub plan : engine.opening.new ≡ plan_after engine.first.new engine.jobs.events
  -- each family is in the store of its owner by that plan
  pub owned : (spot : Spot) (root : ℕ) (family : FamilyValue)
      → StandsAt gathered spot root family → spot ≡ Store (destination engine.opening root)
  -- its rows are those that the engine opened with, after a replay of its log
  pub rows : (root : ℕ)
      → rows_of (family_after engine.opening gathered root)
      ≡ replay_rows (opening_rows engine.first root) (family_after engine.opening gathered root).log
  -- the receipts of commits name each position of each log exactly once, and no other; each has the
  -- transaction at its position, and the reply that the log before it gives
  pub named : NameEach gathered
  pub told : AreTold gathered
  -- and so have those of aborts the replies of their positions
  pub aborted : AreAborted gathered
  -- what arrived by the events is these receipts, each once, but for those that were lost
  pub written : AreReceipts engine.jobs.events gathered.receipts
  -- of each id as many jobs were posted as were answered, and one more if a job with it is open
  pub answered : (id : ℕ) → times_posted id engine.jobs.events
      ≡ times_answered id engine.jobs.events + one_if (is_some (open_job engine.jobs id))

-- how many transactions the logs of the families in a store have together
abbrev pub logged_in : StoreValue → ℕ
logged_in store = sum_by (λ family. length family.log) (families_in store)

-- how many of these receipts are of commits
abbrev pub commits_in : List ReceiptValue → ℕ
commits_in receipts = count_by (λ (receipt : ReceiptValue). is_commit receipt.reply) receipts

-- the logs of all families hold as many transactions as there are answers of commits
abbrev pub LogsHoldCommits : EngineValue → Type 0
LogsHoldCommits engine =
    (gathered : GatheredValue) × (engine.at ≡ Between gathered false)
    × (sum_by logged_in gathered.stores ≡ commits_in (answers_in engine.jobs.events))

-- an engine has answered all: each job that was posted was answered once, and the answers that
-- clients were given are all receipts, each once
pub record HasAnsweredAll (engine : EngineValue) : Type 0 where
  pub gathered : GatheredValue
  pub at : engine.at ≡ Between gathered false
  pub receipts : IsPermutation (answers_in engine.jobs.events) gathered.receipts
  pub each : (id : ℕ) → times_posted id engine.jobs.events ≡ times_answered id engine.jobs.events
