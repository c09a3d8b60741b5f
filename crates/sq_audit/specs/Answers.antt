-- What receipts have to say of jobs, and of the logs of families. No log is in memory: the receipts
-- of a root key tell one, which the audit replays on the opening rows.
use Rattle.std.specs.Prelude.{◌≡◌, ◌≤◌, ℕ, Bool, true, ◌==◌, ◌&&◌, nat_lt, List, length, take, filter, slice_get, Option, Some, None, count_by, Contains}
use Rattle.sq_gather.specs.Prelude.{TxnValue, RowList, replay_rows, reply, rows_of, FamilyValue, opening_rows, OpeningValue, one_if, ReceiptValue, is_commit, Spot, GatheredValue, StandsAt, HasNone}
use Rattle.sq_audit.specs.declared.job.Job.{Job}

-- the receipt has the reply of its transaction at its position of the family's log, and a commit is
-- at that position
pub record IsAnswerTo (family : FamilyValue) (receipt : ReceiptValue) : Type 0 where
  pub within : receipt.position ≤ length family.log
  pub told : receipt.reply ≡ reply (replay_rows family.base (take receipt.position family.log)) receipt.txn
  pub there : is_commit receipt.reply ≡ true → slice_get family.log receipt.position ≡ Some receipt.txn

-- the receipt is of a commit at this position
abbrev pub is_named : ℕ → ReceiptValue → Bool
is_named position receipt = is_commit receipt.reply && (receipt.position == position)

-- the receipts, which are of the family's root key, are the right answers, and those of commits name
-- each position of its log exactly once
pub record TellsLog (family : FamilyValue) (receipts : List ReceiptValue) : Type 0 where
  pub known : (receipt : ReceiptValue) → Contains receipts receipt → IsAnswerTo family receipt
  pub named : (position : ℕ) → count_by (is_named position) receipts ≡ one_if (nat_lt position (length family.log))

-- the receipts of a root key
abbrev pub receipts_of : ℕ → List ReceiptValue → List ReceiptValue
receipts_of root receipts = filter (λ receipt. receipt.txn.root == root) receipts

-- a family of a root key with these base rows and this log
abbrev pub told_family : ℕ → RowList → List TxnValue → FamilyValue
told_family root base log = record { root = root; base = base; log = log }

-- the receipts of the root key tell this log, on these base rows
abbrev pub IsToldLog : RowList → List ReceiptValue → ℕ → List TxnValue → Type 0
IsToldLog base receipts root log = TellsLog (told_family root base log) (receipts_of root receipts)

-- the receipts tell a log on these base rows that is as long as the family's
abbrev pub TellsFamily : RowList → FamilyValue → List ReceiptValue → Type 0
TellsFamily base family receipts =
    (log : List TxnValue) × (length log ≡ length family.log) × TellsLog (told_family family.root base log) receipts

-- the family starts from these base rows, as far as memory can tell: with an empty log it has these
-- rows, and if the receipts tell a log as long as its own it has the rows that this log leaves of
-- them
pub record StartsFrom (base : RowList) (family : FamilyValue) (receipts : List ReceiptValue) : Type 0 where
  pub fresh : length family.log ≡ 0 → rows_of family ≡ base
  pub told : (log : List TxnValue) → length log ≡ length family.log → TellsLog (told_family family.root base log) receipts
      → rows_of family ≡ replay_rows base log

-- each family starts from the opening rows of its root key
abbrev pub AllStart : OpeningValue → GatheredValue → Type 0
AllStart o g =
    (spot : Spot) (root : ℕ) (family : FamilyValue) → StandsAt g spot root family
    → StartsFrom (opening_rows o family.root) family (receipts_of family.root g.receipts)

-- the receipt has the reply of its transaction on `rows`, before `next` in the log: a commit has to
-- be of `next`
abbrev pub IsAnswerOn : RowList → Option TxnValue → ReceiptValue → Type 0
IsAnswerOn rows next receipt =
    (receipt.reply ≡ reply rows receipt.txn) × (is_commit receipt.reply ≡ true → next ≡ Some receipt.txn)

-- the receipt is of an abort at position 0 on these rows
abbrev pub IsAbortOn : RowList → ReceiptValue → Type 0
IsAbortOn rows receipt = (receipt.position ≡ 0) × IsAnswerOn rows None receipt

-- the receipt's transaction is that of a job
abbrev pub IsPosted : List Job → ReceiptValue → Type 0
IsPosted jobs receipt = (job : Job) × Contains jobs job × (job.txn ≡ receipt.txn)

-- each receipt's transaction is that of a job
abbrev pub ArePosted : List Job → List ReceiptValue → Type 0
ArePosted jobs receipts = (receipt : ReceiptValue) → Contains receipts receipt → IsPosted jobs receipt

-- of each family the receipts tell a log as long as its own, on the opening rows of its root key; a
-- receipt of a root key without a family is of an abort on these rows; and each receipt's
-- transaction was posted
pub record AreKnown (o : OpeningValue) (g : GatheredValue) (jobs : List Job) : Type 0 where
  pub logs : (spot : Spot) (root : ℕ) (family : FamilyValue) → StandsAt g spot root family
      → TellsFamily (opening_rows o family.root) family (receipts_of family.root g.receipts)
  pub others : (receipt : ReceiptValue) → Contains g.receipts receipt → HasNone g receipt.txn.root
      → IsAbortOn (opening_rows o receipt.txn.root) receipt
  pub posted : ArePosted jobs g.receipts

-- the receipt has the id and the root key of the transaction
abbrev pub is_of : TxnValue → ReceiptValue → Bool
is_of txn receipt = (receipt.txn.id == txn.id) && (receipt.txn.root == txn.root)

-- each job has exactly one of these receipts
abbrev pub AreAnsweredBy : List ReceiptValue → List Job → Type 0
AreAnsweredBy receipts jobs = (job : Job) → Contains jobs job → count_by (is_of job.txn) receipts ≡ 1

-- each job has exactly one receipt
abbrev pub AreAnswered : GatheredValue → List Job → Type 0
AreAnswered g jobs = AreAnsweredBy g.receipts jobs

-- no two jobs have the same id
abbrev pub IdsDiffer : List Job → Type 0
IdsDiffer jobs =
    (i j : ℕ) (one other : Job) → slice_get jobs i ≡ Some one → slice_get jobs j ≡ Some other → one.txn.id ≡ other.txn.id → i ≡ j

-- each transaction of a log is that of a job
abbrev pub LogsArePosted : GatheredValue → List Job → Type 0
LogsArePosted g jobs =
    (spot : Spot) (root position : ℕ) (family : FamilyValue) (txn : TxnValue) → StandsAt g spot root family
    → slice_get family.log position ≡ Some txn → (job : Job) × Contains jobs job × (job.txn ≡ txn)
