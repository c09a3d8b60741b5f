-- Whether the receipts are the right answers to the jobs, and tell the logs.
use Rattle.std.specs.Prelude.{◌≡◌, ◌⊎◌, ◌<◌, ℕ, Bool, true, if◌then◌else◌, List, map, length, slice_get, Option, Some, None, Result, Ok, Err, Contains}
use Rattle.std.specs.Option.{option_map_or}
use Rattle.std.specs.Bool.{Decides}
use Rattle.std.specs.declared.cmp.Ordering.{Ordering}
use Rattle.std.specs.Ordering.{nat_cmp, bool_cmp, ordering_then}
use Rattle.std.specs.Borrow.{Bor}
use Rattle.sq_gather.specs.Prelude.{TxnValue, RowList, RowTable, effect, replay_rows, reply, FamilyValue, ReceiptValue, is_commit}
use Rattle.sq_audit.specs.declared.job.Job.{Job}
use Rattle.sq_audit.specs.declared.told.Found.{Found}
use Rattle.sq_audit.specs.Answers.{IsAbortOn, ArePosted, TellsLog, told_family, TellsFamily, StartsFrom, receipts_of}
use Rattle.sq_audit.specs.Located.{Entry}
use Rattle.sq_audit.specs.Index.{HasFamily}

-- the values that these references point to
abbrev pub values_of : List (Bor ReceiptValue) → List ReceiptValue
values_of receipts = map (λ receipt. receipt.now) receipts

abbrev pub id_of : Job → ℕ
id_of job = job.txn.id

-- the receipt has the reply of its transaction on `rows`
abbrev pub IsReplyOn : RowList → ReceiptValue → Type 0
IsReplyOn rows receipt = receipt.reply ≡ reply rows receipt.txn

-- `after` are the rows after the receipt's transaction
abbrev pub IsAfter : RowList → ReceiptValue → RowList → Type 0
IsAfter rows receipt after = after ≡ effect rows receipt.txn

-- the rows after the receipt's transaction, if it is `next` in the log
abbrev pub rows_then : RowList → Option TxnValue → ReceiptValue → RowList
rows_then rows next receipt = if is_commit receipt.reply then option_map_or (effect rows) next rows else rows

-- the receipts are sorted by position, and at one position the aborts come first
abbrev pub AreInOrder : List ReceiptValue → Type 0
AreInOrder receipts =
    (i j : ℕ) (one other : ReceiptValue) → i < j → slice_get receipts i ≡ Some one → slice_get receipts j ≡ Some other
    → (one.position < other.position) ⊎ ((one.position ≡ other.position) × (is_commit one.reply ≡ true → is_commit other.reply ≡ true))

-- `Some` has the rows that the told log leaves of the base rows, and `None` is for no such log
abbrev pub IsReplay : RowList → FamilyValue → List ReceiptValue → Option RowList → Type 0
IsReplay base family receipts (Some after) =
    (log : List TxnValue) × (length log ≡ length family.log) × TellsLog (told_family family.root base log) receipts
    × (after ≡ replay_rows base log)
IsReplay base family receipts None = TellsFamily base family receipts → ⊥

-- what is found of a family: whether it starts from the base rows, and whether the receipts tell
-- its log on them
pub record IsFoundOf (base : RowList) (family : FamilyValue) (receipts : List ReceiptValue) (found : Found) : Type 0 where
  pub start : Decides found.start (StartsFrom base family receipts)
  pub known : Decides found.known (TellsFamily base family receipts)

-- the entry's family starts from its rows in the table
abbrev pub StartsEntry : RowTable → List ReceiptValue → Entry → Type 0
StartsEntry rows receipts entry = StartsFrom (rows entry.1.root) entry.1 (receipts_of entry.1.root receipts)

-- the receipts tell the log of an entry's family
abbrev pub TellsEntry : RowTable → List ReceiptValue → Entry → Type 0
TellsEntry rows receipts entry = TellsFamily (rows entry.1.root) entry.1 (receipts_of entry.1.root receipts)

-- each family starts from its rows in the table
abbrev pub StartAll : RowTable → List Entry → List ReceiptValue → Type 0
StartAll rows entries receipts = (entry : Entry) → Contains entries entry → StartsEntry rows receipts entry

-- the log of each family is told
abbrev pub TellLogs : RowTable → List Entry → List ReceiptValue → Type 0
TellLogs rows entries receipts = (entry : Entry) → Contains entries entry → TellsEntry rows receipts entry

-- a receipt of a root key without a family is of an abort on its rows in the table
abbrev pub TellsNoLog : RowTable → List Entry → ReceiptValue → Type 0
TellsNoLog rows entries receipt = (HasFamily entries receipt.txn.root → ⊥) → IsAbortOn (rows receipt.txn.root) receipt

abbrev pub TellNoLog : RowTable → List Entry → List ReceiptValue → Type 0
TellNoLog rows entries receipts = (receipt : ReceiptValue) → Contains receipts receipt → TellsNoLog rows entries receipt

-- the log of each family is told, each receipt of a root key without a family is of an abort, and
-- each receipt's transaction is that of a job
pub record KnowsAll (rows : RowTable) (entries : List Entry) (jobs : List Job) (receipts : List ReceiptValue) : Type 0 where
  pub logs : TellLogs rows entries receipts
  pub nothing : TellNoLog rows entries receipts
  pub posted : ArePosted jobs receipts

-- what is found of families by their logs alone
pub record AreFound (rows : RowTable) (entries : List Entry) (receipts : List ReceiptValue) (found : Found) : Type 0 where
  pub start : Decides found.start (StartAll rows entries receipts)
  pub known : Decides found.known (TellLogs rows entries receipts)

-- what is found of all families and all receipts
pub record IsFound (rows : RowTable) (entries : List Entry) (jobs : List Job) (receipts : List ReceiptValue) (found : Found) : Type 0 where
  pub start : Decides found.start (StartAll rows entries receipts)
  pub known : Decides found.known (KnowsAll rows entries jobs receipts)

-- one part of what is said of families
abbrev pub said_by : {E : Type 0} → (Found → Bool) → Result Found E → Result Bool E
said_by test (Ok found) = Ok (test found)
said_by test (Err e) = Err e

-- the key by which receipts are sorted: root key, position, and whether it is of a commit
abbrev pub ReceiptKey : Type 0
ReceiptKey = ℕ × ℕ × Bool

abbrev pub receipt_key : ReceiptValue → ReceiptKey
receipt_key receipt = (receipt.txn.root, receipt.position, is_commit receipt.reply)

abbrev pub key_order : ReceiptKey → ReceiptKey → Ordering
key_order one other = ordering_then (ordering_then (nat_cmp one.0 other.0) (nat_cmp one.1 other.1)) (bool_cmp one.2 other.2)
