-- Lists sorted by id: of the ids and root keys of receipts, and of the ids and places of jobs.
use Rattle.std.specs.Prelude.{ℕ, Bool, ◌==◌, ◌&&◌, nat_lt, List, map, count_by}
use Rattle.std.specs.List.Sorted.{IsPermutation, IsNonDecreasingBy}
use Rattle.sq_gather.specs.Prelude.{ReceiptValue}
use Rattle.sq_audit.specs.declared.job.Job.{Job}

-- the id of an entry
abbrev pub listed_id : ℕ × ℕ → ℕ
listed_id one = one.0

-- the ids are in rising order, perhaps with repeats
abbrev pub AreById : List (ℕ × ℕ) → Type 0
AreById list = IsNonDecreasingBy listed_id list

-- the entry has this id and this root key
abbrev pub is_id_and_root : ℕ → ℕ → ℕ × ℕ → Bool
is_id_and_root id root one = (one.0 == id) && (one.1 == root)

abbrev pub id_and_root : ReceiptValue → ℕ × ℕ
id_and_root receipt = (receipt.txn.id, receipt.txn.root)

-- `ids` are the ids of the receipts, each with its root key, sorted by id
pub record ListsIds (receipts : List ReceiptValue) (ids : List (ℕ × ℕ)) : Type 0 where
  pub all : IsPermutation (map id_and_root receipts) ids
  pub by_id : AreById ids

-- `ids` lists the id of the job with its root key
abbrev pub is_listed : List (ℕ × ℕ) → Job → Bool
is_listed ids job = nat_lt 0 (count_by (is_id_and_root job.txn.id job.txn.root) ids)
