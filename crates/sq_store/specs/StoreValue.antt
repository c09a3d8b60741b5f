-- What a store contains: a finite map from root keys to families, however it is stored.
use Rattle.std.specs.Prelude.{ℕ, Bool, true, ◌==◌, ◌&&◌, not, nat_le, nat_lt, if◌then◌else◌, List, [], ◌∷◌, length, map, fold, filter, Option, Some, None, is_none, unwrap_or, find}
use Rattle.std.specs.List.{list_any, list_all}
use Rattle.std.specs.Ordering.{nat_cmp}
use Rattle.std.specs.FinMap.{FinMap, get, insert, entries, from_entries, retain_keys}
use Rattle.sq_schema.specs.TxnValue.{TxnValue}
use Rattle.sq_schema.specs.declared.txn.Reply.{Reply}
use Rattle.sq_schema.specs.declared.txn.Reply.TheVariants.{Committed, Aborted}
use Rattle.sq_schema.specs.Effect.{reply}
use Rattle.sq_schema.specs.Family.{FamilyValue, rows_of, rows_size, folded, logged}
use Rattle.sq_moves.specs.CutEnd.{end_of}

-- the families of a store by root key
abbrev pub StoreValue : Type 0
StoreValue = FinMap nat_cmp FamilyValue

-- a family without rows and without a log
abbrev pub absent : ℕ → FamilyValue
absent root = record { root = root; base = []; log = [] }

-- the family of a root key; an empty one if the store has none
abbrev pub family_at : StoreValue → ℕ → FamilyValue
family_at store root = unwrap_or (get store root) (absent root)

-- how many transactions the log of its family holds
abbrev pub log_length : StoreValue → ℕ → ℕ
log_length store root = length (family_at store root).log

-- the reply to a transaction on the family of its root key
abbrev pub store_reply : StoreValue → TxnValue → Reply
store_reply store txn = reply (rows_of (family_at store txn.root)) txn

-- the store after a transaction with this reply: a commit is appended to its family's log
abbrev pub store_after : StoreValue → TxnValue → Reply → StoreValue
store_after store txn (Committed answers) = insert store txn.root (logged (family_at store txn.root) txn)
store_after store txn (Aborted at cause) = store

-- the families from lo up to hi, by root key in rising order
abbrev pub families_between : StoreValue → ℕ → ℕ → List FamilyValue
families_between store lo hi = map (λ entry. entry.1) (filter (λ entry. nat_le lo entry.0 && nat_lt entry.0 hi) (entries store))

-- the store without the families from lo up to hi
abbrev pub without_between : StoreValue → ℕ → ℕ → StoreValue
without_between store lo hi = retain_keys store (λ root. not (nat_le lo root && nat_lt root hi))

-- the size in bytes of the family of a root key
abbrev pub stored_size : StoreValue → ℕ → ℕ
stored_size store root = rows_size (rows_of (family_at store root))

-- where a chunk of this limit ends that takes families from lo on and below hi
abbrev pub take_end : StoreValue → ℕ → ℕ → ℕ → ℕ
take_end store lo hi limit = end_of (stored_size store) hi limit (map (λ family. family.root) (families_between store lo hi))

-- the store with these families
abbrev pub with_families : StoreValue → List FamilyValue → StoreValue
with_families store families = fold (λ so_far family. insert so_far family.root family) store families

-- a family with its log folded; none if it has no rows
abbrev pub fold_of : Option FamilyValue → Option FamilyValue
fold_of None = None
fold_of (Some family) = if length (rows_of family) == 0 then None else Some (folded family)

-- these families with their logs folded, by root key, without those that have no rows
abbrev pub folded_entries : List (ℕ × FamilyValue) → List (ℕ × FamilyValue)
folded_entries [] = []
folded_entries (entry ∷ entries) =
    if length (rows_of entry.1) == 0 then folded_entries entries else (entry.0, folded entry.1) ∷ folded_entries entries

-- the store with the logs of all its families folded
abbrev pub folded_store : StoreValue → StoreValue
folded_store store = from_entries (folded_entries (entries store))

-- the family of a root key among these
abbrev pub family_in : List FamilyValue → ℕ → Option FamilyValue
family_in families root = find (λ family. family.root == root) families

-- no two of the families have the same root key
abbrev pub roots_differ : List FamilyValue → Bool
roots_differ [] = true
roots_differ (family ∷ families) = not (list_any (λ other. other.root == family.root) families) && roots_differ families

-- the store has no family with the root key of one of these
abbrev pub has_none_of : StoreValue → List FamilyValue → Bool
has_none_of store families = list_all (λ family. is_none (get store family.root)) families

-- these families can be given: their root keys differ, and the store has none of them
abbrev pub can_give : StoreValue → List FamilyValue → Bool
can_give store families = roots_differ families && has_none_of store families
