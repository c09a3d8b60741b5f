-- Transactions that are numbered as they arrive, in slots of which some are empty.
use Rattle.std.specs.Prelude.{◌≡◌, ◌<◌, ℕ, List, [], ◌∷◌, ◌++◌, Option, Some, None, map, length}
use Rattle.std.specs.Ordering.{nat_cmp}
use Rattle.std.specs.List.{AllByRecursion}
use Rattle.std.specs.List.Sorted.{IsStrictlySortedBy}
use Rattle.std.specs.Map.{lookup}
use Rattle.std.specs.BTreeMap.{is_at}
use Rattle.sq_schema.specs.TxnValue.{TxnValue}
use Rattle.sq_exec.specs.declared.slots.Slot.{Slot}

-- the value under a number
abbrev pub value_at : {X : Type 0} → List (ℕ × X) → ℕ → Option X
value_at entries number = lookup (is_at (nat_cmp number)) entries

-- the transactions under their numbers, which rise, and the next number
pub record SlotsValue : Type 0 where
  pub entries : List (ℕ × TxnValue)
  pub next : ℕ

-- the number with the transaction, if there is one
abbrev pub slot_entry : ℕ → Option TxnValue → List (ℕ × TxnValue)
slot_entry number None = []
slot_entry number (Some txn) = (number, txn) ∷ []

-- the transactions in slots, each with its number
abbrev pub slot_entries : List Slot → List (ℕ × TxnValue)
slot_entries [] = []
slot_entries (slot ∷ slots) = slot_entry slot.number slot.txn ++ slot_entries slots

abbrev pub numbers_in : List Slot → List ℕ
numbers_in slots = map (λ slot. slot.number) slots

-- the numbers rise, up to below the next
pub record AreRising (next : ℕ) (slots : List Slot) : Type 0 where
  pub rise : IsStrictlySortedBy nat_cmp (numbers_in slots)
  pub below : AllByRecursion (λ number. number < next) (numbers_in slots)

-- the numbers rise, and this many slots have a transaction
pub record AreSlots (slots : List Slot) (filled next : ℕ) : Type 0 where
  pub rising : AreRising next slots
  pub count : filled ≡ length (slot_entries slots)
