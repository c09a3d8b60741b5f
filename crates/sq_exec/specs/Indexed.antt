-- Waiting transactions by arrival number, with an index by root key, and the numbers that are due:
-- all below a bound, and those of a list.
use Rattle.std.specs.Prelude.{◌≡◌, ◌<◌, ◌≤◌, ◌==◌, ◌||◌, nat_lt, ℕ, Bool, true, false, List, map, IsSome}
use Rattle.std.specs.Option.{option_map_or}
use Rattle.std.specs.Ordering.{nat_cmp}
use Rattle.std.specs.List.Sorted.{IsStrictlySortedBy}
use Rattle.std.specs.Map.{keys_of}
use Rattle.std.specs.BTreeSet.{BTreeSet}
use Rattle.sq_schema.specs.TxnValue.{TxnValue}
use Rattle.sq_exec.specs.Index.{has_entry, is_among}
use Rattle.sq_exec.specs.Slots.{value_at}
use Rattle.sq_exec.specs.Waiting.{Arrival, no_number}

-- the arrival number is due: it is below the bound, or in the list
abbrev pub is_due_in : ℕ → List ℕ → ℕ → Bool
is_due_in due_below numbers number = nat_lt number due_below || is_among numbers number

-- the waiting transaction of an entry, given which numbers are due
abbrev pub arrival_of : (ℕ → Bool) → ℕ × TxnValue → Arrival
arrival_of is_due entry = record { number = entry.0; txn = entry.1; is_due = is_due entry.0 }

abbrev pub arrivals_of : List (ℕ × TxnValue) → (ℕ → Bool) → List Arrival
arrivals_of entries is_due = map (arrival_of is_due) entries

-- the index has exactly these transactions by root key, those of the list wait, and all numbers are
-- below the next, which fits and is at least the bound
pub record IsIndexed
    (txns : List (ℕ × TxnValue)) (entries : BTreeSet (ℕ × ℕ)) (numbers : List ℕ) (due_below next : ℕ) : Type 0 where
  pub ordered : IsStrictlySortedBy nat_cmp (keys_of txns)
  pub left : next ≤ no_number
  pub bound : due_below ≤ next
  pub below : (number : ℕ) → IsSome (value_at txns number) → number < next
  pub by_root : (root number : ℕ)
      → has_entry entries root number ≡ option_map_or (λ txn. txn.root == root) (value_at txns number) false
  pub due : (number : ℕ) → is_among numbers number ≡ true → IsSome (value_at txns number)
