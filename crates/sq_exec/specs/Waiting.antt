-- Waiting transactions, in their order of arrival.
use Rattle.std.specs.Prelude.{◌+◌, ◌==◌, ◌||◌, ◌&&◌, ◌++◌, ◌∷◌, [], ℕ, Bool, nat_le, if◌then◌else◌, List, map, find, length, Option, option_map}
use Rattle.sq_schema.specs.TxnValue.{TxnValue}

-- a waiting transaction: its arrival number, and whether it is due, that is, a candidate to be
-- resumed
pub record Arrival : Type 0 where
  pub number : ℕ
  pub txn : TxnValue
  pub is_due : Bool

-- the waiting transactions in their order of arrival, and the arrival number of the next
pub record WaitingValue : Type 0 where
  pub arrivals : List Arrival
  pub next : ℕ

abbrev pub txns_of : List Arrival → List TxnValue
txns_of arrivals = map (λ a. a.txn) arrivals

abbrev pub numbers_of : List Arrival → List ℕ
numbers_of arrivals = map (λ a. a.number) arrivals

-- the transaction is on the root key
abbrev pub is_on : ℕ → Arrival → Bool
is_on root a = a.txn.root == root

-- it has the arrival number
abbrev pub is_numbered : ℕ → Arrival → Bool
is_numbered number a = number == a.number

-- it is due, and its arrival number is this one or greater
abbrev pub is_due_from : ℕ → Arrival → Bool
is_due_from number a = nat_le number a.number && a.is_due

-- the transaction of an arrival number
abbrev pub txn_at : List Arrival → ℕ → Option TxnValue
txn_at arrivals number = option_map (λ a. a.txn) (find (is_numbered number) arrivals)

-- without the transaction of an arrival number
abbrev pub without : ℕ → List Arrival → List Arrival
without number [] = []
without number (a ∷ arrivals) = if is_numbered number a then arrivals else a ∷ without number arrivals

-- the transactions with the arrival numbers from this one on, in their order
abbrev pub numbered_from : ℕ → List Arrival → List Arrival
numbered_from number [] = []
numbered_from number (a ∷ arrivals) = record a { number = number } ∷ numbered_from (number + 1) arrivals

-- the bound of arrival numbers, which none gets
abbrev pub no_number : ℕ
no_number = 18446744073709551615

-- all renumbered from 0
abbrev pub numbered_anew : WaitingValue → WaitingValue
numbered_anew w = record { arrivals = numbered_from 0 w.arrivals; next = length w.arrivals }

-- before one more waits: if no number is left for it, all are renumbered
abbrev pub with_a_number_left : WaitingValue → WaitingValue
with_a_number_left w = if w.next == no_number then numbered_anew w else w

-- one more waits, after all others, with the next number
abbrev pub with_last : WaitingValue → TxnValue → Bool → WaitingValue
with_last w txn is_due =
    record { arrivals = w.arrivals ++ record { number = w.next; txn = txn; is_due = is_due } ∷ []; next = w.next + 1 }

-- it is due too if it passes
abbrev pub due_if : (Arrival → Bool) → Arrival → Arrival
due_if passes a = record a { is_due = a.is_due || passes a }

-- those that pass are due too
abbrev pub with_due : (Arrival → Bool) → WaitingValue → WaitingValue
with_due passes w = record w { arrivals = map (due_if passes) w.arrivals }
