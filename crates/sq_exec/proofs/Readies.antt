-- The first waiting transaction that is ready, found among those that are due.
use Rattle.std.proofs.Common.{⊎_elim, ◌≡◌, ℕ, ◌+◌, ◌<◌, ◌≤◌, Bool, true, false, not, ◌||◌, List, [], ◌∷◌, length, zero, suc, Option, Some, None, refl, sym, ap, ◌∙◌, arith}
use Rattle.std.specs.Prelude.{cond, ◌==◌, ◌&&◌, find, slice_get, position, option_map, option_and_then, if◌then◌else◌, is_none}
use Rattle.std.specs.Option.{option_map_or}
use Rattle.std.specs.List.{list_all, list_any, position_or_len}
use Rattle.std.specs.List.Sorted.{IsStrictlyIncreasing}
use Rattle.std.proofs.lemmas.Bool.{cases_lt, le-ltb, true≢false}
use Rattle.std.proofs.lemmas.List.{length-map}
use Rattle.std.proofs.lemmas.List.Folds.{list_all-map, find_at}
use Rattle.std.proofs.lemmas.Map.Keys.{sorted_from_strictly_increasing}
use Rattle.sq_schema.specs.TxnValue.{TxnValue}
use Rattle.sq_exec.specs.Waiting.{Arrival, txns_of, numbers_of, is_on, is_due_from}
use Rattle.sq_exec.specs.declared.fault.ResumeFault.{ResumeFault}
use Rattle.sq_exec.specs.declared.fault.ResumeFault.TheVariants.{NoneReady, LogFull}
use Rattle.sq_exec.specs.CoreValue.{CoreValue}
use Rattle.sq_exec.specs.Serving.{is_stuck, is_ready_here, stays_by, graver, first_ready_here, resume_refusal}
use Rattle.sq_exec.specs.Kept.{is_due_here}
use Rattle.sq_exec.specs.Location.{is_coming_here, route}
use Rattle.sq_exec.proofs.Coming.{all_follow}
use Rattle.sq_exec.proofs.Due.{pass_below, pass_unless_due, none_left, from_found, one_more, first_found, position_or_len-map, slice_get-map, position_at, no_position}

abbrev pub comes : CoreValue → Arrival → Bool
comes core a = is_coming_here core (a.txn).root

abbrev pub is_off : CoreValue → Arrival → Bool
is_off core a = not (is_ready_here core a.txn)

-- what was found, with its number and transaction
abbrev pub seen_as : Arrival → ℕ × TxnValue
seen_as a = (a.number, a.txn)

pub record Found (read : Option Arrival) (number : ℕ) (txn : TxnValue) : Type 0 where
  pub arrival : Arrival
  pub is : read ≡ Some arrival
  pub number_is : arrival.number ≡ number
  pub txn_is : arrival.txn ≡ txn

pub found_as : (read : Option Arrival) (number : ℕ) (txn : TxnValue) → ◌≡◌ {A = Option (ℕ × TxnValue)} (Some (number, txn)) (option_map {U = ℕ × TxnValue} seen_as read) → Found read number txn
found_as None number txn same = cc
found_as (Some a) number txn same =
    record {
      arrival = a;
      is = refl;
      number_is = ap (λ (o : Option (ℕ × TxnValue)). option_map_or (λ (p : ℕ × TxnValue). p.0) o number) (sym same);
      txn_is = ap (λ (o : Option (ℕ × TxnValue)). option_map_or (λ (p : ℕ × TxnValue). p.1) o txn) (sym same);
    }

pub found_none : (read : Option Arrival) → ◌≡◌ {A = Option (ℕ × TxnValue)} None (option_map {U = ℕ × TxnValue} seen_as read) → read ≡ None
found_none None same = refl
found_none (Some a) same = cc

not_not : (b : Bool) → not (not b) ≡ b
not_not true = refl
not_not false = refl

and_false : (b : Bool) → (b && false) ≡ false
and_false true = refl
and_false false = refl

and_true : (b : Bool) → (b && true) ≡ b
and_true true = refl
and_true false = refl

module _ (core : CoreValue) (arrivals : List Arrival) (due : list_all (is_due_here core) arrivals ≡ true) where
  off_unless_due : list_all (pass_unless_due (is_off core)) arrivals ≡ true
  off_unless_due = all_follow (is_due_here core) (pass_unless_due (is_off core)) (λ a. a) (λ a here. follows a.is_due (is_coming_here core (a.txn).root) (is_stuck core (a.txn).root) here) arrivals due
    where
      follows : (d c s : Bool) → (d || c) ≡ true → (d || not (not c && not s)) ≡ true
      follows true c s h = refl
      follows false true s h = refl
      follows false false s h = absurd (true≢false (sym h))

  module _ (from : ℕ) (number : ℕ) (txn : TxnValue) (found : Found (find (is_due_from from) arrivals) number txn) where
    pub not_below : from ≤ number
    not_below = omega (arith, from_found (comes core) from found.arrival arrivals found.is, found.number_is)

    module _ (rises : IsStrictlyIncreasing (numbers_of arrivals)) where
      more_come : list_all (pass_below (comes core) (number + 1)) arrivals ≡ (list_all (pass_below (comes core) from) arrivals && is_coming_here core txn.root)
      more_come =
          ap (λ n. list_all (pass_below (comes core) (n + 1)) arrivals) (sym found.number_is)
          ∙ one_more (comes core) from found.arrival arrivals (sorted_from_strictly_increasing (numbers_of arrivals) rises) found.is due
          ∙ ap (λ t. list_all (pass_below (comes core) from) arrivals && is_coming_here core t.root) found.txn_is

      -- one that doesn't go
      pub one_stays : (fault before other : ResumeFault) → other ≡ stays_by (is_coming_here core txn.root) → before ≡ stays_by (list_all (pass_below (comes core) from) arrivals) → fault ≡ graver before other
          → fault ≡ stays_by (list_all (pass_below (comes core) (number + 1)) arrivals)
      one_stays fault before other why was is = is ∙ ap (graver before) why ∙ joined (is_coming_here core txn.root) ∙ sym (ap stays_by more_come)
        where
          joined : (coming : Bool) → graver before (stays_by coming) ≡ stays_by (list_all (pass_below (comes core) from) arrivals && coming)
          joined true = was ∙ sym (ap stays_by (and_true (list_all (pass_below (comes core) from) arrivals)))
          joined false = sym (ap stays_by (and_false (list_all (pass_below (comes core) from) arrivals)))

      -- one that isn't ready
      pub one_off : is_ready_here core txn ≡ false → list_all (pass_below (is_off core) from) arrivals ≡ true → list_all (pass_below (is_off core) (number + 1)) arrivals ≡ true
      one_off off none =
          ap (λ n. list_all (pass_below (is_off core) (n + 1)) arrivals) (sym found.number_is)
          ∙ one_more (is_off core) from found.arrival arrivals (sorted_from_strictly_increasing (numbers_of arrivals) rises) found.is off_unless_due
          ∙ (λ k. none k && not ((ap (is_ready_here core) found.txn_is ∙ off) k))

    -- one that is ready is the first
    pub one_ready : is_ready_here core txn ≡ true → list_all (pass_below (is_off core) from) arrivals ≡ true
        → (place : ℕ) × (position (is_ready_here core) (txns_of arrivals) ≡ Some place) × (slice_get (numbers_of arrivals) place ≡ Some number) × (slice_get (txns_of arrivals) place ≡ Some txn)
    one_ready ready none =
        let first = first_found (is_off core) from found.arrival arrivals found.is off_unless_due none (ap not (ap (is_ready_here core) found.txn_is ∙ ready)) in
        let place = first.0 in
        let at : position_or_len (is_ready_here core) (txns_of arrivals) ≡ place =
        position_or_len-map (λ (a : Arrival). a.txn) (is_ready_here core) (λ a. not (is_off core a)) (λ a. not_not (is_ready_here core a.txn)) arrivals ∙ first.1 in (
          place,
          position_at (is_ready_here core) (txns_of arrivals) place at (omega (arith, first.3, length-map arrivals (λ (a : Arrival). a.txn))),
          slice_get-map (λ (a : Arrival). a.number) arrivals place found.arrival first.2 ∙ ap Some found.number_is,
          slice_get-map (λ (a : Arrival). a.txn) arrivals place found.arrival first.2 ∙ ap Some found.txn_is,
        )

    -- and goes to this partition
    pub one_goes : (who : ℕ) → who ≡ route core txn.root → is_ready_here core txn ≡ true → list_all (pass_below (is_off core) from) arrivals ≡ true → core.waiting ≡ txns_of arrivals
        → option_map (λ (t : TxnValue). route core t.root) (first_ready_here core) ≡ Some who
    one_goes who who_is ready none waiting_is =
        let first = one_ready ready none in
        let chosen : first_ready_here core ≡ Some txn =
        (λ k. option_and_then (slice_get (waiting_is k)) (position (is_ready_here core) (waiting_is k))) ∙ ap (option_and_then (slice_get (txns_of arrivals))) first.1 ∙ first.3 in
        ap (option_map (λ (t : TxnValue). route core t.root)) chosen ∙ ap Some (sym who_is)

  pub none_is_ready : (from : ℕ) (fault : ResumeFault) → find (is_due_from from) arrivals ≡ None → list_all (pass_below (is_off core) from) arrivals ≡ true → fault ≡ stays_by (list_all (pass_below (comes core) from) arrivals)
      → core.waiting ≡ txns_of arrivals → Some fault ≡ resume_refusal core
  none_is_ready from fault none off fault_is waiting_is = ap Some (fault_is ∙ ap stays_by all_come) ∙ by_all (list_all (λ txn. is_coming_here core txn.root) core.waiting) refl
    where
      all_come : list_all (pass_below (comes core) from) arrivals ≡ list_all (λ txn. is_coming_here core txn.root) core.waiting
      all_come = none_left (comes core) from arrivals none due ∙ sym (list_all-map (λ (txn : TxnValue). is_coming_here core txn.root) (λ (a : Arrival). a.txn) arrivals) ∙ ap (list_all (λ txn. is_coming_here core txn.root)) (sym waiting_is)

      nowhere : position (is_ready_here core) core.waiting ≡ None
      nowhere =
          ap (position (is_ready_here core)) waiting_is
          ∙ no_position (is_ready_here core) (txns_of arrivals)
          (list_all-map (λ (txn : TxnValue). not (is_ready_here core txn)) (λ (a : Arrival). a.txn) arrivals ∙ sym (none_left (is_off core) from arrivals none off_unless_due) ∙ off)

      by_all : (b : Bool) → list_all (λ txn. is_coming_here core txn.root) core.waiting ≡ b → Some (stays_by (list_all (λ txn. is_coming_here core txn.root) core.waiting)) ≡ resume_refusal core
      by_all true all = ap (λ b. Some (stays_by b)) all ∙ sym (ap (λ b. if b then Some NoneReady else if is_none (position (is_ready_here core) core.waiting) then Some LogFull else None) all)
      by_all false all = ap (λ b. Some (stays_by b)) all ∙ sym (λ k. if all k then Some NoneReady else if is_none (nowhere k) then Some LogFull else None)

-- whether one waits for a root key
pub any-txns : (root : ℕ) (arrivals : List Arrival) → list_any (is_on root) arrivals ≡ list_any (λ txn. txn.root == root) (txns_of arrivals)
any-txns root [] = refl
any-txns root (a ∷ arrivals) = ap (λ b. ((a.txn).root == root) || b) (any-txns root arrivals)

get-numbers : (arrivals : List Arrival) (i : ℕ) → slice_get (numbers_of arrivals) i ≡ option_map (λ (a : Arrival). a.number) (slice_get arrivals i)
get-numbers [] i = refl
get-numbers (a ∷ arrivals) zero = refl
get-numbers (a ∷ arrivals) (suc i) = get-numbers arrivals i

get_past : {X : Type 0} (xs : List X) (i : ℕ) → length xs ≤ i → slice_get xs i ≡ None
get_past [] i past = refl
get_past (x ∷ xs) zero past = absurd (omega (arith, past))
get_past (x ∷ xs) (suc i) past = get_past xs i (omega (arith, past))

-- the number of the first that waits for a root key
pub first_number : (root : ℕ) (arrivals : List Arrival) → option_map (λ a. a.number) (find (is_on root) arrivals) ≡ option_and_then (slice_get (numbers_of arrivals)) (position (λ txn. txn.root == root) (txns_of arrivals))
first_number root arrivals =
    ap (option_map (λ (a : Arrival). a.number)) (find_at (is_on root) arrivals) ∙ sym (get-numbers arrivals (position_or_len (is_on root) arrivals))
    ∙ ⊎_elim
    (λ (within : (position_or_len (is_on root) arrivals) < length arrivals). sym (ap (option_and_then (slice_get (numbers_of arrivals))) (position_at (λ (txn : TxnValue). txn.root == root) (txns_of arrivals) (position_or_len (is_on root) arrivals) same (omega (arith, within, lengths)))))
    (λ (past : length arrivals ≤ (position_or_len (is_on root) arrivals)).
    get_past (numbers_of arrivals) (position_or_len (is_on root) arrivals) (omega (arith, past, length-map arrivals (λ (a : Arrival). a.number)))
    ∙ sym (ap (λ b. option_and_then (slice_get (numbers_of arrivals)) (cond b (Some (position_or_len (λ txn. txn.root == root) (txns_of arrivals))) None)) (le-ltb (position_or_len (λ txn. txn.root == root) (txns_of arrivals)) (length (txns_of arrivals)) (omega (arith, past, lengths, same)))))
    (cases_lt (position_or_len (is_on root) arrivals) (length arrivals))
  where
    same : position_or_len (λ txn. txn.root == root) (txns_of arrivals) ≡ position_or_len (is_on root) arrivals
    same = position_or_len-map (λ (a : Arrival). a.txn) (λ (txn : TxnValue). txn.root == root) (is_on root) (λ a. refl) arrivals

    lengths : length (txns_of arrivals) ≡ length arrivals
    lengths = length-map arrivals (λ (a : Arrival). a.txn)
