-- A transaction that is found to be due waits.
use Rattle.std.proofs.Common.{◌≡◌, ℕ, Bool, true, false, cond, List, [], ◌∷◌, ◌++◌, ◌+◌, ◌≤◌, length, Some, None, refl, ap, sym, subst, ◌∙◌, length-append, append_assoc, append-nil, nat_le, ◌<◌, arith}
use Rattle.std.specs.Prelude.{◌||◌, map, find, is_some, option_map, IsSome}
use Rattle.std.proofs.lemmas.Bool.{and_from, le-leb, eq-eqb}
use Rattle.std.proofs.lemmas.List.{length-map}
use Rattle.std.proofs.lemmas.Option.{same_Some, none-some}
use Rattle.sq_schema.specs.TxnValue.{TxnValue}
use Rattle.sq_exec.specs.Waiting.{Arrival, txns_of, is_numbered, is_due_from, txn_at, without, due_if}

-- the arrival number of one that is found is the number of a transaction that waits
pub found_waits : (p : Arrival → Bool) (xs : List Arrival) (number : ℕ) (txn : TxnValue) → Some (number, txn) ≡ option_map {U = ℕ × TxnValue} (λ a. (a.number, a.txn)) (find p xs) → IsSome (txn_at xs number)
found_waits p [] number txn found = absurd cc
found_waits p (x ∷ xs) number txn found =
    elim (p x) as (λ b. Some (number, txn) ≡ option_map {U = ℕ × TxnValue} (λ (a : Arrival). (a.number, a.txn)) (cond b (Some x) (find p xs)) → IsSome (txn_at (x ∷ xs) number)) [
      | true ↦ λ here.
          let same : number ≡ x.number = ap (λ (pair : ℕ × TxnValue). pair.0) (same_Some (number, txn) (x.number, x.txn) here) in
          ap (λ b. is_some (option_map (λ (a : Arrival). a.txn) (cond b (Some x) (find (is_numbered number) xs)))) (eq-eqb number x.number same)
      | false ↦ λ later.
          elim (is_numbered number x) as (λ b. is_some (option_map (λ (a : Arrival). a.txn) (cond b (Some x) (find (is_numbered number) xs))) ≡ true) [
            | true ↦ refl
            | false ↦ found_waits p xs number txn later
          ]
    ] found

-- all of these are due
abbrev pub AreDue : List Arrival → Type 0
AreDue [] = Unit {0}
AreDue (a ∷ arrivals) = (a.is_due ≡ true) × AreDue arrivals

or_true : (b : Bool) → (b || true) ≡ true
or_true true = refl
or_true false = refl

pub all_due : (arrivals : List Arrival) → AreDue (map (due_if (λ _. true)) arrivals)
all_due [] = tt
all_due (a ∷ arrivals) = (or_true a.is_due, all_due arrivals)

-- who is due makes no difference to what waits
pub due_txns : (p : Arrival → Bool) (arrivals : List Arrival) → txns_of (map (due_if p) arrivals) ≡ txns_of arrivals
due_txns p [] = refl
due_txns p (a ∷ arrivals) = ap (λ rest. a.txn ∷ rest) (due_txns p arrivals)

-- the first of these is taken
pub record TakesFirst (arrivals : List Arrival) (number : ℕ) (taken : TxnValue) : Type 0 where
  pub due : AreDue (without number arrivals)
  pub is : txns_of arrivals ≡ taken ∷ txns_of (without number arrivals)
  pub fewer : length arrivals ≡ length (without number arrivals) + 1

first_due : (a : Arrival) (arrivals : List Arrival) → a.is_due ≡ true → find (is_due_from 0) (a ∷ arrivals) ≡ Some a
first_due a arrivals due =
    ap (λ b. cond b (Some a) (find (is_due_from 0) arrivals)) (and_from (nat_le 0 a.number) a.is_due (le-leb 0 a.number (omega arith)) due)

pub takes_first : (arrivals : List Arrival) (number : ℕ) (txn taken : TxnValue) → AreDue arrivals → Some (number, txn) ≡ option_map {U = ℕ × TxnValue} (λ a. (a.number, a.txn)) (find (is_due_from 0) arrivals) → Some taken ≡ txn_at arrivals number → TakesFirst arrivals number taken
takes_first [] number txn taken due found at = absurd cc
takes_first (a ∷ arrivals) number txn taken due found at =
    let pair : (number, txn) ≡ (a.number, a.txn) = same_Some (number, txn) (a.number, a.txn) (found ∙ ap (option_map {U = ℕ × TxnValue} (λ (a : Arrival). (a.number, a.txn))) (first_due a arrivals due.0)) in
    let here : is_numbered number a ≡ true = eq-eqb number a.number (ap (λ (p : ℕ × TxnValue). p.0) pair) in
    let is : taken ≡ a.txn = same_Some taken a.txn (at ∙ ap (λ b. option_map (λ (a : Arrival). a.txn) (cond b (Some a) (find (is_numbered number) arrivals))) here) in
    record {
      due = subst (λ b. AreDue (cond b arrivals (a ∷ without number arrivals))) (sym here) due.1;
      is = λ k. sym is k ∷ txns_of (cond (sym here k) arrivals (a ∷ without number arrivals));
      fewer = subst (λ b. length (a ∷ arrivals) ≡ length (cond b arrivals (a ∷ without number arrivals)) + 1) (sym here) (omega arith);
    }

-- where none is found, none is left
pub none_left : (arrivals : List Arrival) → AreDue arrivals → None ≡ option_map {U = ℕ × TxnValue} (λ a. (a.number, a.txn)) (find (is_due_from 0) arrivals) → arrivals ≡ []
none_left [] due found = refl
none_left (a ∷ arrivals) due found =
    absurd (none-some (a.number, a.txn) (found ∙ ap (option_map {U = ℕ × TxnValue} (λ (a : Arrival). (a.number, a.txn))) (first_due a arrivals due.0)))

-- what was taken of all, and what is left: the jobs are those that were taken, where there is room for all
pub record Takes (all left : List Arrival) (jobs : List TxnValue) (room : ℕ) : Type 0 where
  pub due : AreDue left
  pub taken : length all ≤ room → jobs ++ txns_of left ≡ txns_of all

-- one more is taken
pub takes_more : (all left rest : List Arrival) (jobs more : List TxnValue) (room number : ℕ) (taken : TxnValue) → Takes all left jobs room → TakesFirst left number taken → rest ≡ without number left → (length jobs < room → more ≡ jobs ++ taken ∷ []) → Takes all rest more room
takes_more all left rest jobs more room number taken so_far first is push =
    record {
      due = subst AreDue (sym is) first.due;
      taken = λ low.
          let whole = so_far.taken low in
          let counts : length jobs + length (taken ∷ txns_of (without number left)) ≡ length all = sym (length-append jobs (taken ∷ txns_of (without number left))) ∙ ap (λ (list : List TxnValue). length (jobs ++ list)) (sym first.is) ∙ ap length whole ∙ length-map all (λ (a : Arrival). a.txn) in
          ap (λ (list : List TxnValue). list ++ txns_of rest) (push (omega (arith, counts, low)))
          ∙ append_assoc jobs (taken ∷ []) (txns_of rest)
          ∙ ap (λ (list : List Arrival). jobs ++ taken ∷ txns_of list) is
          ∙ ap (λ (list : List TxnValue). jobs ++ list) (sym first.is)
          ∙ whole;
    }

pub takes_none : (all due : List Arrival) (jobs : List TxnValue) (room : ℕ) → due ≡ map (due_if (λ _. true)) all → jobs ≡ [] → Takes all due jobs room
takes_none all due jobs room is none =
    record {
      due = subst AreDue (sym is) (all_due all);
      taken = λ low. ap (λ (list : List TxnValue). list ++ txns_of due) none ∙ ap txns_of is ∙ due_txns (λ _. true) all;
    }

pub takes_all : (all left : List Arrival) (jobs : List TxnValue) (room : ℕ) → Takes all left jobs room → None ≡ option_map {U = ℕ × TxnValue} (λ a. (a.number, a.txn)) (find (is_due_from 0) left) → length all ≤ room → jobs ≡ txns_of all
takes_all all left jobs room so_far found low = sym (append-nil jobs) ∙ ap (λ (list : List Arrival). jobs ++ txns_of list) (sym (none_left left so_far.due found)) ∙ so_far.taken low
