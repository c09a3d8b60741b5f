-- What a seat found or won counts for, and how that changes at a step.
use Rattle.std.proofs.Common.{◌≡◌, ◌≢◌, ℕ, zero, suc, ◌+◌, ◌<◌, ◌⊎◌, slice_index_or, List, [], ◌∷◌, refl, sym, ap, inl, inr, ⊎_elim, arith}
use Rattle.std.specs.List.{Contains}
use Rattle.std.proofs.lemmas.List.Elements.{Contains-append_cases}
use Rattle.std.proofs.lemmas.Bool.Decides.{nat_tests}
use Rattle.sq_moves.specs.declared.status.Status.{Status}
use Rattle.sq_moves.specs.declared.status.Status.TheVariants.{Free, Split, Claimed, Partial, Complete}
use Rattle.sq_moves.specs.Status.{is_past, before}
use Rattle.sq_shared.specs.declared.view.View.{View}
use Rattle.sq_shared.specs.View.{one_if, times, times_with, times_won, won, saw, HasSeen, SameRole}
use Rattle.sq_shared.specs.Rule.{IsPast}

pub IsPast-refl : (st : Status) → IsPast st st
IsPast-refl Free = refl
IsPast-refl Split = refl
IsPast-refl (Claimed p) = grind (arith, nat_tests)
IsPast-refl (Partial p) = grind (arith, nat_tests)
IsPast-refl (Complete p) = grind (arith, nat_tests)

-- a split node stays split
pub IsPast-split : (st : Status) → IsPast Split st → st ≡ Split
IsPast-split Free e = cc
IsPast-split Split e = refl
IsPast-split (Claimed p) e = cc
IsPast-split (Partial p) e = cc
IsPast-split (Complete p) e = cc

-- what a step leads to is past all that the status before it was past
pub IsPast-before : (st new : Status) → IsPast st (before new) → IsPast st new
IsPast-before Free new e = refl
IsPast-before Split Free e = cc
IsPast-before Split Split e = refl
IsPast-before Split (Claimed q) e = cc
IsPast-before Split (Partial q) e = cc
IsPast-before Split (Complete q) e = cc
IsPast-before (Claimed p) Free e = cc
IsPast-before (Claimed p) Split e = cc
IsPast-before (Claimed p) (Claimed q) e = cc
IsPast-before (Claimed p) (Partial q) e = e
IsPast-before (Claimed p) (Complete q) e = e
IsPast-before (Partial p) Free e = cc
IsPast-before (Partial p) Split e = cc
IsPast-before (Partial p) (Claimed q) e = cc
IsPast-before (Partial p) (Partial q) e = cc
IsPast-before (Partial p) (Complete q) e = e
IsPast-before (Complete p) Free e = cc
IsPast-before (Complete p) Split e = cc
IsPast-before (Complete p) (Claimed q) e = cc
IsPast-before (Complete p) (Partial q) e = cc
IsPast-before (Complete p) (Complete q) e = cc

-- a node isn't split right before a step
pub before-split : (st : Status) → before st ≢ Split
before-split Free e = cc
before-split Split e = cc
before-split (Claimed p) e = cc
before-split (Partial p) e = cc
before-split (Complete p) e = cc

-- what a step counts for at its node
pub times_won-won : (n : ℕ) (st new : Status) (v : View) → st ≢ Free → new ≢ Free
    → times_won n st (won v n new) + one_if (is_past st (before new)) ≡ times_won n st v + one_if (is_past st new)
times_won-won n Free new v ne ne' = absurd (ne refl)
times_won-won n Split Free v ne ne' = absurd (ne' refl)
times_won-won n Split Split v ne ne' = grind (arith, nat_tests)
times_won-won n Split (Claimed q) v ne ne' = refl
times_won-won n Split (Partial q) v ne ne' = refl
times_won-won n Split (Complete q) v ne ne' = refl
times_won-won n (Claimed p) Free v ne ne' = absurd (ne' refl)
times_won-won n (Claimed p) Split v ne ne' = refl
times_won-won n (Claimed p) (Claimed q) v ne ne' = grind (arith, nat_tests)
times_won-won n (Claimed p) (Partial q) v ne ne' = refl
times_won-won n (Claimed p) (Complete q) v ne ne' = refl
times_won-won n (Partial p) Free v ne ne' = absurd (ne' refl)
times_won-won n (Partial p) Split v ne ne' = refl
times_won-won n (Partial p) (Claimed q) v ne ne' = refl
times_won-won n (Partial p) (Partial q) v ne ne' = grind (arith, nat_tests)
times_won-won n (Partial p) (Complete q) v ne ne' = refl
times_won-won n (Complete p) Free v ne ne' = absurd (ne' refl)
times_won-won n (Complete p) Split v ne ne' = refl
times_won-won n (Complete p) (Claimed q) v ne ne' = refl
times_won-won n (Complete p) (Partial q) v ne ne' = refl
times_won-won n (Complete p) (Complete q) v ne ne' = grind (arith, nat_tests)

times_other : (m n : ℕ) (ns : List ℕ) → m ≢ n → times m (n ∷ ns) ≡ times m ns
times_other m n ns ne = grind (arith, nat_tests)

times_with_other : (m p n q : ℕ) (ns : List (ℕ × ℕ)) → m ≢ n → times_with m p ((n, q) ∷ ns) ≡ times_with m p ns
times_with_other m p n q ns ne = grind (arith, nat_tests)

-- at another node it counts for nothing
pub times_won-won_other : (m n : ℕ) (st new : Status) (v : View) → m ≢ n → times_won m st (won v n new) ≡ times_won m st v
times_won-won_other m n Free new v ne = refl
times_won-won_other m n Split Free v ne = refl
times_won-won_other m n Split Split v ne = times_other m n v.split ne
times_won-won_other m n Split (Claimed q) v ne = refl
times_won-won_other m n Split (Partial q) v ne = refl
times_won-won_other m n Split (Complete q) v ne = refl
times_won-won_other m n (Claimed p) Free v ne = refl
times_won-won_other m n (Claimed p) Split v ne = refl
times_won-won_other m n (Claimed p) (Claimed q) v ne = times_with_other m p n q v.claimed ne
times_won-won_other m n (Claimed p) (Partial q) v ne = refl
times_won-won_other m n (Claimed p) (Complete q) v ne = refl
times_won-won_other m n (Partial p) Free v ne = refl
times_won-won_other m n (Partial p) Split v ne = refl
times_won-won_other m n (Partial p) (Claimed q) v ne = refl
times_won-won_other m n (Partial p) (Partial q) v ne = times_with_other m p n q v.begun ne
times_won-won_other m n (Partial p) (Complete q) v ne = refl
times_won-won_other m n (Complete p) Free v ne = refl
times_won-won_other m n (Complete p) Split v ne = refl
times_won-won_other m n (Complete p) (Claimed q) v ne = refl
times_won-won_other m n (Complete p) (Partial q) v ne = refl
times_won-won_other m n (Complete p) (Complete q) v ne = times_with_other m p n q v.completed ne

-- a look counts for nothing
pub times_won-saw : (m n : ℕ) (st found : Status) (v : View) → times_won m st (saw v n found) ≡ times_won m st v
times_won-saw m n Free found v = refl
times_won-saw m n Split found v = refl
times_won-saw m n (Claimed p) found v = refl
times_won-saw m n (Partial p) found v = refl
times_won-saw m n (Complete p) found v = refl

pub SameRole-won : (v : View) (n : ℕ) (st : Status) → SameRole v (won v n st)
SameRole-won v n Free = record { first = refl; spent = refl; given = refl; taken = refl }
SameRole-won v n Split = record { first = refl; spent = refl; given = refl; taken = refl }
SameRole-won v n (Claimed p) = record { first = refl; spent = refl; given = refl; taken = refl }
SameRole-won v n (Partial p) = record { first = refl; spent = refl; given = refl; taken = refl }
SameRole-won v n (Complete p) = record { first = refl; spent = refl; given = refl; taken = refl }

pub looked-won : (v : View) (n : ℕ) (st : Status) → (won v n st).looked ≡ v.looked
looked-won v n Free = refl
looked-won v n Split = refl
looked-won v n (Claimed p) = refl
looked-won v n (Partial p) = refl
looked-won v n (Complete p) = refl

only_at : {A : Type 0} (a b : A) (k : ℕ) → k < 1 → slice_index_or (a ∷ []) k b ≡ b → b ≡ a
only_at a b zero h e = sym e
only_at a b (suc k) h e = absurd (omega arith)

pub only : {A : Type 0} (a b : A) → Contains (a ∷ []) b → b ≡ a
only a b h = only_at a b h.0 h.1 h.2

-- what a seat has seen after a look: what it found, or what it had seen
pub HasSeen-saw : (v : View) (n m : ℕ) (found st : Status) → HasSeen (saw v n found) m st → ((m ≡ n) × (st ≡ found)) ⊎ HasSeen v m st
HasSeen-saw v n m found st h =
    ⊎_elim (λ (here : Contains ((n, found) ∷ []) (m, st)). inl (ap (λ (x : ℕ × Status). x.0) (only (n, found) (m, st) here), ap (λ (x : ℕ × Status). x.1) (only (n, found) (m, st) here))) (λ (there : HasSeen v m st). inr there)
    (Contains-append_cases ((n, found) ∷ []) v.looked (m, st) h)

pub HasSeen-saw_new : (v : View) (n : ℕ) (found : Status) → HasSeen (saw v n found) n found
HasSeen-saw_new v n found = (0, omega arith, refl)
