-- What a seat has done and seen, and how a step changes it.
use Rattle.std.specs.Prelude.{◌≡◌, ℕ, ◌+◌, Bool, not, ◌==◌, ◌&&◌, if◌then◌else◌, List, [], ◌∷◌, ◌++◌, length, Contains}
use Rattle.sq_moves.specs.declared.status.Status.{Status}
use Rattle.sq_moves.specs.declared.status.Status.TheVariants.{Free, Split, Claimed, Partial, Complete}
use Rattle.sq_shared.specs.declared.view.View.{View}

-- the view of a seat that has done nothing
abbrev pub fresh : Bool → Bool → View
fresh first spent =
    record { split = []; claimed = []; begun = []; completed = []; looked = []; first = first; spent = spent; given = 0; taken = 0 }

-- 1 if the test holds, else 0
abbrev pub one_if : Bool → ℕ
one_if test = if test then 1 else 0

-- how often a node is in a list
abbrev pub times : ℕ → List ℕ → ℕ
times n [] = 0
times n (m ∷ ms) = one_if (m == n) + times n ms

-- how often a node is in a list with this pull
abbrev pub times_with : ℕ → ℕ → List (ℕ × ℕ) → ℕ
times_with n pull [] = 0
times_with n pull (e ∷ es) = one_if ((e.0 == n) && (e.1 == pull)) + times_with n pull es

-- how often the seat brought the node to this status
abbrev pub times_won : ℕ → Status → View → ℕ
times_won n Free v = 0
times_won n Split v = times n v.split
times_won n (Claimed pull) v = times_with n pull v.claimed
times_won n (Partial pull) v = times_with n pull v.begun
times_won n (Complete pull) v = times_with n pull v.completed

-- the view after the seat brought the node to this status
abbrev pub won : View → ℕ → Status → View
won v n Free = v
won v n Split = record v { split = n ∷ v.split }
won v n (Claimed pull) = record v { claimed = (n, pull) ∷ v.claimed }
won v n (Partial pull) = record v { begun = (n, pull) ∷ v.begun }
won v n (Complete pull) = record v { completed = (n, pull) ∷ v.completed }

-- the view after the seat found this status at the node
abbrev pub saw : View → ℕ → Status → View
saw v n found = record v { looked = (n, found) ∷ v.looked }

-- the first seat's view after it shared out a seat
abbrev pub gave : View → View
gave v = record v { given = v.given + 1 }

-- the first seat's view after another was joined into it
abbrev pub took : View → View → View
took v w =
    record v {
      split = v.split ++ w.split;
      claimed = v.claimed ++ w.claimed;
      begun = v.begun ++ w.begun;
      completed = v.completed ++ w.completed;
      looked = v.looked ++ w.looked;
      taken = v.taken + 1;
    }

-- the seat found this status at the node
abbrev pub HasSeen : View → ℕ → Status → Type 0
HasSeen v n st = Contains v.looked (n, st)

abbrev pub HasNoLists : View → Type 0
HasNoLists v = (v.split ≡ []) × (v.claimed ≡ []) × (v.begun ≡ []) × (v.completed ≡ []) × (v.looked ≡ [])

-- the seat keeps its role: it is the first seat or not, and has given and taken as many seats
pub record SameRole (v w : View) : Type 0 where
  pub first : w.first ≡ v.first
  pub spent : w.spent ≡ v.spent
  pub given : w.given ≡ v.given
  pub taken : w.taken ≡ v.taken

-- how many entries the lists have together
abbrev pub entries : View → ℕ
entries v = length v.split + length v.claimed + length v.begun + length v.completed + length v.looked

-- 1 for a seat that isn't joined yet
abbrev pub alive : View → ℕ
alive v = one_if (not v.spent)

-- the sum of a number for each view
abbrev pub total : (View → ℕ) → List View → ℕ
total f [] = 0
total f (v ∷ vs) = f v + total f vs
