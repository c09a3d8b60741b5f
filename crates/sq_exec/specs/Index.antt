-- The index of waiting transactions by root key.
use Rattle.std.specs.Prelude.{◌≡◌, ◌≤◌, ℕ, Bool, true, false, ◌==◌, ◌&&◌, ◌⊎◌, if◌then◌else◌, nat_le, nat_lt, ◌||◌, List, Option, Some, None}
use Rattle.std.specs.List.{list_any}
use Rattle.std.specs.Ordering.{nat_cmp, ordering_then}
use Rattle.std.specs.declared.cmp.Ordering.{Ordering}
use Rattle.std.specs.BTreeSet.{BTreeSet, contains}

-- entries are in the order of their root keys, and of their arrival numbers if these are the same
abbrev pub entry_cmp : ℕ × ℕ → ℕ × ℕ → Ordering
entry_cmp x y = ordering_then (nat_cmp x.0 y.0) (nat_cmp x.1 y.1)

-- the index has the root key with the arrival number
abbrev pub has_entry : BTreeSet (ℕ × ℕ) → ℕ → ℕ → Bool
has_entry by_root root number = contains entry_cmp by_root (root, number)

-- the number is one of these
abbrev pub is_among : List ℕ → ℕ → Bool
is_among numbers number = list_any (λ n. number == n) numbers

-- the index has the root key with the arrival number or not, and the number is due or not;
-- otherwise both sets are as they were
pub record SetsEntry (root number : ℕ) (stands is_due : Bool)
    (old : BTreeSet (ℕ × ℕ)) (old_due : List ℕ) (new : BTreeSet (ℕ × ℕ)) (new_due : List ℕ) : Type 0 where
  pub entries : (r n : ℕ) → has_entry new r n ≡ (if (root == r) && (number == n) then stands else has_entry old r n)
  pub due : (n : ℕ) → is_among new_due n ≡ (if number == n then is_due else is_among old_due n)

-- both sets are as they were
pub record HasSameEntries
    (old : BTreeSet (ℕ × ℕ)) (old_due : List ℕ) (new : BTreeSet (ℕ × ℕ)) (new_due : List ℕ) : Type 0 where
  pub entries : (root number : ℕ) → has_entry new root number ≡ has_entry old root number
  pub due : (number : ℕ) → is_among new_due number ≡ is_among old_due number

-- the root key is from lo on and below hi
abbrev pub is_between : ℕ → ℕ → ℕ → Bool
is_between lo hi root = nat_le lo root && nat_lt root hi

-- the index has the arrival number with a root key from lo on and below hi
pub record IsNumberedBetween (by_root : BTreeSet (ℕ × ℕ)) (lo hi number : ℕ) : Type 0 where
  pub root : ℕ
  pub stands : has_entry by_root root number ≡ true
  pub between : is_between lo hi root ≡ true

-- the numbers are those that the set lacks of all root keys from lo on and below hi
pub record LackBetween (by_root : BTreeSet (ℕ × ℕ)) (lo hi : ℕ) (had : List ℕ) (numbers : List ℕ) : Type 0 where
  pub lacking : (number : ℕ) → is_among numbers number ≡ true → is_among had number ≡ false
  pub between : (number : ℕ) → is_among numbers number ≡ true → IsNumberedBetween by_root lo hi number
  pub all : (root number : ℕ) → has_entry by_root root number ≡ true → is_between lo hi root ≡ true
      → (is_among had number || is_among numbers number) ≡ true

-- the set has what it had, and besides only arrival numbers of root keys from lo on and below hi
pub record AddsBetween (by_root : BTreeSet (ℕ × ℕ)) (lo hi : ℕ) (old new : List ℕ) : Type 0 where
  pub kept : (number : ℕ) → is_among old number ≡ true → is_among new number ≡ true
  pub only : (number : ℕ) → is_among new number ≡ true
      → (is_among old number ≡ true) ⊎ IsNumberedBetween by_root lo hi number

-- the set has the arrival numbers of all root keys from lo on and below hi
abbrev pub HasAllBetween : BTreeSet (ℕ × ℕ) → ℕ → ℕ → List ℕ → Type 0
HasAllBetween by_root lo hi numbers =
    (root number : ℕ) → has_entry by_root root number ≡ true → is_between lo hi root ≡ true → is_among numbers number ≡ true

-- the number is the least that the index has with the root key
pub record IsFirstOf (by_root : BTreeSet (ℕ × ℕ)) (root number : ℕ) : Type 0 where
  pub stands : has_entry by_root root number ≡ true
  pub least : (other : ℕ) → has_entry by_root root other ≡ true → number ≤ other

-- the least number that the index has with the root key, if it has one
abbrev pub FirstOf : BTreeSet (ℕ × ℕ) → ℕ → Option ℕ → Type 0
FirstOf by_root root (Some number) = IsFirstOf by_root root number
FirstOf by_root root None = (number : ℕ) → has_entry by_root root number ≡ false
