-- Families that are put in where their first root key goes.
use Rattle.std.proofs.Common.{◌≡◌, ℕ, suc, true, List, [], ◌∷◌, ◌++◌, length, get_or, take, drop, refl, ap, ◌∙◌, arith, length-take, append-nil}
use Rattle.std.specs.Prelude.{◌<◌, ◌≤◌, All}
use Rattle.std.specs.Ordering.{nat_cmp, is_lt}
use Rattle.std.specs.FinMap.{empty, empty_of_len}
use Rattle.std.proofs.lemmas.Bool.{and_parts, and_from}
use Rattle.std.proofs.lemmas.List.{take-append-drop, get_or-take}
use Rattle.sq_schema.specs.Family.{FamilyValue}
use Rattle.sq_store.specs.Listed.{roots_rise, store_of, IsStart}
use Rattle.sq_store.proofs.Order.{is_below, first_rises, below_cons}
use Rattle.sq_store.proofs.Lists.{len-store_of}

pub store_of_none : store_of [] ≡ empty
store_of_none = empty_of_len (store_of []) (len-store_of [] refl)

below_front : (key : ℕ) (front back : List FamilyValue) → is_below key (front ++ back) ≡ true → is_below key front ≡ true
below_front key [] back below = refl
below_front key (first ∷ front) back below =
    let parts = and_parts (is_lt (nat_cmp key first.root)) (is_below key (front ++ back)) below in
    and_from (is_lt (nat_cmp key first.root)) (is_below key front) parts.0 (below_front key front back parts.1)

-- the front of a rising list rises
rising_front : (front back : List FamilyValue) → roots_rise (front ++ back) ≡ true → roots_rise front ≡ true
rising_front [] back rising = refl
rising_front (first ∷ front) back rising =
    let parts = first_rises first (front ++ back) rising in
    and_from (is_below first.root front) (roots_rise front) (below_front first.root front back parts.below) (rising_front front back parts.rest)

below_joined : (key : ℕ) (front : List FamilyValue) (family : FamilyValue) (back : List FamilyValue) → is_below key front ≡ true → key < family.root → roots_rise (family ∷ back) ≡ true → is_below key (front ++ family ∷ back) ≡ true
below_joined key [] family back below less follows = below_cons key family back less follows
below_joined key (first ∷ front) family back below less follows =
    let parts = and_parts (is_lt (nat_cmp key first.root)) (is_below key front) below in
    and_from (is_lt (nat_cmp key first.root)) (is_below key (front ++ family ∷ back)) parts.0 (below_joined key front family back parts.1 less follows)

-- a rising list after one whose root keys are all below its first
joined : (front : List FamilyValue) (family : FamilyValue) (back : List FamilyValue) → roots_rise front ≡ true → ((k : ℕ) (d : FamilyValue) → k < length front → (get_or front k d).root < family.root) → roots_rise (family ∷ back) ≡ true → roots_rise (front ++ family ∷ back) ≡ true
joined [] family back rising below follows = follows
joined (first ∷ front) family back rising below follows =
    let parts = first_rises first front rising in
    and_from (is_below first.root (front ++ family ∷ back)) (roots_rise (front ++ family ∷ back))
    (below_joined first.root front family back parts.below (below 0 first (omega arith)) follows)
    (joined front family back parts.rest (λ k d within. below (suc k) d (omega (arith, within))) follows)

-- the families below a bound, and then those of a rising list from it on
pub right_rises : (families given : List FamilyValue) (bound at : ℕ) → roots_rise families ≡ true → roots_rise given ≡ true → All (λ family. bound ≤ family.root) given → IsStart families bound at → roots_rise (take at families ++ given) ≡ true
right_rises families [] bound at rising follows upto start =
    ap roots_rise (append-nil (take at families)) ∙ rising_front (take at families) (drop at families) (ap roots_rise (take-append-drop at families) ∙ rising)
right_rises families (family ∷ given) bound at rising follows upto start =
    joined (take at families) family given (rising_front (take at families) (drop at families) (ap roots_rise (take-append-drop at families) ∙ rising))
    (λ k d within.
    let inside : k < at = omega (arith, within, length-take at families, start.within) in
    let below = start.below k d (omega arith) inside in
    let from = upto 0 family (omega arith) in
    let less : (get_or families k d).root < family.root = omega (arith, below, from) in
    rw (get_or-take at families k d inside) less)
    follows
