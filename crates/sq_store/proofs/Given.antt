-- Families that a store is given: their root keys differ, and none of them is in the store.
use Rattle.std.proofs.Common.{◌≡◌, ⊎_elim, ℕ, zero, suc, Bool, true, false, List, [], ◌∷◌, refl, sym, ap, ◌∙◌, arith, true≢false}
use Rattle.std.specs.Prelude.{◌≢◌, ◌==◌, ◌||◌, cond, not, map, Option, Some, None, is_some, is_none, Contains}
use Rattle.std.specs.List.{list_any, AllByRecursion, IsDistinct}
use Rattle.std.specs.List.Sorted.{IsPermutation}
use Rattle.std.specs.Cmp.{nat_cmp_total, unsigned_tied}
use Rattle.std.proofs.lemmas.Map.Keys.{IsDistinct-IsPermutation}
use Rattle.std.specs.FinMap.{get, insert, get-insert, same_map, nat_cmp-IsAntisymmetric}
use Rattle.std.proofs.lemmas.Bool.{and_parts, and_from, eq-eqb, ne_eqb, eqb-true}
use Rattle.std.proofs.lemmas.Bool.Decides.{eqb_tells}
use Rattle.std.proofs.lemmas.List.Sums.{AllPass-from_list_all, list_all-from_AllPass}
use Rattle.std.proofs.lemmas.List.Sorted.{IsPermutation-sym, IsPermutation-map, All-permutation, Contains-permutation, list_any-IsPermutation}
use Rattle.sq_schema.specs.Family.{FamilyValue}
use Rattle.sq_store.specs.StoreValue.{StoreValue, family_in, with_families, roots_differ, has_none_of}

-- whether one of the families has the root key
abbrev pub names : List FamilyValue → ℕ → Bool
names families root = list_any (λ family. family.root == root) families

not_true : (b : Bool) → not b ≡ true → b ≡ false
not_true true h = absurd (true≢false (sym h))
not_true false h = refl

pub or_false : (a b : Bool) → (a || b) ≡ false → (a ≡ false) × (b ≡ false)
or_false true b h = absurd (true≢false h)
or_false false b h = (refl, h)

-- a family of a root key is found among some exactly if one of them has it
pub found-names : (families : List FamilyValue) (root : ℕ) → is_some (family_in families root) ≡ names families root
found-names [] root = refl
found-names (family ∷ families) root =
    elim (family.root == root) as (λ b. is_some (cond b (Some family) (family_in families root)) ≡ (b || names families root)) [
      | true ↦ refl
      | false ↦ found-names families root
    ]

none_of : (found : Option FamilyValue) → is_some found ≡ false → found ≡ None
none_of None none = refl
none_of (Some family) none = absurd (true≢false none)

pub none_found : (families : List FamilyValue) (root : ℕ) → names families root ≡ false → family_in families root ≡ None
none_found families root none = none_of (family_in families root) (found-names families root ∙ none)

-- what the first of families whose root keys differ is to the others
pub record FirstDiffers (family : FamilyValue) (families : List FamilyValue) : Type 0 where
  pub other : names families family.root ≡ false
  pub rest : roots_differ families ≡ true

pub first_differs : (family : FamilyValue) (families : List FamilyValue) → roots_differ (family ∷ families) ≡ true → FirstDiffers family families
first_differs family families differ =
    let parts = and_parts (not (names families family.root)) (roots_differ families) differ in
    record { other = not_true (names families family.root) parts.0; rest = parts.1 }

-- a store with families more has these, and else what it had
pub get-with_new : (families : List FamilyValue) (store : StoreValue) (key : ℕ) → roots_differ families ≡ true
    → get (with_families store families) key ≡ cond (is_some (family_in families key)) (family_in families key) (get store key)
get-with_new [] store key differ = refl
get-with_new (family ∷ families) store key differ =
    let first = first_differs family families differ in
    get-with_new families (insert store family.root family) key first.rest
    ∙ ap (λ found. cond (is_some (family_in families key)) (family_in families key) found) (get-insert nat_cmp_total store family.root family key ∙ ap (λ b. cond b (Some family) (get store key)) (unsigned_tied key family.root))
    ∙ ⊎_elim
    (λ (same : (family.root == key ≡ true) × (family.root ≡ key)).
    let none : family_in families key ≡ None = ap (family_in families) (sym same.1) ∙ none_found families family.root first.other in
    let here : (key == family.root) ≡ true = eq-eqb key family.root (sym same.1) in
    (λ i. cond (is_some (none i)) (none i) (cond (here i) (Some family) (get store key)))
    ∙ sym (ap (λ b. cond (is_some (cond b (Some family) (family_in families key))) (cond b (Some family) (family_in families key)) (get store key)) same.0))
    (λ (apart : (family.root == key ≡ false) × (family.root ≢ key)).
    let off : (key == family.root) ≡ false = ne_eqb key family.root (λ x. apart.1 (sym x)) in
    ap (λ b. cond (is_some (family_in families key)) (family_in families key) (cond b (Some family) (get store key))) off
    ∙ sym (ap (λ b. cond (is_some (cond b (Some family) (family_in families key))) (cond b (Some family) (family_in families key)) (get store key)) apart.0))
    (eqb_tells family.root key)

-- the family that is found has the root key, and is one of them
record IsFound (families : List FamilyValue) (root : ℕ) (family : FamilyValue) : Type 0 where
  pub one : Contains families family
  pub named : family.root ≡ root

found_is : (families : List FamilyValue) (root : ℕ) (family : FamilyValue) → family_in families root ≡ Some family → IsFound families root family
found_is [] root family found = let none : None ≡ Some family = found in absurd (cc)
found_is (first ∷ families) root family found = by_test (first.root == root) refl (found_is families root family) found
  where
    by_test : (b : Bool) → (first.root == root) ≡ b → (family_in families root ≡ Some family → IsFound families root family) → cond b (Some first) (family_in families root) ≡ Some family → IsFound (first ∷ families) root family
    by_test true same later here =
        let is : first ≡ family = cc in
        record { one = (0, omega arith, is); named = ap (λ f. f.root) (sym is) ∙ eqb-true first.root root same }
    by_test false other later found =
        let rest = later found in
        record { one = (suc rest.one.0, omega (arith, rest.one.1), rest.one.2); named = rest.named }

named_one : (families : List FamilyValue) (family : FamilyValue) → Contains families family → names families family.root ≡ true
named_one [] family (k, within, is) = absurd (omega (arith, within))
named_one (first ∷ families) family (zero, within, is) = ap (λ b. b || names families family.root) (eq-eqb first.root family.root (ap (λ f. f.root) is))
named_one (first ∷ families) family (suc k, within, is) =
    let rest = named_one families family (k, omega (arith, within), is) in
    elim (first.root == family.root) as (λ b. (b || names families family.root) ≡ true) [ true ↦ refl | false ↦ rest ]

-- each of families whose root keys differ is found by its own
one_found : (families : List FamilyValue) (family : FamilyValue) → roots_differ families ≡ true → Contains families family → family_in families family.root ≡ Some family
one_found [] family differ (k, within, is) = absurd (omega (arith, within))
one_found (first ∷ families) family differ (zero, within, is) =
    ap (λ b. cond b (Some first) (family_in families family.root)) (eq-eqb first.root family.root (ap (λ f. f.root) is)) ∙ ap Some is
one_found (first ∷ families) family differ (suc k, within, is) =
    let rest : Contains families family = (k, omega (arith, within), is) in
    let parts = first_differs first families differ in
    let other : first.root ≢ family.root = λ same. true≢false (sym (named_one families family rest) ∙ ap (names families) (sym same) ∙ parts.other) in
    ap (λ b. cond b (Some first) (family_in families family.root)) (ne_eqb first.root family.root other) ∙ one_found families family parts.rest rest

-- the order of families whose root keys differ doesn't matter to what is found among them
found-permutation : (families others : List FamilyValue) (root : ℕ) → IsPermutation families others → roots_differ families ≡ true → family_in others root ≡ family_in families root
found-permutation families others root same differ = by_case (family_in others root) refl
  where
    by_case : (found : Option FamilyValue) → family_in others root ≡ found → found ≡ family_in families root
    by_case None none =
        sym (none_found families root (list_any-IsPermutation (λ family. family.root == root) families others same ∙ sym (found-names others root) ∙ ap is_some none))
    by_case (Some family) found =
        let is = found_is others root family found in
        sym (ap (family_in families) (sym is.named) ∙ one_found families family differ (Contains-permutation others families family (IsPermutation-sym families others same) is.one))

-- nor to the store that they are given to
pub with_families-permutation : (store : StoreValue) (families others : List FamilyValue) → IsPermutation families others → roots_differ families ≡ true → roots_differ others ≡ true
    → with_families store others ≡ with_families store families
with_families-permutation store families others same differ differs =
    same_map nat_cmp_total nat_cmp-IsAntisymmetric (with_families store others) (with_families store families) (λ root.
    let found = found-permutation families others root same differ in
    get-with_new others store root differs ∙ (λ i. cond (is_some (found i)) (found i) (get store root)) ∙ sym (get-with_new families store root differ))

pub has_none_of-permutation : (store : StoreValue) (families others : List FamilyValue) → IsPermutation families others → has_none_of store families ≡ true → has_none_of store others ≡ true
has_none_of-permutation store families others same none =
    let absent = λ (family : FamilyValue). is_none (get store family.root) in
    list_all-from_AllPass absent others (All-permutation (λ family. absent family ≡ true) families others same (AllPass-from_list_all absent families none))

-- a store has none of families where none is at any of their root keys
pub has_none_of-from_each : (store : StoreValue) (families : List FamilyValue) → ((root : ℕ) → is_some (family_in families root) ≡ true → get store root ≡ None) → has_none_of store families ≡ true
has_none_of-from_each store [] none = refl
has_none_of-from_each store (family ∷ families) none =
    and_from (is_none (get store family.root)) (has_none_of store families)
    (ap is_none (none family.root (ap (λ b. is_some (cond b (Some family) (family_in families family.root))) (eq-eqb family.root family.root refl))))
    (has_none_of-from_each store families (λ root found. none root (some_more (family.root == root) (family_in families root) found)))
  where
    some_more : (b : Bool) (found : Option FamilyValue) → is_some found ≡ true → is_some (cond b (Some family) found) ≡ true
    some_more true found some = refl
    some_more false found some = some

-- the root keys of families that differ are distinct
abbrev is_same : ℕ → ℕ → Bool
is_same root other = other == root

is_same-flips : (root other : ℕ) → is_same root other ≡ is_same other root
is_same-flips root other =
    ⊎_elim
    (λ (same : (other == root ≡ true) × (other ≡ root)). same.0 ∙ sym (eq-eqb root other (sym same.1)))
    (λ (apart : (other == root ≡ false) × (other ≢ root)). apart.0 ∙ sym (ne_eqb root other (λ x. apart.1 (sym x))))
    (eqb_tells other root)

others_apart : (families : List FamilyValue) (root : ℕ) → names families root ≡ false → AllByRecursion (λ other. is_same root other ≡ false) (map (λ family. family.root) families)
others_apart [] root none = tt
others_apart (family ∷ families) root none =
    let first = or_false (family.root == root) (names families root) none in
    (first.0, others_apart families root first.1)

names_none : (families : List FamilyValue) (root : ℕ) → AllByRecursion (λ other. is_same root other ≡ false) (map (λ family. family.root) families) → names families root ≡ false
names_none [] root apart = refl
names_none (family ∷ families) root apart = ap (λ b. b || names families root) apart.0 ∙ names_none families root apart.1

roots_distinct : (families : List FamilyValue) → roots_differ families ≡ true → IsDistinct is_same (map (λ family. family.root) families)
unfolding IsDistinct
roots_distinct [] differ = tt
roots_distinct (family ∷ families) differ =
    let first = first_differs family families differ in
    (others_apart families family.root first.other, roots_distinct families first.rest)

distinct_differ : (families : List FamilyValue) → IsDistinct is_same (map (λ family. family.root) families) → roots_differ families ≡ true
unfolding IsDistinct
distinct_differ [] distinct = refl
distinct_differ (family ∷ families) distinct =
    and_from (not (names families family.root)) (roots_differ families) (ap not (names_none families family.root distinct.0)) (distinct_differ families distinct.1)

pub roots_differ-permutation : (families others : List FamilyValue) → IsPermutation families others → roots_differ families ≡ true → roots_differ others ≡ true
roots_differ-permutation families others same differ =
    let root = λ (family : FamilyValue). family.root in
    distinct_differ others (IsDistinct-IsPermutation is_same is_same-flips (map root families) (map root others) (IsPermutation-map root families others same) (roots_distinct families differ))
