-- Lists of families whose root keys strictly rise.
use Rattle.std.proofs.Common.{◌≡◌, ⊎_elim, ℕ, zero, suc, Bool, true, false, List, [], ◌∷◌, ◌++◌, length, get_or, refl, sym, ap, ◌∙◌, arith, add-one, true≢false}
use Rattle.std.specs.Prelude.{◌+◌, ◌<◌, ◌≤◌, ◌≢◌, ◌==◌, ◌||◌, not, nat_lt, cond}
use Rattle.std.specs.List.Sorted.{IsNonDecreasingBy}
use Rattle.std.specs.declared.cmp.Ordering.TheVariants.{Less, Equal, Greater}
use Rattle.std.specs.Ordering.{nat_cmp, is_lt, ordering_reverse}
use Rattle.std.specs.Cmp.{nat_cmp_total}
use Rattle.std.specs.FinMap.Entries.{below_all}
use Rattle.std.proofs.lemmas.Bool.{and_parts, and_from, lt-ltb, le-ltb, eq-eqb, ne_eqb, ltb-true, cases_lt}
use Rattle.sq_schema.specs.Family.{FamilyValue}
use Rattle.sq_schema.proofs.Entries.{below_before}
use Rattle.sq_store.specs.StoreValue.{roots_differ}
use Rattle.sq_store.specs.Listed.{keyed_families, roots_rise}
use Rattle.sq_store.proofs.Given.{names, or_false, first_differs}

pub cmp_less : (x y : ℕ) → x < y → nat_cmp x y ≡ Less
cmp_less x y below = ap (λ b. cond b Less (cond (x == y) Equal Greater)) (lt-ltb x y below)

pub cmp_greater : (x y : ℕ) → y < x → nat_cmp x y ≡ Greater
cmp_greater x y above =
    (λ i. cond (le-ltb x y (omega arith) i) Less (cond (ne_eqb x y (λ same. absurd (omega (arith, same, above))) i) Equal Greater))

pub less_from_cmp : (x y : ℕ) → is_lt (nat_cmp x y) ≡ true → x < y
less_from_cmp x y e = ltb-true x y (first (nat_lt x y) (x == y) e)
  where
    first : (a b : Bool) → is_lt (cond a Less (cond b Equal Greater)) ≡ true → a ≡ true
    first true b h = refl
    first false true h = absurd (true≢false (sym h))
    first false false h = absurd (true≢false (sym h))

pub less_from_less : (x y : ℕ) → nat_cmp x y ≡ Less → x < y
less_from_less x y e = less_from_cmp x y (ap is_lt e)

pub less_from_greater : (x y : ℕ) → nat_cmp x y ≡ Greater → y < x
less_from_greater x y e = less_from_less y x (nat_cmp_total.antisymm y x ∙ ap ordering_reverse e)

-- the key is below the root keys of a list
abbrev pub is_below : ℕ → List FamilyValue → Bool
is_below key families = below_all nat_cmp key (keyed_families families)

pub record FirstRises (family : FamilyValue) (families : List FamilyValue) : Type 0 where
  pub below : is_below family.root families ≡ true
  pub rest : roots_rise families ≡ true

pub first_rises : (family : FamilyValue) (families : List FamilyValue) → roots_rise (family ∷ families) ≡ true → FirstRises family families
first_rises family families rising =
    let parts = and_parts (is_below family.root families) (roots_rise families) rising in
    record { below = parts.0; rest = parts.1 }

pub below_at : (key : ℕ) (families : List FamilyValue) (j : ℕ) (d : FamilyValue) → is_below key families ≡ true → j < length families → key < (get_or families j d).root
below_at key [] j d below within = absurd (omega arith)
below_at key (family ∷ families) zero d below within = less_from_cmp key family.root (and_parts (is_lt (nat_cmp key family.root)) (is_below key families) below).0
below_at key (family ∷ families) (suc j) d below within = below_at key families j d (and_parts (is_lt (nat_cmp key family.root)) (is_below key families) below).1 (omega arith)

-- an earlier root key is below a later one
pub rising_at : (families : List FamilyValue) (i j : ℕ) (d : FamilyValue) → roots_rise families ≡ true → i < j → j < length families → (get_or families i d).root < (get_or families j d).root
rising_at [] i j d rising before within = absurd (omega arith)
rising_at (family ∷ families) i zero d rising before within = absurd (omega arith)
rising_at (family ∷ families) zero (suc j) d rising before within = below_at family.root families j d (first_rises family families rising).below (omega arith)
rising_at (family ∷ families) (suc i) (suc j) d rising before within = rising_at families i j d (first_rises family families rising).rest (omega arith) (omega arith)

-- and not above itself
pub rising_upto : (families : List FamilyValue) (i j : ℕ) (d : FamilyValue) → roots_rise families ≡ true → i ≤ j → j < length families → (get_or families i d).root ≤ (get_or families j d).root
rising_upto families i j d rising upto within =
    ⊎_elim
    (λ (less : i < j). let below = rising_at families i j d rising less within in omega (arith, below))
    (λ (more : j ≤ i). let same : i ≡ j = omega (arith, more, upto) in rw same (omega arith))
    (cases_lt i j)

pub below_cons : (key : ℕ) (family : FamilyValue) (families : List FamilyValue) → key < family.root → roots_rise (family ∷ families) ≡ true → is_below key (family ∷ families) ≡ true
below_cons key family families less rising =
    and_from (is_lt (nat_cmp key family.root)) (is_below key families) (ap is_lt (cmp_less key family.root less))
    (below_before nat_cmp nat_cmp_total key family.root (keyed_families families) (cmp_less key family.root less) (first_rises family families rising).below)

-- a family in front of rising ones
pub rising_cons : (family other : FamilyValue) (families : List FamilyValue) → family.root < other.root → roots_rise (other ∷ families) ≡ true → roots_rise (family ∷ other ∷ families) ≡ true
rising_cons family other families less rising =
    and_from (is_below family.root (other ∷ families)) (roots_rise (other ∷ families)) (below_cons family.root other families less rising) rising

-- the end of a rising list rises
pub rising_back : (front back : List FamilyValue) → roots_rise (front ++ back) ≡ true → roots_rise back ≡ true
rising_back [] back rising = rising
rising_back (family ∷ front) back rising = rising_back front back (first_rises family (front ++ back) rising).rest

below_swapped : (key : ℕ) (front : List FamilyValue) (family : FamilyValue) (back other : List FamilyValue) → is_below key (front ++ family ∷ back) ≡ true → roots_rise (family ∷ other) ≡ true → is_below key (front ++ family ∷ other) ≡ true
below_swapped key [] family back other below rising =
    below_cons key family other (less_from_cmp key family.root (and_parts (is_lt (nat_cmp key family.root)) (is_below key back) below).0) rising
below_swapped key (first ∷ front) family back other below rising =
    let parts = and_parts (is_lt (nat_cmp key first.root)) (is_below key (front ++ family ∷ back)) below in
    and_from (is_lt (nat_cmp key first.root)) (is_below key (front ++ family ∷ other)) parts.0 (below_swapped key front family back other parts.1 rising)

-- what follows a family in a rising list may be any list that rises from it on
pub rising_swapped : (front : List FamilyValue) (family : FamilyValue) (back other : List FamilyValue) → roots_rise (front ++ family ∷ back) ≡ true → roots_rise (family ∷ other) ≡ true → roots_rise (front ++ family ∷ other) ≡ true
rising_swapped [] family back other rising follows = follows
rising_swapped (first ∷ front) family back other rising follows =
    let parts = first_rises first (front ++ family ∷ back) rising in
    and_from (is_below first.root (front ++ family ∷ other)) (roots_rise (front ++ family ∷ other))
    (below_swapped first.root front family back other parts.below follows) (rising_swapped front family back other parts.rest follows)

below_others : (root : ℕ) (families : List FamilyValue) → ((k : ℕ) (d : FamilyValue) → k < length families → root ≤ (get_or families k d).root) → names families root ≡ false → is_below root families ≡ true
below_others root [] upto none = refl
below_others root (family ∷ families) upto none =
    let first = or_false (family.root == root) (names families root) none in
    let other : family.root ≢ root = λ same. true≢false (sym (eq-eqb family.root root same) ∙ first.0) in
    and_from (is_lt (nat_cmp root family.root)) (is_below root families)
    (ap is_lt (cmp_less root family.root (omega (arith, upto 0 family (omega arith), λ (same : family.root ≡ root). other same))))
    (below_others root families (λ k d within. upto (suc k) d (omega (arith, within))) first.1)

-- families whose root keys differ rise once they are sorted
pub rise_sorted : (families : List FamilyValue) → IsNonDecreasingBy (λ family. family.root) families → roots_differ families ≡ true → roots_rise families ≡ true
rise_sorted [] sorted differ = refl
rise_sorted (family ∷ families) sorted differ =
    let first = first_differs family families differ in
    and_from (is_below family.root families) (roots_rise families)
    (below_others family.root families (λ k d within. sorted 0 (suc k) d (omega arith) (omega (arith, within))) first.other)
    (rise_sorted families (λ i j d upto within. sorted (suc i) (suc j) d (omega (arith, upto)) (omega (arith, within))) first.rest)

none_below : (root : ℕ) (families : List FamilyValue) → is_below root families ≡ true → names families root ≡ false
none_below root [] below = refl
none_below root (family ∷ families) below =
    let parts = and_parts (is_lt (nat_cmp root family.root)) (is_below root families) below in
    let less = less_from_cmp root family.root parts.0 in
    ap (λ b. b || names families root) (ne_eqb family.root root (λ same. absurd (omega (arith, same, less)))) ∙ none_below root families parts.1

-- root keys that rise differ
pub rising_differ : (families : List FamilyValue) → roots_rise families ≡ true → roots_differ families ≡ true
rising_differ [] rising = refl
rising_differ (family ∷ families) rising =
    let parts = first_rises family families rising in
    and_from (not (names families family.root)) (roots_differ families) (ap not (none_below family.root families parts.below)) (rising_differ families parts.rest)

-- root keys rise that are each below the next one
pub rising_adjacent : (families : List FamilyValue) → ((k : ℕ) (d : FamilyValue) → k + 1 < length families → (get_or families k d).root < (get_or families (k + 1) d).root) → roots_rise families ≡ true
rising_adjacent [] adjacent = refl
rising_adjacent (family ∷ []) adjacent = refl
rising_adjacent (family ∷ next ∷ families) adjacent =
    rising_cons family next families (adjacent 0 family (omega arith))
    (rising_adjacent (next ∷ families) (λ k d within. rw add-one (rw add-one at (adjacent (suc k) d (omega (arith, within))))))
