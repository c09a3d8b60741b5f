-- Families whose root keys rise between two bounds.
use Rattle.std.proofs.Common.{◌≡◌, ℕ, zero, suc, true, List, [], ◌∷◌, ◌++◌, length, get_or, refl, ap, ◌∙◌, arith}
use Rattle.std.specs.Prelude.{◌+◌, ◌<◌, ◌≤◌, ◌&&◌, nat_le, nat_lt, filter, cond, Some, None, All}
use Rattle.std.specs.Ordering.{nat_cmp, is_lt}
use Rattle.std.proofs.lemmas.Bool.{and_from, le-leb, lt-ltb, ne_eqb}
use Rattle.std.proofs.lemmas.List.Elements.{All-tail, All-head}
use Rattle.sq_schema.specs.Family.{FamilyValue}
use Rattle.sq_store.specs.InOrder.{are_within}
use Rattle.sq_store.specs.Listed.{roots_rise}
use Rattle.sq_store.specs.StoreValue.{family_in}
use Rattle.sq_store.proofs.Order.{is_below, cmp_less}
use Rattle.sq_store.proofs.Rising.{rises}
use Rattle.sq_store.proofs.Between.{is_between}
use Rattle.sq_store.proofs.Firsts.{not_between_low, not_between_high}

-- what a first family and the rest are together
pub within_cons : (lo hi : ℕ) (family : FamilyValue) (families : List FamilyValue) → lo ≤ family.root → family.root < hi → are_within (family.root + 1) hi families ≡ true → are_within lo hi (family ∷ families) ≡ true
within_cons lo hi family families low high rest =
    and_from (nat_le lo family.root) (nat_lt family.root hi && are_within (family.root + 1) hi families) (le-leb lo family.root low)
    (and_from (nat_lt family.root hi) (are_within (family.root + 1) hi families) (lt-ltb family.root hi high) rest)

-- between wider bounds
pub within_wider : (lo hi low high : ℕ) (families : List FamilyValue) → are_within lo hi families ≡ true → low ≤ lo → hi ≤ high → are_within low high families ≡ true
within_wider lo hi low high [] within less more = refl
within_wider lo hi low high (family ∷ families) within less more =
    let r = rises lo hi family families within in
    within_cons low high family families (omega (arith, r.low, less)) (omega (arith, r.high, more)) (within_wider (family.root + 1) hi (family.root + 1) high families r.rest (omega arith) more)

-- two lists, one behind the other
pub within_append : (lo mid hi : ℕ) (front back : List FamilyValue) → lo ≤ mid → mid ≤ hi → are_within lo mid front ≡ true → are_within mid hi back ≡ true → are_within lo hi (front ++ back) ≡ true
within_append lo mid hi [] back less more first second = within_wider mid hi lo hi back second less (omega arith)
within_append lo mid hi (family ∷ front) back less more first second =
    let r = rises lo mid family front first in
    within_cons lo hi family (front ++ back) r.low (omega (arith, r.high, more)) (within_append (family.root + 1) mid hi front back (omega (arith, r.high)) more r.rest second)

-- the front of a list, and the back
pub within_front : (lo hi : ℕ) (front back : List FamilyValue) → are_within lo hi (front ++ back) ≡ true → are_within lo hi front ≡ true
within_front lo hi [] back within = refl
within_front lo hi (family ∷ front) back within =
    let r = rises lo hi family (front ++ back) within in
    within_cons lo hi family front r.low r.high (within_front (family.root + 1) hi front back r.rest)

pub within_back : (lo hi : ℕ) (front back : List FamilyValue) → are_within lo hi (front ++ back) ≡ true → are_within lo hi back ≡ true
within_back lo hi [] back within = within
within_back lo hi (family ∷ front) back within =
    let r = rises lo hi family (front ++ back) within in
    within_wider (family.root + 1) hi lo hi back (within_back (family.root + 1) hi front back r.rest) (omega (arith, r.low)) (omega arith)

-- with a lower bound above, where all are below it
pub within_below : (lo hi high : ℕ) (families : List FamilyValue) → are_within lo hi families ≡ true → All (λ family. family.root < high) families → are_within lo high families ≡ true
within_below lo hi high [] within below = refl
within_below lo hi high (family ∷ families) within below =
    let r = rises lo hi family families within in
    within_cons lo high family families r.low (All-head (λ (f : FamilyValue). f.root < high) family families below) (within_below (family.root + 1) hi high families r.rest (All-tail (λ (f : FamilyValue). f.root < high) family families below))

-- with a bound from which all are
pub within_from : (lo hi low : ℕ) (families : List FamilyValue) → are_within lo hi families ≡ true → All (λ family. low ≤ family.root) families → are_within low hi families ≡ true
within_from lo hi low [] within from = refl
within_from lo hi low (family ∷ families) within from =
    let r = rises lo hi family families within in
    within_cons low hi family families (All-head (λ (f : FamilyValue). low ≤ f.root) family families from) r.high r.rest

-- each is between the bounds
pub within_each : (lo hi : ℕ) (families : List FamilyValue) → are_within lo hi families ≡ true → (k : ℕ) (d : FamilyValue) → k < length families → (lo ≤ (get_or families k d).root) × ((get_or families k d).root < hi)
within_each lo hi [] within k d inside = absurd (omega arith)
within_each lo hi (family ∷ families) within zero d inside = let r = rises lo hi family families within in (r.low, r.high)
within_each lo hi (family ∷ families) within (suc k) d inside =
    let r = rises lo hi family families within in
    let rest = within_each (family.root + 1) hi families r.rest k d (omega arith) in
    (omega (arith, r.low, rest.0), rest.1)

-- there are no more than root keys between the bounds
pub within_length : (lo hi : ℕ) (families : List FamilyValue) → lo ≤ hi → are_within lo hi families ≡ true → lo + length families ≤ hi
within_length lo hi [] le within = omega arith
within_length lo hi (family ∷ families) le within =
    let r = rises lo hi family families within in
    let rest = within_length (family.root + 1) hi families (omega (arith, r.high)) r.rest in
    omega (arith, rest, r.low)

below_within : (key lo hi : ℕ) (families : List FamilyValue) → key < lo → are_within lo hi families ≡ true → is_below key families ≡ true
below_within key lo hi [] less within = refl
below_within key lo hi (family ∷ families) less within =
    let r = rises lo hi family families within in
    and_from (is_lt (nat_cmp key family.root)) (is_below key families) (ap is_lt (cmp_less key family.root (omega (arith, less, r.low))))
    (below_within key (family.root + 1) hi families (omega (arith, less, r.low)) r.rest)

-- their root keys rise
pub within_rise : (lo hi : ℕ) (families : List FamilyValue) → are_within lo hi families ≡ true → roots_rise families ≡ true
within_rise lo hi [] within = refl
within_rise lo hi (family ∷ families) within =
    let r = rises lo hi family families within in
    and_from (is_below family.root families) (roots_rise families) (below_within family.root (family.root + 1) hi families (omega arith) r.rest) (within_rise (family.root + 1) hi families r.rest)

-- none is found from the upper bound on
pub none_above : (lo hi : ℕ) (families : List FamilyValue) (key : ℕ) → are_within lo hi families ≡ true → hi ≤ key → family_in families key ≡ None
none_above lo hi [] key within above = refl
none_above lo hi (family ∷ families) key within above =
    let r = rises lo hi family families within in
    ap (λ b. cond b (Some family) (family_in families key)) (ne_eqb family.root key (λ same. absurd (omega (arith, r.high, same, above))))
    ∙ none_above (family.root + 1) hi families key r.rest above

pub filter_below : (lo hi : ℕ) (families : List FamilyValue) → are_within lo hi families ≡ true → (low high : ℕ) → hi ≤ low → filter (λ family. is_between low high family.root) families ≡ []
filter_below lo hi [] within low high less = refl
filter_below lo hi (family ∷ families) within low high less =
    let r = rises lo hi family families within in
    ap (λ b. cond b (family ∷ filter (λ f. is_between low high f.root) families) (filter (λ f. is_between low high f.root) families)) (not_between_low low high family.root (omega (arith, less, r.high)))
    ∙ filter_below (family.root + 1) hi families r.rest low high less

pub filter_above : (lo hi : ℕ) (families : List FamilyValue) → are_within lo hi families ≡ true → (low high : ℕ) → high ≤ lo → filter (λ family. is_between low high family.root) families ≡ []
filter_above lo hi [] within low high more = refl
filter_above lo hi (family ∷ families) within low high more =
    let r = rises lo hi family families within in
    ap (λ b. cond b (family ∷ filter (λ f. is_between low high f.root) families) (filter (λ f. is_between low high f.root) families)) (not_between_high low high family.root (omega (arith, more, r.low)))
    ∙ filter_above (family.root + 1) hi families r.rest low high (omega (arith, more, r.low))
