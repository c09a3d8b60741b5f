-- Where numbers that rise reach a number.
use Rattle.std.proofs.Common.{⊎_elim, ◌≡◌, ◌≢◌, ℕ, ◌-◌, ◌<◌, ◌≤◌, Bool, true, false, ◌||◌, not, List, [], ◌∷◌, map, length, get_or, zero, suc, refl, sym, ap, subst, ◌∙◌, arith}
use Rattle.std.specs.Prelude.{cond, ◌==◌, ◌&&◌, nat_le, nat_lt, find, slice_get, Some, None}
use Rattle.std.specs.Option.{option_map_or}
use Rattle.std.specs.Ordering.{nat_cmp, eq_by_cmp}
use Rattle.std.specs.Cmp.{unsigned_tied}
use Rattle.std.specs.List.{position_or_len, AllByRecursion, insert, remove}
use Rattle.std.specs.List.Sorted.{IsStrictlySortedBy, IsPartitionPoint}
use Rattle.std.specs.declared.cmp.Ordering.TheVariants.{Less}
use Rattle.std.proofs.lemmas.Bool.{true≢false, cases_eq, cases_lt, cases_Bool, cases_order, eq-eqb, ne_eqb, le-leb, lt-leb, leb-true, leb-false, ltb-true, ltb-false}
use Rattle.std.proofs.lemmas.List.{get_or-map, length-map}
use Rattle.std.proofs.lemmas.List.Sums.{position_or_len_is, prefix_len-le-length, fails_before_first, passes_at_first}
use Rattle.std.proofs.lemmas.List.Folds.{find_at}
use Rattle.std.proofs.lemmas.Option.{slice_get_read, slice_get_past}
use Rattle.std.proofs.lemmas.List.Sorted.{IsPermutation-insert, IsPermutation-remove, list_any-IsPermutation}
use Rattle.std.proofs.lemmas.Map.Keys.{any_passes_from_place, sorted_head, sorted_tail, non_decreasing_from_sorted, below_from_sorted, IsDistinct-from_sorted, IsDistinct-IsPermutation, IsDistinct-head}
use Rattle.sq_exec.specs.Index.{is_among}
use Rattle.sq_exec.proofs.Entries.{cmp_less, less_from_less, sorted_cons}

module _ {X : Type 0} (f : X → ℕ) where
  pub rises_by : (xs : List X) → IsStrictlySortedBy nat_cmp (map f xs) → (i j : ℕ) (d : X) → i ≤ j → j < length xs → f (get_or xs i d) ≤ f (get_or xs j d)
  rises_by xs sorted i j d upto inside =
      let mapped : get_or (map f xs) i (f d) ≤ get_or (map f xs) j (f d) = non_decreasing_from_sorted (map f xs) sorted i j (f d) upto (omega (arith, inside, length-map xs f)) in
      omega (arith, mapped, get_or-map f xs i d (f d) (omega (arith, upto, inside)), get_or-map f xs j d (f d) inside)

  pub rises_strictly_by : (xs : List X) → IsStrictlySortedBy nat_cmp (map f xs) → (i j : ℕ) (d : X) → i < j → j < length xs → f (get_or xs i d) < f (get_or xs j d)
  rises_strictly_by xs sorted i j d before inside =
      let mapped : get_or (map f xs) i (f d) < get_or (map f xs) j (f d) = below_from_sorted (map f xs) i j (f d) sorted before (omega (arith, inside, length-map xs f)) in
      omega (arith, mapped, get_or-map f xs i d (f d) (omega (arith, before, inside)), get_or-map f xs j d (f d) inside)

  module _ (number : ℕ) where
    abbrev pub place_by : List X → ℕ
    place_by xs = position_or_len (λ x. nat_le number (f x)) xs

    pub place_within : (xs : List X) → place_by xs ≤ length xs
    place_within xs = prefix_len-le-length (λ x. not (nat_le number (f x))) xs

    pub place_at : (xs : List X) (i : ℕ) (d : X) → i ≤ length xs → ((k : ℕ) → k < i → f (get_or xs k d) < number) → (i < length xs → number ≤ f (get_or xs i d)) → place_by xs ≡ i
    place_at xs i d within low high =
        position_or_len_is (λ x. nat_le number (f x)) xs i d within (λ k below. lt-leb number (f (get_or xs k d)) (low k below)) (λ inside. le-leb number (f (get_or xs i d)) (high inside))

    pub place_parted : (xs : List X) (i : ℕ) (d : X) → i ≤ length xs → IsPartitionPoint (λ x. nat_lt (f x) number ≡ true) (λ x. nat_lt (f x) number ≡ false) xs i → place_by xs ≡ i
    place_parted xs i d within sides =
        place_at xs i d within (λ k below. ltb-true (f (get_or xs k d)) number (sides.0 k d (omega arith) below)) (λ inside. ltb-false (f (get_or xs i d)) number (sides.1 i d (omega arith) inside))

    pub before_place : (xs : List X) (k : ℕ) (d : X) → k < place_by xs → f (get_or xs k d) < number
    before_place xs k d below = leb-false number (f (get_or xs k d)) (fails_before_first (λ x. nat_le number (f x)) xs k d below)

    pub from_place : (xs : List X) (d : X) → place_by xs < length xs → number ≤ f (get_or xs (place_by xs) d)
    from_place xs d inside = leb-true number (f (get_or xs (place_by xs) d)) (passes_at_first (λ x. nat_le number (f x)) xs d inside)

-- a number above the last comes after all
pub place_last : (xs : List ℕ) (number last : ℕ) → IsStrictlySortedBy nat_cmp xs → last ≡ get_or xs (length xs - 1) last → last < number → position_or_len (λ n. nat_le number n) xs ≡ length xs
place_last xs number last sorted is above =
    place_at (λ n. n) number xs (length xs) last (omega arith) (λ k below. omega (arith, above, is, non_decreasing_from_sorted xs sorted k (length xs - 1) last (omega (arith, below)) (omega (arith, below)))) (λ inside. absurd (omega (arith, inside)))

-- one of these numbers is at its place
pub place_here : {X : Type 0} (f : X → ℕ) (xs : List X) (number i : ℕ) (x : X) → IsStrictlySortedBy nat_cmp (map f xs) → i < length xs → x ≡ get_or xs i x → f x ≡ number → position_or_len (λ x. nat_le number (f x)) xs ≡ i
place_here f xs number i x sorted inside is same =
    let own : f x ≡ f (get_or xs i x) = ap f is in
    place_at f number xs i x (omega (arith, inside)) (λ k below. omega (arith, own, same, rises_strictly_by f xs sorted k i x below inside)) (λ _. omega (arith, own, same))

all_later : (y x : ℕ) (xs : List ℕ) → y < x → AllByRecursion (λ n. nat_cmp x n ≡ Less) xs → AllByRecursion (λ n. nat_cmp y n ≡ Less) xs
all_later y x [] below all = tt
all_later y x (n ∷ xs) below all = (cmp_less y n (omega (arith, below, less_from_less x n all.0)), all_later y x xs below all.1)

pub none_among : (number x : ℕ) (xs : List ℕ) → number ≤ x → AllByRecursion (λ n. nat_cmp x n ≡ Less) xs → is_among xs number ≡ false
none_among number x [] upto all = refl
none_among number x (n ∷ xs) upto all = ap (λ b. b || is_among xs number) (ne_eqb number n (λ same. absurd (omega (arith, same, upto, less_from_less x n all.0)))) ∙ none_among number x xs upto all.1

-- a number is among these if the first that isn't below it is it
pub among_first : (number : ℕ) (xs : List ℕ) → IsStrictlySortedBy nat_cmp xs → is_among xs number ≡ option_map_or (λ n. number == n) (find (λ n. nat_le number n) xs) false
among_first number [] sorted = refl
among_first number (x ∷ xs) sorted =
    ⊎_elim
    (λ (same : number ≡ x).
    ap (λ b. b || is_among xs number) (eq-eqb number x same)
    ∙ sym (ap (λ b. option_map_or (λ n. number == n) (cond b (Some x) (find (λ n. nat_le number n) xs)) false) (le-leb number x (omega (arith, same))) ∙ eq-eqb number x same))
    (⊎_elim
    (λ (below : number < x).
    let apart : (number == x) ≡ false = ne_eqb number x (λ same. absurd (omega (arith, same, below))) in
    (λ i. apart i || none_among number x xs (omega (arith, below)) (sorted_head nat_cmp x xs sorted) i)
    ∙ sym (ap (λ b. option_map_or (λ n. number == n) (cond b (Some x) (find (λ n. nat_le number n) xs)) false) (le-leb number x (omega (arith, below))) ∙ apart))
    (λ (above : x < number).
    ap (λ b. b || is_among xs number) (ne_eqb number x (λ same. absurd (omega (arith, same, above))))
    ∙ among_first number xs (sorted_tail nat_cmp x xs sorted)
    ∙ sym (ap (λ b. option_map_or (λ n. number == n) (cond b (Some x) (find (λ n. nat_le number n) xs)) false) (lt-leb number x above))))
    (cases_order number x)

pub sorted_none : IsStrictlySortedBy nat_cmp []
unfolding IsStrictlySortedBy
sorted_none = tt

all_insert : (P : ℕ → Type 0) (xs : List ℕ) (i y : ℕ) → AllByRecursion P xs → P y → AllByRecursion P (insert xs i y)
all_insert P [] zero y all here = (here, tt)
all_insert P [] (suc i) y all here = (here, tt)
all_insert P (x ∷ xs) zero y all here = (here, all)
all_insert P (x ∷ xs) (suc i) y all here = (all.0, all_insert P xs i y all.1 here)

-- one more at its place
pub sorted_insert : (xs : List ℕ) (i y : ℕ) → IsStrictlySortedBy nat_cmp xs → i ≤ length xs → ((k : ℕ) → k < i → get_or xs k y < y) → (i < length xs → y < get_or xs i y) → IsStrictlySortedBy nat_cmp (insert xs i y)
sorted_insert [] zero y sorted within low high = sorted_cons y [] tt sorted
sorted_insert [] (suc i) y sorted within low high = absurd (omega (arith, within))
sorted_insert (x ∷ xs) zero y sorted within low high =
    let below : y < x = high (omega arith) in
    sorted_cons y (x ∷ xs) (cmp_less y x below, all_later y x xs below (sorted_head nat_cmp x xs sorted)) sorted
sorted_insert (x ∷ xs) (suc i) y sorted within low high =
    sorted_cons x (insert xs i y) (all_insert (λ n. nat_cmp x n ≡ Less) xs i y (sorted_head nat_cmp x xs sorted) (cmp_less x y (low 0 (omega arith))))
    (sorted_insert xs i y (sorted_tail nat_cmp x xs sorted) (omega (arith, within)) (λ k below. low (suc k) (omega (arith, below))) (λ inside. high (omega (arith, inside))))

pub among_insert : (xs : List ℕ) (i y n : ℕ) → is_among (insert xs i y) n ≡ ((n == y) || is_among xs n)
among_insert xs i y n = sym (list_any-IsPermutation (λ m. n == m) (y ∷ xs) (insert xs i y) (IsPermutation-insert xs i y))

-- one less
all_remove : (P : ℕ → Type 0) (xs : List ℕ) (i : ℕ) → AllByRecursion P xs → AllByRecursion P (remove xs i)
all_remove P [] zero all = tt
all_remove P [] (suc i) all = tt
all_remove P (x ∷ xs) zero all = all.1
all_remove P (x ∷ xs) (suc i) all = (all.0, all_remove P xs i all.1)

pub sorted_remove : (xs : List ℕ) (i : ℕ) → IsStrictlySortedBy nat_cmp xs → IsStrictlySortedBy nat_cmp (remove xs i)
sorted_remove [] zero sorted = sorted
sorted_remove [] (suc i) sorted = sorted
sorted_remove (x ∷ xs) zero sorted = sorted_tail nat_cmp x xs sorted
sorted_remove (x ∷ xs) (suc i) sorted = sorted_cons x (remove xs i) (all_remove (λ n. nat_cmp x n ≡ Less) xs i (sorted_head nat_cmp x xs sorted)) (sorted_remove xs i (sorted_tail nat_cmp x xs sorted))

none_equal : (x : ℕ) (xs : List ℕ) → AllByRecursion (λ n. eq_by_cmp nat_cmp x n ≡ false) xs → is_among xs x ≡ false
none_equal x [] all = refl
none_equal x (n ∷ xs) all = (λ i. (sym (unsigned_tied x n) ∙ all.0) i || none_equal x xs all.1 i)

flips : (x y : ℕ) → eq_by_cmp nat_cmp x y ≡ eq_by_cmp nat_cmp y x
flips x y = unsigned_tied x y ∙ both ∙ sym (unsigned_tied y x)
  where
    both : (x == y) ≡ (y == x)
    both =
        ⊎_elim
        (λ (same : x ≡ y). eq-eqb x y same ∙ sym (eq-eqb y x (sym same)))
        (λ (apart : x ≢ y). ne_eqb x y apart ∙ sym (ne_eqb y x (λ same. apart (sym same))))
        (cases_eq x y)

pub among_remove : (xs : List ℕ) (i x n : ℕ) → IsStrictlySortedBy nat_cmp xs → i < length xs → x ≡ get_or xs i x → is_among (remove xs i) n ≡ (is_among xs n && not (n == x))
among_remove xs i x n sorted inside is =
    let moved = IsPermutation-remove xs i x inside is in
    let off : is_among (remove xs i) x ≡ false =
    none_equal x (remove xs i) (IsDistinct-head (eq_by_cmp nat_cmp) x (remove xs i) (IsDistinct-IsPermutation (eq_by_cmp nat_cmp) flips xs (x ∷ remove xs i) moved (IsDistinct-from_sorted nat_cmp xs sorted))) in
    let had : is_among xs n ≡ ((n == x) || is_among (remove xs i) n) = list_any-IsPermutation (λ m. n == m) xs (x ∷ remove xs i) moved in
    ⊎_elim
    (λ (same : n ≡ x). ap (is_among (remove xs i)) same ∙ off ∙ sym (ap (λ b. is_among xs n && not b) (eq-eqb n x same) ∙ and_false (is_among xs n)))
    (λ (apart : n ≢ x). sym ((λ k. had k && not (ne_eqb n x apart k)) ∙ (λ k. (ne_eqb n x apart k || is_among (remove xs i) n) && true) ∙ and_true (is_among (remove xs i) n)))
    (cases_eq n x)
  where
    and_false : (b : Bool) → (b && false) ≡ false
    and_false true = refl
    and_false false = refl

    and_true : (b : Bool) → (b && true) ≡ b
    and_true true = refl
    and_true false = refl

-- what is at the place of a number in a list
module _ (xs : List ℕ) (number at : ℕ) (sorted : IsStrictlySortedBy nat_cmp xs) (is : at ≡ position_or_len (λ n. nat_le number n) xs) where
  at_place : slice_get xs at ≡ find (λ n. nat_le number n) xs
  at_place = ap (slice_get xs) is ∙ sym (find_at (λ n. nat_le number n) xs)

  module _ (first : ℕ) (inside : at < length xs) (read : first ≡ get_or xs at first) where
    pub first_at : Some first ≡ find (λ n. nat_le number n) xs
    first_at = sym (slice_get_read xs (length xs) at first refl inside read) ∙ at_place

    pub among_at : (number == first) ≡ is_among xs number
    among_at = sym (among_first number xs sorted ∙ ap (λ r. option_map_or (λ n. number == n) r false) (sym first_at))

  module _ (past : length xs ≤ at) where
    pub none_at : None ≡ find (λ n. nat_le number n) xs
    none_at = sym (slice_get_past xs at past) ∙ at_place

    pub none_among_at : false ≡ is_among xs number
    none_among_at = sym (among_first number xs sorted ∙ ap (λ r. option_map_or (λ n. number == n) r false) (sym none_at))

  -- a number that isn't there is put in
  pub sorted_put : is_among xs number ≡ false → IsStrictlySortedBy nat_cmp (insert xs at number)
  sorted_put off =
      sorted_insert xs at number sorted (subst (λ i. i ≤ length xs) (sym is) (place_within (λ n. n) number xs))
      (λ k below. before_place (λ n. n) number xs k number (subst (λ i. k < i) is below))
      (λ inside.
      let first : ℕ = get_or xs at number in
      let upto : number ≤ first = subst (λ i. number ≤ get_or xs i number) (sym is) (from_place (λ n. n) number xs number (subst (λ i. i < length xs) is inside)) in
      let apart : number ≢ first = λ same. true≢false (sym (any_passes_from_place (λ n. number == n) xs at number (slice_get_read xs (length xs) at number refl inside same) (eq-eqb number number refl)) ∙ off) in
      omega (arith, upto, apart))

-- a number that isn't among these is not taken out
pub without_other : (xs : List ℕ) (number : ℕ) → is_among xs number ≡ false → (n : ℕ) → is_among xs n ≡ (is_among xs n && not (n == number))
without_other xs number off n =
    ⊎_elim
    (λ (same : n ≡ number). ap (is_among xs) same ∙ off ∙ sym ((λ i. (ap (is_among xs) same ∙ off) i && not (n == number))))
    (λ (apart : n ≢ number). sym (ap (λ b. is_among xs n && not b) (ne_eqb n number apart) ∙ and_true (is_among xs n)))
    (cases_eq n number)
  where
    and_true : (b : Bool) → (b && true) ≡ b
    and_true true = refl
    and_true false = refl

-- the first of these numbers from a number on
pub record IsFirstAmong (from : ℕ) (xs : List ℕ) (first : ℕ) : Type 0 where
  pub upto : from ≤ first
  pub here : is_among xs first ≡ true
  pub least : (q : ℕ) → from ≤ q → is_among xs q ≡ true → first ≤ q

pub first_among : (from : ℕ) (xs : List ℕ) (first : ℕ) → IsStrictlySortedBy nat_cmp xs → find (λ n. nat_le from n) xs ≡ Some first → IsFirstAmong from xs first
first_among from [] first sorted found = absurd (cc)
first_among from (x ∷ xs) first sorted found =
    ⊎_elim
    (λ (reached : nat_le from x ≡ true).
    let both : Some x ≡ Some first = sym (ap (λ b. cond b (Some x) (find (λ n. nat_le from n) xs)) reached) ∙ found in
    let same : x ≡ first = cc in
    subst (IsFirstAmong from (x ∷ xs)) same (record {
      upto = leb-true from x reached;
      here = ap (λ b. b || is_among xs x) (eq-eqb x x refl);
      least = λ q upto among.
          ⊎_elim
          (λ (below : q < x).
          let off : is_among (x ∷ xs) q ≡ false = (λ i. ne_eqb q x (λ own. absurd (omega (arith, own, below))) i || none_among q x xs (omega (arith, below)) (sorted_head nat_cmp x xs sorted) i) in
          absurd (true≢false (sym among ∙ off)))
          (λ (from_here : x ≤ q). from_here)
          (cases_lt q x);
    }))
    (λ (low : nat_le from x ≡ false).
    let below : x < from = leb-false from x low in
    let later = first_among from xs first (sorted_tail nat_cmp x xs sorted) (sym (ap (λ b. cond b (Some x) (find (λ n. nat_le from n) xs)) low) ∙ found) in
    record {
      upto = later.upto;
      here = ap (λ b. b || is_among xs first) (ne_eqb first x (λ own. absurd (omega (arith, own, below, later.upto)))) ∙ later.here;
      least = λ q upto among. later.least q upto (sym (ap (λ b. b || is_among xs q) (ne_eqb q x (λ own. absurd (omega (arith, own, below, upto))))) ∙ among);
    })
    (cases_Bool (nat_le from x))

pub none_among_from : (from : ℕ) (xs : List ℕ) → find (λ n. nat_le from n) xs ≡ None → (q : ℕ) → from ≤ q → is_among xs q ≡ false
none_among_from from [] none q upto = refl
none_among_from from (x ∷ xs) none q upto =
    ⊎_elim
    (λ (reached : nat_le from x ≡ true). let both : Some x ≡ None = sym (ap (λ b. cond b (Some x) (find (λ n. nat_le from n) xs)) reached) ∙ none in absurd (cc))
    (λ (low : nat_le from x ≡ false).
    ap (λ b. b || is_among xs q) (ne_eqb q x (λ own. absurd (omega (arith, own, upto, leb-false from x low))))
    ∙ none_among_from from xs (sym (ap (λ b. cond b (Some x) (find (λ n. nat_le from n) xs)) low) ∙ none) q upto)
    (cases_Bool (nat_le from x))
