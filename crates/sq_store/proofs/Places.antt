-- Where searches in rising families end.
use Rattle.std.proofs.Common.{◌≡◌, ⊎_elim, ℕ, zero, suc, Bool, true, false, List, [], ◌∷◌, length, get_or, refl, sym, ap, ◌∙◌, arith}
use Rattle.std.specs.Prelude.{◌<◌, ◌≤◌, nat_lt, nat_le, find, slice_get, Option, Some, None, Result, Ok, Err}
use Rattle.std.specs.List.{AllWithin}
use Rattle.std.specs.List.Sorted.{IsSearchInRange, IsBinarySearchResult, IsNonDecreasingBy, IsPartitionedBy, IsPartitionPoint}
use Rattle.std.specs.Borrow.{Bor}
use Rattle.std.specs.Option.{option_copied}
use Rattle.std.specs.Ordering.{nat_cmp, ordering_index}
use Rattle.std.specs.Slice.{IsItemAt}
use Rattle.std.specs.Cmp.{nat_cmp_total}
use Rattle.std.specs.FinMap.{nat_cmp-IsAntisymmetric}
use Rattle.std.proofs.lemmas.Bool.{ltb-true, ltb-false, lt-ltb, le-leb, lt-leb, cases_lt}
use Rattle.std.proofs.lemmas.List.{length-map, get_or_default}
use Rattle.std.proofs.lemmas.Option.{slice_get_read, slice_get_past}
use Rattle.sq_schema.specs.Family.{FamilyValue}
use Rattle.sq_schema.proofs.Entries.{comparisons_rise}
use Rattle.sq_store.specs.StoreValue.{absent}
use Rattle.sq_store.specs.InOrder.{family_from}
use Rattle.sq_store.specs.Listed.{keyed_families, roots_rise, store_of, IsRootPlace, IsStart}
use Rattle.sq_store.proofs.Order.{rising_at, rising_upto, less_from_less, less_from_greater}
use Rattle.sq_store.proofs.Lists.{entry_root, families_in-store_of}

comparisons_at : (families : List FamilyValue) (root : ℕ) → roots_rise families ≡ true → IsNonDecreasingBy (λ family. ordering_index (nat_cmp family.root root)) families
comparisons_at families root rising i j d upto within =
    let inside : j < length (keyed_families families) = rw length-map within in
    let rise = comparisons_rise nat_cmp nat_cmp_total root (keyed_families families) rising i j (d.root, d) upto inside in
    rw (entry_root families i (d.root, d) (omega (arith, upto, within)), entry_root families j (d.root, d) within) at rise

-- a binary search by root key ends at the family of the root key, or at the gap for it
pub searched : (families : List FamilyValue) (root : ℕ) (r : Result ℕ ℕ) → roots_rise families ≡ true → IsSearchInRange r (length families) → IsBinarySearchResult (λ family. nat_cmp family.root root) families r → IsRootPlace families root r
searched families root (Ok at) rising within here =
    record { within = within; here = λ d. nat_cmp-IsAntisymmetric (get_or families at d).root root (here d) }
searched families root (Err at) rising within parted =
    let sides = parted (comparisons_at families root rising) in
    record {
      within = within;
      below = λ k d low high. less_from_less (get_or families k d).root root (sides.0 k d low high);
      above = λ k d low high. less_from_greater (get_or families k d).root root (sides.1 k d low high);
    }

-- one by a bound ends where the families from the bound on start
pub started : (families : List FamilyValue) (key at : ℕ) → roots_rise families ≡ true → at ≤ length families
    → (IsPartitionedBy (λ family. nat_lt family.root key) families → IsPartitionPoint (λ family. nat_lt family.root key ≡ true) (λ family. nat_lt family.root key ≡ false) families at)
    → IsStart families key at
started families key at rising within parted =
    let sides = parted (λ i j d upto inside passes.
    let low = rising_upto families i j d rising upto inside in
    let less = ltb-true (get_or families j d).root key passes in
    lt-ltb (get_or families i d).root key (omega (arith, low, less))) in
    record {
      within = within;
      below = λ k d low high. ltb-true (get_or families k d).root key (sides.0 k d low high);
      from = λ k d low high. ltb-false (get_or families k d).root key (sides.1 k d low high);
    }

-- the families from the root key of one on start there
pub start_at : (families : List FamilyValue) (at : ℕ) (d : FamilyValue) → roots_rise families ≡ true → at < length families → IsStart families (get_or families at d).root at
start_at families at d rising within =
    record {
      within = omega (arith, within);
      below = λ k e low high. rw (get_or_default families at d e within) (rising_at families k at e rising high within);
      from = λ k e low high. rw (get_or_default families at d e within) (rising_upto families at k e rising low high);
    }

-- a lower bound doesn't start later
pub starts_rise : (families : List FamilyValue) (lo hi first last : ℕ) → lo ≤ hi → IsStart families lo first → IsStart families hi last → first ≤ last
starts_rise families lo hi first last bounds low high =
    ⊎_elim
    (λ (later : last < first).
    let below = low.below last (absent 0) (omega arith) later in
    let from = high.from last (absent 0) (omega arith) (omega (arith, later, low.within)) in
    absurd (omega (arith, bounds, below, from)))
    (λ (rise : first ≤ last). rise)
    (cases_lt last first)

find_first : (p : FamilyValue → Bool) (families : List FamilyValue) (at : ℕ) → at ≤ length families → AllWithin (λ family. p family ≡ false) families 0 at → AllWithin (λ family. p family ≡ true) families at (length families) → find p families ≡ slice_get families at
find_first p [] zero within before after = refl
find_first p [] (suc at) within before after = absurd (omega arith)
find_first p (family ∷ families) zero within before after = rw (after 0 family (omega arith) (omega arith)) refl
find_first p (family ∷ families) (suc at) within before after =
    rw (before 0 family (omega arith) (omega arith))
    (find_first p families at (omega arith) (λ k d low high. before (suc k) d (omega arith) (omega arith)) (λ k d low high. after (suc k) d (omega arith) (omega arith)))

-- the family of the least root key from a bound on is the one at the start
pub family_from-store_of : (families : List FamilyValue) (least at : ℕ) → roots_rise families ≡ true → IsStart families least at → family_from (store_of families) least ≡ slice_get families at
family_from-store_of families least at rising is =
    ap (find (λ family. nat_le least family.root)) (families_in-store_of families rising)
    ∙ find_first (λ family. nat_le least family.root) families at is.within
    (λ k d low high. lt-leb least (get_or families k d).root (is.below k d low high))
    (λ k d low high. le-leb least (get_or families k d).root (is.from k d low high))

-- what `get` answers at a place
pub copied_at : (families : List FamilyValue) (at : ℕ) (r : Option (Bor FamilyValue)) → IsItemAt families at r → option_copied r ≡ slice_get families at
copied_at families at None item = sym (slice_get_past families at item.3)
copied_at families at (Some x) item = sym (slice_get_read families (length families) at x.now refl item.3.0 item.1)
