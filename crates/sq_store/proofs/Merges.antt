-- Two lists of families put together, the one of the lesser root key first.
use Rattle.std.proofs.Common.{◌≡◌, Bool, true, false, List, [], ◌∷◌, ◌++◌, length, get_or, refl, sym, ap, subst, ◌∙◌, arith, true≢false, append_assoc, length-append}
use Rattle.std.specs.Prelude.{◌+◌, ◌-◌, ◌<◌, ◌≢◌, nat_lt, cond, Some, None, is_none}
use Rattle.std.specs.Ordering.{nat_cmp, is_lt}
use Rattle.std.specs.List.{insert as put_in}
use Rattle.std.specs.Cmp.{nat_cmp_total, unsigned_tied}
use Rattle.std.specs.FinMap.{get, insert, get-insert}
use Rattle.std.proofs.lemmas.Bool.{and_parts, and_from, ltb-true, ltb-false, ne_eqb}
use Rattle.std.proofs.lemmas.List.{get_or_append_left, get_or-append_right, get_or_at, take_at, drop_at}
use Rattle.sq_schema.specs.Family.{FamilyValue}
use Rattle.sq_store.specs.StoreValue.{StoreValue, with_families, has_none_of}
use Rattle.sq_store.specs.Listed.{roots_rise, store_of, IsRootAt, IsRootGap}
use Rattle.sq_store.specs.Merging.{is_first_next, TakesNext}
use Rattle.sq_store.proofs.Order.{is_below, first_rises, below_at, less_from_cmp, rising_at, rising_cons, rising_back, rising_swapped}
use Rattle.sq_store.proofs.Lists.{IsListed, get_at, insert_gap}

-- what has been put together goes before two lists that are left, whose families make this store with it
pub record IsMerging (whole : StoreValue) (into left right : List FamilyValue) : Type 0 where
  pub left_rises : roots_rise (into ++ left) ≡ true
  pub right_rises : roots_rise (into ++ right) ≡ true
  pub absent : has_none_of (store_of (into ++ left)) right ≡ true
  pub all : with_families (store_of (into ++ left)) right ≡ whole

from_left : (whole : StoreValue) (into : List FamilyValue) (family : FamilyValue) (left right : List FamilyValue) → IsMerging whole into (family ∷ left) right → roots_rise (family ∷ right) ≡ true → IsMerging whole (into ++ family ∷ []) left right
from_left whole into family left right m rises =
    let same : into ++ family ∷ left ≡ (into ++ family ∷ []) ++ left = sym (append_assoc into (family ∷ []) left) in
    record {
      left_rises = ap roots_rise (sym same) ∙ m.left_rises;
      right_rises = ap roots_rise (append_assoc into (family ∷ []) right) ∙ rising_swapped into family left right m.left_rises rises;
      absent = ap (λ fs. has_none_of (store_of fs) right) (sym same) ∙ m.absent;
      all = ap (λ fs. with_families (store_of fs) right) (sym same) ∙ m.all;
    }

-- a family that is above what has been put together and below what is left on one side has its place between them
gap_between : (into left : List FamilyValue) (family : FamilyValue) (right : List FamilyValue) → roots_rise (into ++ family ∷ right) ≡ true → roots_rise (family ∷ left) ≡ true → IsRootGap (into ++ left) family.root (length into)
gap_between into left family right after before =
    let here : (d : FamilyValue) → get_or (into ++ family ∷ right) (length into) d ≡ family = λ d. get_or_at into family right d (length into) refl in
    record {
      within = omega (arith, length-append into left);
      below = λ k d low high.
          let less = rising_at (into ++ family ∷ right) k (length into) d after high (omega (arith, length-append into (family ∷ right))) in
          rw (get_or_append_left into left d k high) (rw (get_or_append_left into (family ∷ right) d k high, here d) at less);
      above = λ k d low high.
          rw (get_or-append_right into left (length into) k d refl low)
          (below_at family.root left (k - length into) d (first_rises family left before).below (omega (arith, length-append into left, low, high)));
    }

-- a store has none of the families that are above one which it gets
absent_more : (store : StoreValue) (family : FamilyValue) (families : List FamilyValue) → is_below family.root families ≡ true → has_none_of store families ≡ true → has_none_of (insert store family.root family) families ≡ true
absent_more store family [] below absent = refl
absent_more store family (other ∷ families) below absent =
    let above = and_parts (is_lt (nat_cmp family.root other.root)) (is_below family.root families) below in
    let less = less_from_cmp family.root other.root above.0 in
    let rest = and_parts (is_none (get store other.root)) (has_none_of store families) absent in
    let kept : get (insert store family.root family) other.root ≡ get store other.root =
    get-insert nat_cmp_total store family.root family other.root
    ∙ ap (λ b. cond b (Some family) (get store other.root)) (unsigned_tied other.root family.root ∙ ne_eqb other.root family.root (λ same. absurd (omega (arith, same, less)))) in
    and_from (is_none (get (insert store family.root family) other.root)) (has_none_of (insert store family.root family) families)
    (ap is_none kept ∙ rest.0) (absent_more store family families above.1 rest.1)

from_right : (whole : StoreValue) (into left : List FamilyValue) (family : FamilyValue) (right : List FamilyValue) → IsMerging whole into left (family ∷ right) → roots_rise (family ∷ left) ≡ true → IsMerging whole (into ++ family ∷ []) left right
from_right whole into left family right m rises =
    let store = store_of (into ++ left) in
    let put : put_in (into ++ left) (length into) family ≡ (into ++ family ∷ []) ++ left =
    (λ i. take_at into left (length into) refl i ++ family ∷ drop_at into left (length into) refl i) ∙ sym (append_assoc into (family ∷ []) left) in
    let is : IsListed (insert store family.root family) ((into ++ family ∷ []) ++ left) =
    subst (IsListed (insert store family.root family)) put (insert_gap (into ++ left) (length into) family m.left_rises (gap_between into left family right m.right_rises rises)) in
    record {
      left_rises = is.rising;
      right_rises = ap roots_rise (append_assoc into (family ∷ []) right) ∙ m.right_rises;
      absent = ap (λ s. has_none_of s right) (sym is.same)
          ∙ absent_more store family right (first_rises family right (rising_back into (family ∷ right) m.right_rises)).below (and_parts (is_none (get store family.root)) (has_none_of store right) m.absent).1;
      all = ap (λ s. with_families s right) (sym is.same) ∙ m.all;
    }

-- root keys on the two sides differ
apart_firsts : (into : List FamilyValue) (one other : FamilyValue) (left right : List FamilyValue) → roots_rise (into ++ one ∷ left) ≡ true → has_none_of (store_of (into ++ one ∷ left)) (other ∷ right) ≡ true → one.root ≢ other.root
apart_firsts into one other left right rises absent same =
    let store = store_of (into ++ one ∷ left) in
    let is : IsRootAt (into ++ one ∷ left) other.root (length into) = record {
      within = omega (arith, length-append into (one ∷ left));
      here = λ d. ap (λ f. f.root) (get_or_at into one left d (length into) refl) ∙ same;
    } in
    let none = (and_parts (is_none (get store other.root)) (has_none_of store right) absent).0 in
    true≢false (sym none ∙ ap is_none (get_at (into ++ one ∷ left) other.root (length into) one rises is))

-- a step: the next family goes to the end of what has been put together
pub merging_more : (whole : StoreValue) (into left right : List FamilyValue) (family : FamilyValue) (left_after right_after : List FamilyValue)
    → IsMerging whole into left right → TakesNext (is_first_next left right) left right (Some family) left_after right_after → IsMerging whole (into ++ family ∷ []) left_after right_after
merging_more whole into [] [] family left_after right_after m taken = let none : Some family ≡ None = taken.0.0 in absurd (cc)
merging_more whole into [] (other ∷ right) family left_after right_after m taken =
    let same : other ≡ family = let e : Some family ≡ Some other = taken.0.0 in cc in
    let moved = from_right whole into [] other right m refl in
    subst (λ f. IsMerging whole (into ++ f ∷ []) left_after right_after) same (rw (taken.1, taken.0.1) moved)
merging_more whole into (one ∷ left) [] family left_after right_after m taken =
    let same : one ≡ family = let e : Some family ≡ Some one = taken.0.0 in cc in
    let moved = from_left whole into one left [] m refl in
    subst (λ f. IsMerging whole (into ++ f ∷ []) left_after right_after) same (rw (taken.0.1, taken.1) moved)
merging_more whole into (one ∷ left) (other ∷ right) family left_after right_after m taken = by_test (nat_lt one.root other.root) refl taken
  where
    by_test : (b : Bool) → nat_lt one.root other.root ≡ b → TakesNext b (one ∷ left) (other ∷ right) (Some family) left_after right_after → IsMerging whole (into ++ family ∷ []) left_after right_after
    by_test true is took =
        let same : one ≡ family = let e : Some family ≡ Some one = took.0.0 in cc in
        let less = ltb-true one.root other.root is in
        let moved = from_left whole into one left (other ∷ right) m (rising_cons one other right less (rising_back into (other ∷ right) m.right_rises)) in
        subst (λ f. IsMerging whole (into ++ f ∷ []) left_after right_after) same (rw (took.0.1, took.1) moved)
    by_test false is took =
        let same : other ≡ family = let e : Some family ≡ Some other = took.0.0 in cc in
        let upto = ltb-false one.root other.root is in
        let apart = apart_firsts into one other left right m.left_rises m.absent in
        let less : other.root < one.root = omega (arith, upto, λ (e : one.root ≡ other.root). apart e) in
        let moved = from_right whole into (one ∷ left) other right m (rising_cons other one left less (rising_back into (one ∷ left) m.left_rises)) in
        subst (λ f. IsMerging whole (into ++ f ∷ []) left_after right_after) same (rw (took.1, took.0.1) moved)

-- a step leaves one less
pub left_less : (left right : List FamilyValue) (family : FamilyValue) (left_after right_after : List FamilyValue)
    → TakesNext (is_first_next left right) left right (Some family) left_after right_after → (length left_after + length right_after) + 1 ≡ length left + length right
left_less [] [] family left_after right_after taken = let none : Some family ≡ None = taken.0.0 in absurd (cc)
left_less [] (other ∷ right) family left_after right_after taken = omega (arith, ap length taken.0.1, ap length taken.1)
left_less (one ∷ left) [] family left_after right_after taken = omega (arith, ap length taken.0.1, ap length taken.1)
left_less (one ∷ left) (other ∷ right) family left_after right_after taken = by_test (nat_lt one.root other.root) taken
  where
    by_test : (b : Bool) → TakesNext b (one ∷ left) (other ∷ right) (Some family) left_after right_after → (length left_after + length right_after) + 1 ≡ length (one ∷ left) + length (other ∷ right)
    by_test true took = omega (arith, ap length took.0.1, ap length took.1)
    by_test false took = omega (arith, ap length took.0.1, ap length took.1)
