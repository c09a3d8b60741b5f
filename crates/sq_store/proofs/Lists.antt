-- The store of a list of families.
use Rattle.std.proofs.Common.{◌≡◌, T, ℕ, Bool, true, false, List, [], ◌∷◌, ◌++◌, length, get_or, set, take, drop, refl, sym, ap, ◌∙◌, arith}
use Rattle.std.specs.Prelude.{◌<◌, ◌≤◌, map, cond, ◌==◌, Option, Some, None}
use Rattle.std.specs.declared.cmp.Ordering.TheVariants.{Less, Equal, Greater}
use Rattle.std.specs.List.{insert as put_in, AllWithin}
use Rattle.std.specs.Ordering.{nat_cmp}
use Rattle.std.specs.Cmp.{nat_cmp_total, unsigned_tied, tied_itself}
use Rattle.std.specs.FinMap.{get, insert, entries, entries_sorted, len, get-from_sorted, entries-from_sorted, entries-insert, same_entries_map, len-entries}
use Rattle.std.specs.FinMap.Entries.{find, put, is_sorted}
use Rattle.std.proofs.lemmas.List.{length-map, map-set, map-append, take-map, drop-map, get_or-map}
use Rattle.std.proofs.lemmas.Bool.{eqb-true}
use Rattle.std.proofs.lemmas.Float.{T_from_true}
use Rattle.sq_schema.specs.Family.{FamilyValue}
use Rattle.sq_schema.proofs.Entries.{find_at, put_at, find_gap, put_gap}
use Rattle.sq_store.specs.StoreValue.{StoreValue}
use Rattle.sq_store.specs.InOrder.{families_in, HoldsByRoot}
use Rattle.sq_store.specs.Listed.{keyed_families, roots_rise, store_of, IsRootAt, IsRootGap}
use Rattle.sq_store.proofs.Order.{cmp_less, cmp_greater}

pub entries-store_of : (families : List FamilyValue) → roots_rise families ≡ true → entries (store_of families) ≡ keyed_families families
entries-store_of families rising = entries-from_sorted nat_cmp (keyed_families families) (T_from_true (roots_rise families) rising)

pub get-store_of : (families : List FamilyValue) (root : ℕ) → roots_rise families ≡ true → get (store_of families) root ≡ find nat_cmp root (keyed_families families)
get-store_of families root rising = get-from_sorted nat_cmp (keyed_families families) root (T_from_true (roots_rise families) rising)

pub values-entries_of : (families : List FamilyValue) → map (λ entry. entry.1) (keyed_families families) ≡ families
values-entries_of [] = refl
values-entries_of (family ∷ families) = ap (λ rest. family ∷ rest) (values-entries_of families)

pub families_in-store_of : (families : List FamilyValue) → roots_rise families ≡ true → families_in (store_of families) ≡ families
families_in-store_of families rising = ap (map (λ entry. entry.1)) (entries-store_of families rising) ∙ values-entries_of families

pub len-store_of : (families : List FamilyValue) → roots_rise families ≡ true → len (store_of families) ≡ length families
len-store_of families rising = len-entries (store_of families) ∙ ap length (entries-store_of families rising) ∙ length-map families (λ family. (family.root, family))

pub from_T : (b : Bool) → T b → b ≡ true
from_T true h = refl
from_T false h = absurd h

-- a store with the entries of a list of families is the store of the list
pub record IsListed (store : StoreValue) (families : List FamilyValue) : Type 0 where
  pub rising : roots_rise families ≡ true
  pub same : store ≡ store_of families

pub listed : (store : StoreValue) (families : List FamilyValue) → entries store ≡ keyed_families families → IsListed store families
listed store families is =
    let rising : roots_rise families ≡ true = ap (is_sorted nat_cmp) (sym is) ∙ from_T (is_sorted nat_cmp (entries store)) (entries_sorted store) in
    record { rising = rising; same = same_entries_map store (store_of families) (is ∙ sym (entries-store_of families rising)) }

root_of_found : (root : ℕ) (first family : FamilyValue) (later : Option FamilyValue) (b : Bool) → (root == first.root) ≡ b → (later ≡ Some family → family.root ≡ root) → cond b (Some first) later ≡ Some family → family.root ≡ root
root_of_found root first family later true tied rest found = let same : first ≡ family = cc in ap (λ f. f.root) (sym same) ∙ sym (eqb-true root first.root tied)
root_of_found root first family later false tied rest found = rest found

found_root : (root : ℕ) (families : List FamilyValue) (family : FamilyValue) → find nat_cmp root (keyed_families families) ≡ Some family → family.root ≡ root
found_root root [] family found = cc
found_root root (first ∷ families) family found =
    root_of_found root first family (find nat_cmp root (keyed_families families)) (root == first.root) refl (found_root root families family)
    (ap (λ b. cond b (Some first) (find nat_cmp root (keyed_families families))) (sym (unsigned_tied root first.root)) ∙ found)

pub rooted-store_of : (families : List FamilyValue) → roots_rise families ≡ true → HoldsByRoot (store_of families)
rooted-store_of families rising root family found = found_root root families family (sym (get-store_of families root rising) ∙ found)

-- the family at the place of its root key
entry_at : (families : List FamilyValue) (at : ℕ) (d : FamilyValue) → at < length families → get_or (keyed_families families) at (d.root, d) ≡ ((get_or families at d).root, get_or families at d)
entry_at families at d within = get_or-map (λ family. (family.root, family)) families at d (d.root, d) within

same_tied : (x y : ℕ) → x ≡ y → nat_cmp x y ≡ Equal
same_tied x y same = rw same (tied_itself nat_cmp_total y)

pub get_at : (families : List FamilyValue) (root at : ℕ) (d : FamilyValue) → roots_rise families ≡ true → IsRootAt families root at → get (store_of families) root ≡ Some (get_or families at d)
get_at families root at d rising is =
    let entry = entry_at families at d is.within in
    let within : at < length (keyed_families families) = rw length-map is.within in
    get-store_of families root rising
    ∙ find_at nat_cmp nat_cmp_total root (keyed_families families) at (d.root, d) rising within (same_tied _ root (ap (λ e. e.0) entry ∙ is.here d))
    ∙ ap (λ e. Some e.1) entry

-- a family in the place of one of its root key
pub insert_at : (families : List FamilyValue) (at : ℕ) (family : FamilyValue) → roots_rise families ≡ true → IsRootAt families family.root at → IsListed (insert (store_of families) family.root family) (set families at family)
insert_at families at family rising is =
    let entry = entry_at families at family is.within in
    let within : at < length (keyed_families families) = rw length-map is.within in
    listed (insert (store_of families) family.root family) (set families at family) (
    entries-insert nat_cmp_total (store_of families) family.root family
    ∙ ap (put nat_cmp family.root family) (entries-store_of families rising)
    ∙ put_at nat_cmp nat_cmp_total family.root family (keyed_families families) at (family.root, family) rising within (same_tied _ family.root (ap (λ e. e.0) entry ∙ is.here family))
    ∙ ap (λ key. set (keyed_families families) at (key, family)) (ap (λ e. e.0) entry ∙ is.here family)
    ∙ sym (map-set (λ f. (f.root, f)) families at family))

pub entry_root : (families : List FamilyValue) (k : ℕ) (d : ℕ × FamilyValue) → k < length families → (get_or (keyed_families families) k d).0 ≡ (get_or families k d.1).root
entry_root families k d within = ap (λ e. e.0) (get_or-map (λ family. (family.root, family)) families k d.1 d within)

gap_below : (families : List FamilyValue) (root at : ℕ) → IsRootGap families root at → AllWithin (λ e. nat_cmp e.0 root ≡ Less) (keyed_families families) 0 at
gap_below families root at is k d low high =
    ap (λ key. nat_cmp key root) (entry_root families k d (omega (arith, high, is.within))) ∙ cmp_less _ root (is.below k d.1 low high)

gap_above : (families : List FamilyValue) (root at : ℕ) → IsRootGap families root at → AllWithin (λ e. nat_cmp e.0 root ≡ Greater) (keyed_families families) at (length (keyed_families families))
gap_above families root at is k d low high =
    let within : k < length families = simp length-map at high in
    ap (λ key. nat_cmp key root) (entry_root families k d within) ∙ cmp_greater _ root (is.above k d.1 low within)

pub get_gap : (families : List FamilyValue) (root at : ℕ) → roots_rise families ≡ true → IsRootGap families root at → get (store_of families) root ≡ None
get_gap families root at rising is =
    let within : at ≤ length (keyed_families families) = rw length-map is.within in
    get-store_of families root rising
    ∙ find_gap nat_cmp nat_cmp_total root (keyed_families families) at within (gap_below families root at is) (gap_above families root at is)

-- a family in the gap for its root key
pub insert_gap : (families : List FamilyValue) (at : ℕ) (family : FamilyValue) → roots_rise families ≡ true → IsRootGap families family.root at → IsListed (insert (store_of families) family.root family) (put_in families at family)
insert_gap families at family rising is =
    let within : at ≤ length (keyed_families families) = rw length-map is.within in
    listed (insert (store_of families) family.root family) (put_in families at family) (
    entries-insert nat_cmp_total (store_of families) family.root family
    ∙ ap (put nat_cmp family.root family) (entries-store_of families rising)
    ∙ put_gap nat_cmp nat_cmp_total family.root family (keyed_families families) at within (gap_below families family.root at is) (gap_above families family.root at is)
    ∙ (λ i. take-map (λ f. (f.root, f)) at families i ++ (family.root, family) ∷ drop-map (λ f. (f.root, f)) at families i)
    ∙ sym (map-append (λ f. (f.root, f)) (take at families) (family ∷ drop at families)))
