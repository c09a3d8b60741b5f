-- The families of a store from one root key up to another.
use Rattle.std.proofs.Common.{subst, ⊎_elim, ◌≡◌, ℕ, Bool, true, false, List, [], ◌∷◌, refl, sym, ap, ◌∙◌, arith, true≢false, eq-eqb}
use Rattle.std.specs.Prelude.{◌+◌, ◌<◌, ◌≤◌, ◌≢◌, ◌&&◌, if◌then◌else◌, not, nat_le, nat_lt, map, filter, Option, Some, None, is_some}
use Rattle.std.specs.declared.cmp.Ordering.TheVariants.{Equal}
use Rattle.std.specs.Ordering.{nat_cmp, is_lt, is_eq, eq_by_cmp}
use Rattle.std.specs.Cmp.{unsigned_tied, nat_cmp_total}
use Rattle.std.specs.FinMap.{get, entries, entries_sorted, retain_keys, get-entries, get-retain_keys, is_sorted, from_sorted, get-from_sorted, entries-from_sorted, same_map, nat_cmp-IsAntisymmetric}
use Rattle.std.specs.FinMap.Entries.{find, below_all, where_key, is_sorted-where_key, find-where_key}
use Rattle.std.proofs.lemmas.Bool.{ne_eqb, eqb-true, ltb-true, leb-true, le-leb, lt-leb, le-ltb, lt-ltb, and_left, and_right, cases_lt, cases_eq}
use Rattle.sq_schema.specs.Family.{FamilyValue}
use Rattle.sq_store.specs.InOrder.{are_within, HoldsByRoot}
use Rattle.sq_store.specs.StoreValue.{StoreValue, family_in, families_between, without_between}
use Rattle.sq_store.proofs.Order.{less_from_cmp}
use Rattle.sq_store.proofs.Lists.{from_T}
use Rattle.sq_store.proofs.Rising.{both_left, both_right}

tied_is : (x y : ℕ) → eq_by_cmp nat_cmp x y ≡ true → x ≡ y
tied_is x y e = eqb-true x y (sym (unsigned_tied x y) ∙ e)

-- no entry is at a key up to one that all keys are above
none_upto : (x key : ℕ) (es : List (ℕ × FamilyValue)) → below_all nat_cmp x es ≡ true → key ≤ x → find nat_cmp key es ≡ None
none_upto x key [] e low = refl
none_upto x key (entry ∷ es) e low =
    let above = less_from_cmp x entry.0 (both_left _ _ e) in
    ap (λ b. if b then Some entry.1 else find nat_cmp key es) (unsigned_tied key entry.0 ∙ ne_eqb key entry.0 (λ same. absurd (omega (arith, above, same, low))))
    ∙ none_upto x key es (both_right (is_lt (nat_cmp x entry.0)) _ e) low

-- the families of entries are those of their keys
abbrev AreRooted : List (ℕ × FamilyValue) → Type 0
AreRooted es = (key : ℕ) (family : FamilyValue) → find nat_cmp key es ≡ Some family → family.root ≡ key

found_first : (entry : ℕ × FamilyValue) (es : List (ℕ × FamilyValue)) → find nat_cmp entry.0 (entry ∷ es) ≡ Some entry.1
found_first entry es = ap (λ b. if b then Some entry.1 else find nat_cmp entry.0 es) (unsigned_tied entry.0 entry.0 ∙ eq-eqb entry.0 entry.0 refl)

found_later : (key : ℕ) (entry : ℕ × FamilyValue) (es : List (ℕ × FamilyValue)) → key ≢ entry.0 → find nat_cmp key (entry ∷ es) ≡ find nat_cmp key es
found_later key entry es apart = ap (λ b. if b then Some entry.1 else find nat_cmp key es) (unsigned_tied key entry.0 ∙ ne_eqb key entry.0 apart)

not_none : {X : Type 0} (x : X) → None ≡ Some x → ⊥
not_none x e = cc

rooted_rest : (entry : ℕ × FamilyValue) (es : List (ℕ × FamilyValue)) → is_sorted nat_cmp (entry ∷ es) ≡ true → AreRooted (entry ∷ es) → AreRooted es
rooted_rest entry es sorted rooted key family e =
    rooted key family (found_later key entry es (λ same. not_none family (sym (none_upto entry.0 key es (both_left _ _ sorted) (omega (arith, same))) ∙ e)) ∙ e)

-- a family is found by its root key as its entry is by the key
pub family_in-entries : (es : List (ℕ × FamilyValue)) (key : ℕ) → is_sorted nat_cmp es ≡ true → AreRooted es → family_in (map (λ entry. entry.1) es) key ≡ find nat_cmp key es
family_in-entries [] key sorted rooted = refl
family_in-entries (entry ∷ es) key sorted rooted =
    let root : entry.1.root ≡ entry.0 = rooted entry.0 entry.1 (found_first entry es) in
    ⊎_elim
    (λ (same : key ≡ entry.0). ap (λ b. if b then Some entry.1 else family_in (map (λ e. e.1) es) key) (eq-eqb entry.1.root key (root ∙ sym same))
    ∙ sym (subst (λ k. find nat_cmp k (entry ∷ es) ≡ Some entry.1) (sym same) (found_first entry es)))
    (λ (apart : key ≢ entry.0). ap (λ b. if b then Some entry.1 else family_in (map (λ e. e.1) es) key) (ne_eqb entry.1.root key (λ x. apart (sym x ∙ root)))
    ∙ family_in-entries es key (both_right (below_all nat_cmp entry.0 es) _ sorted) (rooted_rest entry es sorted rooted) ∙ sym (found_later key entry es apart))
    (cases_eq key entry.0)

-- families of sorted entries rise, within the bounds of the keys
pub within-entries : (lo hi : ℕ) (es : List (ℕ × FamilyValue)) → is_sorted nat_cmp es ≡ true → AreRooted es → ((key : ℕ) → is_some (find nat_cmp key es) ≡ true → (lo ≤ key) × (key < hi))
    → are_within lo hi (map (λ entry. entry.1) es) ≡ true
within-entries lo hi [] sorted rooted bounds = refl
within-entries lo hi (entry ∷ es) sorted rooted bounds =
    let root : entry.1.root ≡ entry.0 = rooted entry.0 entry.1 (found_first entry es) in
    let here = bounds entry.0 (ap is_some (found_first entry es)) in
    let rest = within-entries (entry.1.root + 1) hi es (both_right (below_all nat_cmp entry.0 es) _ sorted) (rooted_rest entry es sorted rooted)
    (λ key found. ⊎_elim
    (λ (after : entry.0 < key). (omega (arith, root, after), (bounds key (ap is_some (found_later key entry es (λ same. absurd (omega (arith, after, same)))) ∙ found)).1))
    (λ (upto : key ≤ entry.0). absurd (true≢false (sym found ∙ ap is_some (none_upto entry.0 key es (both_left _ _ sorted) upto))))
    (cases_lt entry.0 key)) in
    (λ i. le-leb lo entry.1.root (omega (arith, root, here.0)) i && (lt-ltb entry.1.root hi (omega (arith, root, here.1)) i && rest i))

-- a store whose families are those of their keys
pub record IsRooted (store : StoreValue) : Type 0 where
  pub root : (key : ℕ) (family : FamilyValue) → get store key ≡ Some family → family.root ≡ key

pub rooted_by : (store : StoreValue) → HoldsByRoot store → IsRooted store
rooted_by store by = record { root = by }

abbrev pub is_between : ℕ → ℕ → ℕ → Bool
is_between lo hi root = nat_le lo root && nat_lt root hi

pub kept : (lo hi : ℕ) (store : StoreValue) (key : ℕ) → get (retain_keys store (is_between lo hi)) key ≡ (if is_between lo hi key then get store key else None)
kept lo hi store key = get-retain_keys store (is_between lo hi) key (λ x tied. ap (is_between lo hi) (sym (tied_is key x (ap is_eq tied))))

-- the entries that a test of the keys keeps
entries-retain_keys : (p : ℕ → Bool) (store : StoreValue) → entries (retain_keys store p) ≡ where_key nat_cmp p (entries store)
entries-retain_keys p store =
    let alike : (q x : ℕ) → nat_cmp q x ≡ Equal → p x ≡ p q = λ q x tied. ap p (sym (tied_is q x (ap is_eq tied))) in
    let es = where_key nat_cmp p (entries store) in
    let sorted = is_sorted-where_key nat_cmp p (entries store) (entries_sorted store) in
    ap entries (same_map nat_cmp_total nat_cmp-IsAntisymmetric (retain_keys store p) (from_sorted es) (λ q.
    get-retain_keys store p q (alike q) ∙ ap (λ found. if p q then found else None) (get-entries store q)
    ∙ sym (get-from_sorted nat_cmp es q sorted ∙ find-where_key nat_cmp p q (alike q) (entries store))))
    ∙ entries-from_sorted nat_cmp es sorted

pub entries_between : (lo hi : ℕ) (store : StoreValue) → map (λ entry. entry.1) (entries (retain_keys store (is_between lo hi))) ≡ families_between store lo hi
entries_between lo hi store = ap (map (λ entry. entry.1)) (entries-retain_keys (is_between lo hi) store)

pub sorted_is : (store : StoreValue) → is_sorted nat_cmp (entries store) ≡ true
sorted_is store = from_T (is_sorted nat_cmp (entries store)) (entries_sorted store)

both_if : (b : Bool) (found : Option FamilyValue) (family : FamilyValue) → (if b then found else None) ≡ Some family → (b ≡ true) × (found ≡ Some family)
both_if true found family e = (refl, e)
both_if false found family e = absurd (not_none family e)

some_if : (b : Bool) (found : Option FamilyValue) → is_some (if b then found else None) ≡ true → b ≡ true
some_if true found e = refl
some_if false found e = absurd (true≢false (sym e))

rooted_kept : (lo hi : ℕ) (store : StoreValue) → IsRooted store → AreRooted (entries (retain_keys store (is_between lo hi)))
rooted_kept lo hi store rooted key family e =
    rooted.root key family (both_if (is_between lo hi key) (get store key) family (sym (kept lo hi store key) ∙ get-entries (retain_keys store (is_between lo hi)) key ∙ e)).1

-- the family of a root key among those between two keys
pub family_in-between : (lo hi : ℕ) (store : StoreValue) (key : ℕ) → IsRooted store → family_in (families_between store lo hi) key ≡ (if nat_le lo key && nat_lt key hi then get store key else None)
family_in-between lo hi store key rooted =
    ap (λ fs. family_in fs key) (sym (entries_between lo hi store))
    ∙ family_in-entries (entries (retain_keys store (is_between lo hi))) key (sorted_is (retain_keys store (is_between lo hi))) (rooted_kept lo hi store rooted)
    ∙ sym (get-entries (retain_keys store (is_between lo hi)) key) ∙ kept lo hi store key

-- the families between two keys rise
pub within-between : (lo hi : ℕ) (store : StoreValue) → IsRooted store → are_within lo hi (families_between store lo hi) ≡ true
within-between lo hi store rooted =
    ap (are_within lo hi) (sym (entries_between lo hi store))
    ∙ within-entries lo hi (entries (retain_keys store (is_between lo hi))) (sorted_is (retain_keys store (is_between lo hi))) (rooted_kept lo hi store rooted)
    (λ key found.
    let b = some_if (is_between lo hi key) (get store key) (ap is_some (sym (kept lo hi store key) ∙ get-entries (retain_keys store (is_between lo hi)) key) ∙ found) in
    (leb-true lo key (both_left _ _ b), ltb-true key hi (both_right (nat_le lo key) _ b)))

-- the store without them
pub get-without : (lo hi : ℕ) (store : StoreValue) (key : ℕ) → get (without_between store lo hi) key ≡ (if nat_le lo key && nat_lt key hi then None else get store key)
get-without lo hi store key =
    get-retain_keys store (λ root. not (is_between lo hi root)) key (λ x tied. ap (λ k. not (is_between lo hi k)) (sym (tied_is key x (ap is_eq tied))))
    ∙ flip (is_between lo hi key) (get store key)
  where
    flip : (b : Bool) (found : Option FamilyValue) → (if not b then found else None) ≡ (if b then None else found)
    flip true found = refl
    flip false found = refl

none_falls : (lo hi key : ℕ) → hi ≤ lo → is_between lo hi key ≡ false
none_falls lo hi key falls =
    ⊎_elim
    (λ (below : key < lo). and_left (nat_le lo key) (nat_lt key hi) (lt-leb lo key below))
    (λ (from : lo ≤ key). and_right (nat_le lo key) (nat_lt key hi) (le-ltb key hi (omega (arith, falls, from))))
    (cases_lt key lo)

-- between bounds that fall there is none
pub between_none : (store : StoreValue) (lo hi : ℕ) → hi ≤ lo → families_between store lo hi ≡ []
between_none store lo hi falls = ap (map (λ entry. entry.1)) (none_passes (entries store))
  where
    none_passes : (es : List (ℕ × FamilyValue)) → filter (λ entry. nat_le lo entry.0 && nat_lt entry.0 hi) es ≡ []
    none_passes [] = refl
    none_passes (entry ∷ es) = rw (none_falls lo hi entry.0 falls) (none_passes es)

pub without_none : (store : StoreValue) (lo hi : ℕ) → hi ≤ lo → without_between store lo hi ≡ store
without_none store lo hi falls =
    same_map nat_cmp_total nat_cmp-IsAntisymmetric (without_between store lo hi) store (λ key. get-without lo hi store key ∙ ap (λ b. if b then None else get store key) (none_falls lo hi key falls))

entries_again : (es : List (ℕ × FamilyValue)) → is_sorted nat_cmp es ≡ true → AreRooted es → es ≡ map (λ family. (family.root, family)) (map (λ entry. entry.1) es)
entries_again [] sorted rooted = refl
entries_again (entry ∷ es) sorted rooted =
    let root : entry.0 ≡ entry.1.root = sym (rooted entry.0 entry.1 (found_first entry es)) in
    let rest = entries_again es (both_right (below_all nat_cmp entry.0 es) _ sorted) (rooted_rest entry es sorted rooted) in
    (λ i. (root i, entry.1) ∷ rest i)

-- the entries of a store whose families are those of their keys are its families with their root keys
pub entries-rooted : (store : StoreValue) → IsRooted store → entries store ≡ map (λ family. (family.root, family)) (map (λ entry. entry.1) (entries store))
entries-rooted store rooted = entries_again (entries store) (sorted_is store) (λ key family e. rooted.root key family (get-entries store key ∙ e))
