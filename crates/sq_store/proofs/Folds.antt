-- What a store has at each root key once its logs are folded.
use Rattle.std.proofs.Common.{◌≡◌, ℕ, zero, suc, Bool, true, false, List, [], ◌∷◌, ◌++◌, length, take, drop, set, get_or, refl, sym, ap, ◌∙◌, arith}
use Rattle.std.specs.Prelude.{◌==◌, ◌+◌, ◌<◌, not, map, filter, if◌then◌else◌, cond, Option, Some, None}
use Rattle.std.specs.Ordering.{nat_cmp, is_lt, eq_by_cmp}
use Rattle.std.specs.Cmp.{nat_cmp_total, unsigned_tied}
use Rattle.std.specs.FinMap.{get, entries, get-entries, get-from_entries, is_sorted}
use Rattle.std.specs.FinMap.Entries.{find, below_all}
use Rattle.std.proofs.lemmas.Bool.{and_parts, and_from, ne_eqb, eqb-true, cond_both}
use Rattle.sq_schema.specs.Family.{FamilyValue, rows_of, folded}
use Rattle.sq_store.specs.StoreValue.{StoreValue, fold_of, folded_entries, folded_store}
use Rattle.sq_store.proofs.Order.{less_from_cmp}
use Rattle.sq_store.proofs.Between.{sorted_is}
use Rattle.sq_store.proofs.Lists.{get-store_of}
use Rattle.sq_store.proofs.Keys.{same_store}
use Rattle.sq_store.specs.Listed.{keyed_families, roots_rise, store_of, folded_families}

-- below all keys of entries there is none of them
none_below : (key root : ℕ) (es : List (ℕ × FamilyValue)) → root ≡ key → below_all nat_cmp key es ≡ true → find nat_cmp root es ≡ None
none_below key root [] same below = refl
none_below key root (e ∷ es) same below =
    let parts = and_parts (is_lt (nat_cmp key e.0)) (below_all nat_cmp key es) below in
    let less : key < e.0 = less_from_cmp key e.0 parts.0 in
    ap (λ b. cond b (Some e.1) (find nat_cmp root es)) (unsigned_tied root e.0 ∙ ne_eqb root e.0 (λ at. absurd (omega (arith, same, less, at))))
    ∙ none_below key root es same parts.1

folded_here : (found left : Option FamilyValue) (family : FamilyValue) (here none : Bool) → (length (rows_of family) == 0) ≡ none → (here ≡ true → found ≡ None) → left ≡ fold_of found
    → (if none then left else cond here (Some (folded family)) left) ≡ fold_of (cond here (Some family) found)
folded_here found left family true true is gone rest = rest ∙ ap fold_of (gone refl) ∙ sym (ap (λ b. if b then None else Some (folded family)) is)
folded_here found left family true false is gone rest = sym (ap (λ b. if b then None else Some (folded family)) is)
folded_here found left family false true is gone rest = rest
folded_here found left family false false is gone rest = rest

find_either : (root key : ℕ) (family : FamilyValue) (es : List (ℕ × FamilyValue)) (none : Bool)
    → find nat_cmp root (if none then es else (key, family) ∷ es) ≡ (if none then find nat_cmp root es else cond (eq_by_cmp nat_cmp root key) (Some family) (find nat_cmp root es))
find_either root key family es true = refl
find_either root key family es false = refl

find_folded : (root : ℕ) (es : List (ℕ × FamilyValue)) → is_sorted nat_cmp es ≡ true → find nat_cmp root (folded_entries es) ≡ fold_of (find nat_cmp root es)
find_folded root [] rising = refl
find_folded root (e ∷ es) rising =
    let parts = and_parts (below_all nat_cmp e.0 es) (is_sorted nat_cmp es) rising in
    find_either root e.0 (folded e.1) (folded_entries es) (length (rows_of e.1) == 0)
    ∙ folded_here (find nat_cmp root es) (find nat_cmp root (folded_entries es)) e.1 (eq_by_cmp nat_cmp root e.0) (length (rows_of e.1) == 0) refl
    (λ here. none_below e.0 root es (eqb-true root e.0 (sym (unsigned_tied root e.0) ∙ here)) parts.0) (find_folded root es parts.1)

-- each family starts anew from its rows, and one without rows goes
pub get-folded : (store : StoreValue) (root : ℕ) → get (folded_store store) root ≡ fold_of (get store root)
get-folded store root =
    get-from_entries nat_cmp_total (folded_entries (entries store)) root ∙ find_folded root (entries store) (sorted_is store) ∙ ap fold_of (sym (get-entries store root))

-- so a store that has this at each root key is the folded one
pub is_folded : (store after : StoreValue) → ((root : ℕ) → get after root ≡ fold_of (get store root)) → after ≡ folded_store store
is_folded store after each = same_store after (folded_store store) (λ root. each root ∙ sym (get-folded store root))

-- the first so many families with their logs folded, and the others
abbrev pub folded_to : ℕ → List FamilyValue → List FamilyValue
folded_to count families = map folded (take count families) ++ drop count families

pub folded_to_next : (i : ℕ) (families : List FamilyValue) (none : FamilyValue) → i < length families → set (folded_to i families) i (folded (get_or (folded_to i families) i none)) ≡ folded_to (suc i) families
folded_to_next i [] none lt = absurd (omega arith)
folded_to_next zero (family ∷ families) none lt = refl
folded_to_next (suc i) (family ∷ families) none lt = ap (λ (rest : List FamilyValue). folded family ∷ rest) (folded_to_next i families none (omega arith))

entry_folded : (family : FamilyValue) (families : List FamilyValue) (none : Bool) → folded_entries (keyed_families families) ≡ keyed_families (folded_families families)
    → (if none then folded_entries (keyed_families families) else (family.root, folded family) ∷ folded_entries (keyed_families families))
    ≡ keyed_families (map folded (if not none then family ∷ filter (λ f. not (length (rows_of f) == 0)) families else filter (λ f. not (length (rows_of f) == 0)) families))
entry_folded family families true rest = rest
entry_folded family families false rest = ap (λ (es : List (ℕ × FamilyValue)). (family.root, folded family) ∷ es) rest

-- the entries of families that are folded
entries_folded : (families : List FamilyValue) → folded_entries (keyed_families families) ≡ keyed_families (folded_families families)
entries_folded [] = refl
entries_folded (family ∷ families) = entry_folded family families (length (rows_of family) == 0) (entries_folded families)

below_folded : (key : ℕ) (es : List (ℕ × FamilyValue)) → below_all nat_cmp key es ≡ true → below_all nat_cmp key (folded_entries es) ≡ true
below_folded key [] below = refl
below_folded key (e ∷ es) below =
    let parts = and_parts (is_lt (nat_cmp key e.0)) (below_all nat_cmp key es) below in
    let rest = below_folded key es parts.1 in
    cond_both (length (rows_of e.1) == 0) (folded_entries es) ((e.0, folded e.1) ∷ folded_entries es) (λ left. below_all nat_cmp key left ≡ true)
    (λ none. rest) (λ some. and_from (is_lt (nat_cmp key e.0)) (below_all nat_cmp key (folded_entries es)) parts.0 rest)

sorted_folded : (es : List (ℕ × FamilyValue)) → is_sorted nat_cmp es ≡ true → is_sorted nat_cmp (folded_entries es) ≡ true
sorted_folded [] rising = refl
sorted_folded (e ∷ es) rising =
    let parts = and_parts (below_all nat_cmp e.0 es) (is_sorted nat_cmp es) rising in
    let rest = sorted_folded es parts.1 in
    cond_both (length (rows_of e.1) == 0) (folded_entries es) ((e.0, folded e.1) ∷ folded_entries es) (λ left. is_sorted nat_cmp left ≡ true)
    (λ none. rest) (λ some. and_from (below_all nat_cmp e.0 (folded_entries es)) (is_sorted nat_cmp (folded_entries es)) (below_folded e.0 es parts.0) rest)

-- families whose root keys rise still do once they are folded, and then they are the folded store
pub rise_folded : (families : List FamilyValue) → roots_rise families ≡ true → roots_rise (folded_families families) ≡ true
rise_folded families rising = ap (is_sorted nat_cmp) (sym (entries_folded families)) ∙ sorted_folded (keyed_families families) rising

pub store_folded : (families : List FamilyValue) → roots_rise families ≡ true → store_of (folded_families families) ≡ folded_store (store_of families)
store_folded families rising =
    is_folded (store_of families) (store_of (folded_families families)) (λ root.
    get-store_of (folded_families families) root (rise_folded families rising)
    ∙ ap (find nat_cmp root) (sym (entries_folded families))
    ∙ find_folded root (keyed_families families) rising
    ∙ ap fold_of (sym (get-store_of families root rising)))
