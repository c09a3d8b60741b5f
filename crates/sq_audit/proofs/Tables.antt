-- A table that is given the rows of the families of a store, by a walk.
use Rattle.std.proofs.Common.{◌≡◌, ⊎_elim, ℕ, ◌+◌, ◌<◌, ◌≤◌, nat_le, nat_lt, if◌then◌else◌, Some, None, refl, sym, ap, ◌∙◌, arith, eq-eqb}
use Rattle.std.specs.Prelude.{◌≢◌}
use Rattle.std.specs.FinMap.{get}
use Rattle.std.proofs.lemmas.Bool.{cases_lt, cases_eq, and_from, le-leb, lt-ltb, le-ltb, ne_eqb}
use Rattle.sq_gather.specs.Prelude.{RowTable, FamilyValue, StoreValue, family_from, HoldsByRoot, IsFirst}
use Rattle.sq_gather.proofs.Prelude.{first_is, first_none, none_between}
use Rattle.sq_audit.specs.Rows.{rows_with, rows_beside}

-- the rows of the families below a root key were added
abbrev pub AddedTo : RowTable → StoreValue → ℕ → RowTable → Type 0
AddedTo old store at new = (root : ℕ) → new root ≡ (if nat_lt root at then rows_with (old root) (get store root) else old root)

pub added_none : (old : RowTable) (store : StoreValue) → AddedTo old store 0 old
added_none old store root = sym (ap (λ b. if b then rows_with (old root) (get store root) else old root) (le-ltb root 0 (omega arith)))

-- those of one more family: the first from there on
module _ (old table new : RowTable) (store : StoreValue) (at : ℕ) (family : FamilyValue) (by : HoldsByRoot store) (so_far : AddedTo old store at table) (found : family_from store at ≡ Some family)
    (added : (root : ℕ) → new root ≡ rows_beside table family root) where
  first : IsFirst store at (family.root + 1) family
  first = first_is store at by (family.root + 1) family found (omega arith)

  -- from there on the rows are as they were
  as_before : (root : ℕ) → at ≤ root → table root ≡ old root
  as_before root from = so_far root ∙ ap (λ b. if b then rows_with (old root) (get store root) else old root) (le-ltb root at from)

  others : (root : ℕ) → family.root ≢ root → new root ≡ table root
  others root apart = added root ∙ ap (λ b. if b then rows_with (table root) (Some family) else table root) (ne_eqb family.root root apart)

  below : (root : ℕ) → root < family.root → new root ≡ rows_with (old root) (get store root)
  below root low =
      let one = first in
      others root (λ same. absurd (omega (arith, low, same)))
      ∙ ⊎_elim
      (λ (done : root < at). so_far root ∙ ap (λ b. if b then rows_with (old root) (get store root) else old root) (lt-ltb root at done))
      (λ (from : at ≤ root).
      let none = none_between store at family.root root (one.before family.root (omega arith)) (and_from (nat_le at root) (nat_lt root family.root) (le-leb at root from) (lt-ltb root family.root low)) in
      as_before root from ∙ sym (ap (rows_with (old root)) none))
      (cases_lt root at)

  here : new family.root ≡ rows_with (old family.root) (get store family.root)
  here =
      let one = first in
      added family.root
      ∙ ap (λ b. if b then rows_with (table family.root) (Some family) else table family.root) (eq-eqb family.root family.root refl)
      ∙ ap (λ rows. rows_with rows (Some family)) (as_before family.root one.from)
      ∙ sym (ap (rows_with (old family.root)) one.stands)

  pub added_next : AddedTo old store (family.root + 1) new
  added_next root =
      let one = first in
      let start = one.from in
      ⊎_elim
      (λ (low : root < family.root). below root low ∙ sym (ap (λ b. if b then rows_with (old root) (get store root) else old root) (lt-ltb root (family.root + 1) (omega (arith, low)))))
      (λ (from : family.root ≤ root).
      ⊎_elim
      (λ (same : family.root ≡ root).
      (λ i. new (sym same i)) ∙ here ∙ (λ i. rows_with (old (same i)) (get store (same i)))
      ∙ sym (ap (λ b. if b then rows_with (old root) (get store root) else old root) (lt-ltb root (family.root + 1) (omega (arith, same)))))
      (λ (apart : family.root ≢ root).
      others root apart ∙ as_before root (omega (arith, from, start))
      ∙ sym (ap (λ b. if b then rows_with (old root) (get store root) else old root) (le-ltb root (family.root + 1) (omega (arith, from, apart)))))
      (cases_eq family.root root))
      (cases_lt root family.root)

-- where no family is left, those of the whole store were added
pub added_all : (old table : RowTable) (store : StoreValue) (at : ℕ) → HoldsByRoot store → AddedTo old store at table → family_from store at ≡ None → (root : ℕ) → table root ≡ rows_with (old root) (get store root)
added_all old table store at by so_far none root =
    ⊎_elim
    (λ (done : root < at). so_far root ∙ ap (λ b. if b then rows_with (old root) (get store root) else old root) (lt-ltb root at done))
    (λ (from : at ≤ root).
    let gone = none_between store at (root + 1) root (first_none store at by (root + 1) none) (and_from (nat_le at root) (nat_lt root (root + 1)) (le-leb at root from) (lt-ltb root (root + 1) (omega arith))) in
    so_far root ∙ ap (λ b. if b then rows_with (old root) (get store root) else old root) (le-ltb root at from) ∙ sym (ap (rows_with (old root)) gone))
    (cases_lt root at)

-- and from the end of the walk on nothing was
pub added_past : (old table : RowTable) (store : StoreValue) (at : ℕ) → AddedTo old store at table → (root : ℕ) → at ≤ root → table root ≡ old root
added_past old table store at so_far root from = so_far root ∙ ap (λ b. if b then rows_with (old root) (get store root) else old root) (le-ltb root at from)
