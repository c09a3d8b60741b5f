-- The rows of a root key among stores; at most one of them has a family of it.
use Rattle.std.proofs.Common.{◌≡◌, ◌⊎◌, inl, inr, ℕ, zero, suc, ◌==◌, if◌then◌else◌, List, [], ◌∷◌, length, slice_get, Option, Some, None, refl, sym, ap, ◌∙◌, subst, arith}
use Rattle.std.specs.Prelude.{option_and_then}
use Rattle.std.specs.FinMap.{get}
use Rattle.std.proofs.lemmas.Bool.{ne_eqb}
use Rattle.sq_gather.specs.Prelude.{RowList, FamilyValue, rows_of, StoreValue}
use Rattle.sq_audit.specs.Rows.{rows_with, rows_among}

-- the store at this place has a family of the root key
abbrev pub HasIn : List StoreValue → ℕ → ℕ → FamilyValue → Type 0
HasIn stores root part family = option_and_then (λ (store : StoreValue). get store root) (slice_get stores part) ≡ Some family

-- no rows are those of a family without rows
pub rows_alone : (family : FamilyValue) → rows_with [] (Some family) ≡ rows_of family
rows_alone family = by (rows_of family)
  where
    by : (rows : RowList) → (if length rows == 0 then [] else rows) ≡ rows
    by [] = refl
    by (row ∷ rows) = ap (λ b. if b then [] else row ∷ rows) (ne_eqb (length (row ∷ rows)) 0 (λ e. absurd (omega (arith, e))))

-- where none of the stores has a family of the root key, the rows stay
pub rows_stay : (stores : List StoreValue) (root : ℕ) (rows : RowList) → ((part : ℕ) (family : FamilyValue) → HasIn stores root part family → ⊥) → rows_among rows stores root ≡ rows
rows_stay [] root rows none = refl
rows_stay (store ∷ stores) root rows none = by (rows_stay stores root rows (λ part family has. none (suc part) family has)) (get store root) refl
  where
    by : rows_among rows stores root ≡ rows → (found : Option FamilyValue) → get store root ≡ found → rows_among (rows_with rows (get store root)) stores root ≡ rows
    by rest None at = ap (λ found. rows_among (rows_with rows found) stores root) at ∙ rest
    by rest (Some family) at = absurd (none zero family at)

-- where one of them has, and no other, they are its family's if it has some
pub rows_stand : (stores : List StoreValue) (root part : ℕ) (family : FamilyValue) (rows : RowList) → HasIn stores root part family
    → ((other : ℕ) (again : FamilyValue) → HasIn stores root other again → other ≡ part) → rows_among rows stores root ≡ rows_with rows (Some family)
rows_stand [] root zero family rows has once = absurd cc
rows_stand [] root (suc part) family rows has once = absurd cc
rows_stand (store ∷ stores) root zero family rows has once =
    rows_stay stores root (rows_with rows (get store root)) (λ other again at. let same : suc other ≡ 0 = once (suc other) again at in omega (arith, same))
    ∙ ap (rows_with rows) has
rows_stand (store ∷ stores) root (suc part) family rows has once =
    by (rows_stand stores root part family rows has (λ other again at. let same : suc other ≡ suc part = once (suc other) again at in omega (arith, same))) (get store root) refl
  where
    by : rows_among rows stores root ≡ rows_with rows (Some family) → (found : Option FamilyValue) → get store root ≡ found → rows_among (rows_with rows (get store root)) stores root ≡ rows_with rows (Some family)
    by rest None at = ap (λ found. rows_among (rows_with rows found) stores root) at ∙ rest
    by rest (Some first) at = absurd (let same : 0 ≡ suc part = once zero first at in omega (arith, same))

-- rows that stayed, or the root key's family in one of the stores
abbrev pub StayOrCome : List StoreValue → ℕ → RowList → RowList → Type 0
StayOrCome stores root rows now = (now ≡ rows) ⊎ ((part : ℕ) × (family : FamilyValue) × HasIn stores root part family)

come_later : (store : StoreValue) (stores : List StoreValue) (root : ℕ) (rows now : RowList) → StayOrCome stores root rows now → StayOrCome (store ∷ stores) root rows now
come_later store stores root rows now (inl same) = inl same
come_later store stores root rows now (inr one) = inr (suc one.0, one.1, one.2)

-- rows that didn't stay are there of a family
pub rows_come : (stores : List StoreValue) (root : ℕ) (rows : RowList) → StayOrCome stores root rows (rows_among rows stores root)
rows_come [] root rows = inl refl
rows_come (store ∷ stores) root rows = by (rows_come stores root rows) (get store root) refl
  where
    by : StayOrCome stores root rows (rows_among rows stores root) → (found : Option FamilyValue) → get store root ≡ found → StayOrCome (store ∷ stores) root rows (rows_among (rows_with rows (get store root)) stores root)
    by rest None at = subst (λ found. StayOrCome (store ∷ stores) root rows (rows_among (rows_with rows found) stores root)) (sym at) (come_later store stores root rows (rows_among rows stores root) rest)
    by rest (Some family) at = inr (zero, family, at)
