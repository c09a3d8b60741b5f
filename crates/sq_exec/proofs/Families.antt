-- The families of the root keys that a partition owns.
use Rattle.std.proofs.Common.{⊎_elim, ◌≡◌, ℕ, Bool, true, false, [], ◌∷◌, refl, sym, ap, ◌∙◌, arith, true≢false, length}
use Rattle.std.specs.Prelude.{◌+◌, ◌<◌, ◌≢◌, ◌==◌, ◌&&◌, if◌then◌else◌, not, nat_le, nat_lt, map, filter, Option, Some, None, is_some, unwrap_or}
use Rattle.std.specs.List.{list_all}
use Rattle.std.specs.Ordering.{nat_cmp, is_lt, eq_by_cmp}
use Rattle.std.specs.Cmp.{unsigned_tied}
use Rattle.std.specs.FinMap.{get, empty, get-empty}
use Rattle.std.specs.FinMap.Entries.{find, below_all, is_sorted}
use Rattle.std.proofs.lemmas.Bool.{ne_eqb, eq-eqb, le-leb, and_from, and_parts}
use Rattle.std.proofs.lemmas.Bool.Decides.{eqb_tells}
use Rattle.sq_schema.specs.Effect.{RowList}
use Rattle.sq_schema.specs.Family.{FamilyValue}
use Rattle.sq_schema.specs.Rows.{is_rooted}
use Rattle.sq_schema.specs.Table.{TableValue, rows_in, is_opening}
use Rattle.sq_plan.specs.PlanValue.{PlanValue, owner}
use Rattle.sq_store.specs.ChunkValue.{are_within}
use Rattle.sq_store.specs.StoreValue.{family_in, with_families}
use Rattle.sq_store.proofs.Order.{less_from_cmp}
use Rattle.sq_store.proofs.Rising.{get-with_families}
use Rattle.sq_store.specs.Opened.{opened_family, opened_families}
use Rattle.sq_exec.specs.Opened.{opened_at}

-- the root keys are this one or later ones
abbrev from_key : ℕ → TableValue → Bool
from_key lo table = list_all (λ entry. nat_le lo entry.0) table

later : (x : ℕ) (table : TableValue) → below_all nat_cmp x table ≡ true → from_key (x + 1) table ≡ true
later x [] e = refl
later x (entry ∷ table) e =
    let first : x < entry.0 = less_from_cmp x entry.0 (and_parts (is_lt (nat_cmp x entry.0)) (below_all nat_cmp x table) e).0 in
    and_from (nat_le (x + 1) entry.0) (from_key (x + 1) table) (le-leb (x + 1) entry.0 (omega (arith, first)))
    (later x table (and_parts (is_lt (nat_cmp x entry.0)) (below_all nat_cmp x table) e).1)

within_step : (lo hi : ℕ) (entry : ℕ × RowList) (rest : TableValue) (b : Bool) → nat_le lo entry.0 ≡ true → nat_lt entry.0 hi ≡ true
    → are_within (entry.0 + 1) hi (map opened_family rest) ≡ true → are_within lo hi (map opened_family rest) ≡ true
    → are_within lo hi (map opened_family (if b then entry ∷ rest else rest)) ≡ true
within_step lo hi entry rest true from below after same =
    and_from (nat_le lo entry.0) (nat_lt entry.0 hi && are_within (entry.0 + 1) hi (map opened_family rest)) from
    (and_from (nat_lt entry.0 hi) (are_within (entry.0 + 1) hi (map opened_family rest)) below after)
within_step lo hi entry rest false from below after same = same

-- their root keys rise
within : (plan : PlanValue) (part lo hi : ℕ) (table : TableValue) → from_key lo table ≡ true → is_sorted nat_cmp table ≡ true
    → list_all (λ entry. nat_lt entry.0 hi) table ≡ true → are_within lo hi (opened_families plan part table) ≡ true
within plan part lo hi [] from rising below = refl
within plan part lo hi (entry ∷ table) from rising below =
    let above : from_key (entry.0 + 1) table ≡ true = later entry.0 table (and_parts (below_all nat_cmp entry.0 table) (is_sorted nat_cmp table) rising).0 in
    let rising_rest : is_sorted nat_cmp table ≡ true = (and_parts (below_all nat_cmp entry.0 table) (is_sorted nat_cmp table) rising).1 in
    let below_rest : list_all (λ (e : ℕ × RowList). nat_lt e.0 hi) table ≡ true = (and_parts (nat_lt entry.0 hi) (list_all (λ (e : ℕ × RowList). nat_lt e.0 hi) table) below).1 in
    within_step lo hi entry (filter (λ (e : ℕ × RowList). owner plan e.0 == part) table) (owner plan entry.0 == part)
    (and_parts (nat_le lo entry.0) (from_key lo table) from).0
    (and_parts (nat_lt entry.0 hi) (list_all (λ (e : ℕ × RowList). nat_lt e.0 hi) table) below).0
    (within plan part (entry.0 + 1) hi table above rising_rest below_rest)
    (within plan part lo hi table (and_parts (nat_le lo entry.0) (from_key lo table) from).1 rising_rest below_rest)

all_from_zero : (table : TableValue) → from_key 0 table ≡ true
all_from_zero [] = refl
all_from_zero (entry ∷ table) = and_from (nat_le 0 entry.0) (from_key 0 table) (le-leb 0 entry.0 (omega arith)) (all_from_zero table)

pub opened_within : (plan : PlanValue) (part hi : ℕ) (table : TableValue) → is_sorted nat_cmp table ≡ true
    → list_all (λ entry. nat_lt entry.0 hi) table ≡ true → are_within 0 hi (opened_families plan part table) ≡ true
opened_within plan part hi table rising below = within plan part 0 hi table (all_from_zero table) rising below

not_first : (root : ℕ) (entry : ℕ × RowList) (rest : TableValue) (b : Bool) → (entry.0 == root) ≡ false
    → family_in (map opened_family (if b then entry ∷ rest else rest)) root ≡ family_in (map opened_family rest) root
not_first root entry rest true other = ap (λ c. if c then Some (opened_family entry) else family_in (map opened_family rest) root) other
not_first root entry rest false other = refl

-- another partition has no family of the root key
elsewhere : (plan : PlanValue) (part root : ℕ) (table : TableValue) → (owner plan root == part) ≡ false → family_in (opened_families plan part table) root ≡ None
elsewhere plan part root [] other = refl
elsewhere plan part root (entry ∷ table) other =
    by_owner (owner plan entry.0 == part) refl (elsewhere plan part root table other)
  where
    rest : TableValue
    rest = filter (λ (e : ℕ × RowList). owner plan e.0 == part) table

    by_owner : (b : Bool) → (owner plan entry.0 == part) ≡ b → family_in (map opened_family rest) root ≡ None → family_in (map opened_family (if b then entry ∷ rest else rest)) root ≡ None
    by_owner false e none = none
    by_owner true e none =
        not_first root entry rest true (ne_eqb entry.0 root (λ same. absurd (true≢false (sym e ∙ ap (λ k. owner plan k == part) same ∙ other)))) ∙ none

-- its owner has its family, where it has rows
at_owner : (plan : PlanValue) (part root : ℕ) (table : TableValue) → (owner plan root == part) ≡ true → list_all (λ entry. is_opening entry.1) table ≡ true
    → family_in (opened_families plan part table) root ≡ opened_at (rows_in table root) root
at_owner plan part root [] owns each = refl
at_owner plan part root (entry ∷ table) owns each =
    let here : is_opening entry.1 ≡ true = (and_parts (is_opening entry.1) (list_all (λ (e : ℕ × RowList). is_opening e.1) table) each).0 in
    let some : not (length entry.1 == 0) ≡ true = (and_parts (not (length entry.1 == 0)) (is_rooted entry.1) here).0 in
    let after = at_owner plan part root table owns (and_parts (is_opening entry.1) (list_all (λ (e : ℕ × RowList). is_opening e.1) table) each).1 in
    let rest = filter (λ (e : ℕ × RowList). owner plan e.0 == part) table in
    ⊎_elim
    (λ (same : (entry.0 == root ≡ true) × (entry.0 ≡ root)).
    let kept : (owner plan entry.0 == part) ≡ true = ap (λ k. owner plan k == part) same.1 ∙ owns in
    let tied : eq_by_cmp nat_cmp root entry.0 ≡ true = unsigned_tied root entry.0 ∙ eq-eqb root entry.0 (sym same.1) in
    ap (λ b. family_in (map opened_family (if b then entry ∷ rest else rest)) root) kept
    ∙ ap (λ b. if b then Some (opened_family entry) else family_in (map opened_family rest) root) same.0
    ∙ ap (λ k. Some (opened_family (k, entry.1))) same.1
    ∙ sym (ap (λ b. opened_at (unwrap_or (if b then Some entry.1 else find nat_cmp root table) []) root) tied ∙ ap (λ b. if b then Some (opened_family (root, entry.1)) else None) some))
    (λ (apart : (entry.0 == root ≡ false) × (entry.0 ≢ root)).
    let untied : eq_by_cmp nat_cmp root entry.0 ≡ false = unsigned_tied root entry.0 ∙ ne_eqb root entry.0 (λ same. apart.1 (sym same)) in
    not_first root entry rest (owner plan entry.0 == part) apart.0
    ∙ after
    ∙ sym (ap (λ b. opened_at (unwrap_or (if b then Some entry.1 else find nat_cmp root table) []) root) untied))
    (eqb_tells entry.0 root)

opened_in : (plan : PlanValue) (part root : ℕ) (table : TableValue) (b : Bool) → (owner plan root == part) ≡ b → list_all (λ entry. is_opening entry.1) table ≡ true
    → family_in (opened_families plan part table) root ≡ (if b then opened_at (rows_in table root) root else None)
opened_in plan part root table true owns each = at_owner plan part root table owns each
opened_in plan part root table false other each = elsewhere plan part root table other

only_some : (o : Option FamilyValue) → (if is_some o then o else None) ≡ o
only_some None = refl
only_some (Some family) = refl

-- the store with these families has each family of a root key with rows that the partition owns
pub get_owned : (plan : PlanValue) (part root hi : ℕ) (table : TableValue) → is_sorted nat_cmp table ≡ true → list_all (λ entry. nat_lt entry.0 hi) table ≡ true
    → list_all (λ entry. is_opening entry.1) table ≡ true
    → get (with_families empty (opened_families plan part table)) root ≡ (if owner plan root == part then opened_at (rows_in table root) root else None)
get_owned plan part root hi table rising below each =
    let families = opened_families plan part table in
    get-with_families 0 hi families empty root (opened_within plan part hi table rising below)
    ∙ ap (λ found. if is_some (family_in families root) then family_in families root else found) (get-empty nat_cmp root)
    ∙ only_some (family_in families root)
    ∙ opened_in plan part root table (owner plan root == part) refl each

other_first : {X : Type 0} (a b : Bool) (x : X) → (if b then (if a then Some x else None) else None) ≡ (if a && b then Some x else None)
other_first true b x = refl
other_first false true x = refl
other_first false false x = refl

-- the same, where the rows are looked at first
pub get_opened : (plan : PlanValue) (part root hi : ℕ) (table : TableValue) → is_sorted nat_cmp table ≡ true → list_all (λ entry. nat_lt entry.0 hi) table ≡ true
    → list_all (λ entry. is_opening entry.1) table ≡ true
    → get (with_families empty (opened_families plan part table)) root
    ≡ (if not (length (rows_in table root) == 0) && (owner plan root == part) then Some (opened_family (root, rows_in table root)) else None)
get_opened plan part root hi table rising below each =
    get_owned plan part root hi table rising below each
    ∙ other_first (not (length (rows_in table root) == 0)) (owner plan root == part) (opened_family (root, rows_in table root))
