-- What a store has at each root key after one family is put in or taken out.
use Rattle.std.proofs.Common.{⊎_elim, ◌≡◌, ℕ, true, false, sym, ap, ◌∙◌}
use Rattle.std.specs.Prelude.{◌≢◌, cond, Some, None}
use Rattle.std.specs.Ordering.{nat_cmp, eq_by_cmp}
use Rattle.std.specs.Cmp.{nat_cmp_total, unsigned_tied}
use Rattle.std.specs.FinMap.{get, insert, remove, get-insert, get-remove, same_map, nat_cmp-IsAntisymmetric}
use Rattle.std.proofs.lemmas.Bool.{cases_eq, eq-eqb, ne_eqb}
use Rattle.sq_schema.specs.Family.{FamilyValue}
use Rattle.sq_store.specs.StoreValue.{StoreValue}

-- stores that have the same at each root key are the same
pub same_store : (store other : StoreValue) → ((root : ℕ) → get store root ≡ get other root) → store ≡ other
same_store store other same = same_map nat_cmp_total nat_cmp-IsAntisymmetric store other same

-- a root key is another one or isn't
pub at_key : {P : Type 0} (root other : ℕ) → (other ≡ root → P) → (other ≢ root → P) → P
at_key root other same apart = ⊎_elim same apart (cases_eq other root)

pub tied : (root other : ℕ) → other ≡ root → eq_by_cmp nat_cmp other root ≡ true
tied root other same = unsigned_tied other root ∙ eq-eqb other root same

pub untied : (root other : ℕ) → other ≢ root → eq_by_cmp nat_cmp other root ≡ false
untied root other apart = unsigned_tied other root ∙ ne_eqb other root apart

module _ (store : StoreValue) (root : ℕ) where
  pub get-insert_same : (family : FamilyValue) (other : ℕ) → other ≡ root → get (insert store root family) other ≡ Some family
  get-insert_same family other same = get-insert nat_cmp_total store root family other ∙ ap (λ b. cond b (Some family) (get store other)) (tied root other same)

  pub get-insert_other : (family : FamilyValue) (other : ℕ) → other ≢ root → get (insert store root family) other ≡ get store other
  get-insert_other family other apart = get-insert nat_cmp_total store root family other ∙ ap (λ b. cond b (Some family) (get store other)) (untied root other apart)

  pub get-remove_same : (other : ℕ) → other ≡ root → get (remove store root) other ≡ None
  get-remove_same other same = get-remove nat_cmp_total store root other ∙ ap (λ b. cond b None (get store other)) (tied root other same)

  pub get-remove_other : (other : ℕ) → other ≢ root → get (remove store root) other ≡ get store other
  get-remove_other other apart = get-remove nat_cmp_total store root other ∙ ap (λ b. cond b None (get store other)) (untied root other apart)

-- what was put in new may be taken out
pub remove-insert : (store : StoreValue) (root : ℕ) (family : FamilyValue) → get store root ≡ None → remove (insert store root family) root ≡ store
remove-insert store root family none =
    same_store (remove (insert store root family) root) store (λ other.
    at_key root other
    (λ same. get-remove_same (insert store root family) root other same ∙ sym (ap (get store) same ∙ none))
    (λ apart. get-remove_other (insert store root family) root other apart ∙ get-insert_other store root family other apart))
