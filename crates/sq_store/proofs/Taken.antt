-- A store without families that were taken of it, and with them again.
use Rattle.std.proofs.Common.{◌≡◌, ℕ, Bool, true, false, List, refl, sym, ap, ◌∙◌, true≢false}
use Rattle.std.specs.Prelude.{◌↔◌, ◌&&◌, nat_le, nat_lt, cond, Option, Some, None, is_some, is_none, All}
use Rattle.std.specs.Cmp.{nat_cmp_total}
use Rattle.std.specs.FinMap.{get, same_map, nat_cmp-IsAntisymmetric}
use Rattle.std.proofs.lemmas.List.Elements.{All-weaker}
use Rattle.std.proofs.lemmas.List.Sums.{AllPass-from_list_all, list_all-from_AllPass}
use Rattle.sq_schema.specs.Family.{FamilyValue}
use Rattle.sq_store.specs.StoreValue.{StoreValue, families_between, without_between, with_families, has_none_of}
use Rattle.sq_store.specs.InOrder.{HoldsByRoot}
use Rattle.sq_store.proofs.Given.{get-with_new, has_none_of-from_each}
use Rattle.sq_store.proofs.Rising.{differ-within}
use Rattle.sq_store.proofs.Between.{rooted_by, family_in-between, within-between, get-without}

back : (between : Bool) (found : Option FamilyValue) (left : Option FamilyValue) → left ≡ cond between None found → cond (is_some (cond between found None)) (cond between found None) left ≡ found
back true None left is = is
back true (Some family) left is = refl
back false found left is = is

pub with-taken : (store : StoreValue) (lo hi : ℕ) → HoldsByRoot store → with_families (without_between store lo hi) (families_between store lo hi) ≡ store
with-taken store lo hi by =
    let rooted = rooted_by store by in
    let taken = families_between store lo hi in
    same_map nat_cmp_total nat_cmp-IsAntisymmetric (with_families (without_between store lo hi) taken) store (λ root.
    get-with_new taken (without_between store lo hi) root (differ-within lo hi taken (within-between lo hi store rooted))
    ∙ (λ i. cond (is_some (family_in-between lo hi store root rooted i)) (family_in-between lo hi store root rooted i) (get (without_between store lo hi) root))
    ∙ back (nat_le lo root && nat_lt root hi) (get store root) (get (without_between store lo hi) root) (get-without lo hi store root))

gone : (between : Bool) (found : Option FamilyValue) → is_some (cond between found None) ≡ true → cond between None found ≡ None
gone true found some = refl
gone false found some = absurd (true≢false (sym some))

pub has_none_of-taken : (store : StoreValue) (lo hi : ℕ) → HoldsByRoot store → has_none_of (without_between store lo hi) (families_between store lo hi) ≡ true
has_none_of-taken store lo hi by =
    has_none_of-from_each (without_between store lo hi) (families_between store lo hi) (λ root found.
    get-without lo hi store root
    ∙ gone (nat_le lo root && nat_lt root hi) (get store root) (ap is_some (sym (family_in-between lo hi store root (rooted_by store by))) ∙ found))

pub none_is : (found : Option FamilyValue) → is_none found ≡ true → found ≡ None
none_is None none = refl
none_is (Some family) none = absurd (true≢false (sym none))

pub has_none_of-absent : (store : StoreValue) (families : List FamilyValue) → (has_none_of store families ≡ true) ↔ All (λ family. get store family.root ≡ None) families
has_none_of-absent store families =
    let absent = λ (family : FamilyValue). is_none (get store family.root) in (
      λ none. All-weaker (λ family. absent family ≡ true) (λ family. get store family.root ≡ None) (λ family passes. none_is (get store family.root) passes) families (AllPass-from_list_all absent families none),
      λ each. list_all-from_AllPass absent families (All-weaker (λ family. get store family.root ≡ None) (λ family. absent family ≡ true) (λ family none. ap is_none none) families each),
    )
