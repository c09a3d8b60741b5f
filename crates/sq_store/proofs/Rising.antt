-- Families by root key in rising order.
use Rattle.std.proofs.Common.{subst, ⊎_elim, ◌≡◌, ℕ, zero, suc, Bool, true, false, List, [], ◌∷◌, refl, sym, ap, ◌∙◌, arith, true≢false}
use Rattle.std.specs.Prelude.{◌+◌, ◌-◌, ◌<◌, ◌≤◌, ◌≢◌, ◌==◌, ◌&&◌, if◌then◌else◌, not, nat_le, nat_lt, map, filter, Some, None, is_some}
use Rattle.std.specs.List.{range_with_len}
use Rattle.std.specs.FinMap.{get}
use Rattle.std.proofs.lemmas.Bool.{and_from, ne_eqb, ltb-true, leb-true, le-leb}
use Rattle.std.proofs.lemmas.Bool.Decides.{eqb_tells}
use Rattle.sq_schema.specs.Family.{FamilyValue}
use Rattle.sq_store.specs.InOrder.{are_within}
use Rattle.sq_store.specs.StoreValue.{StoreValue, with_families, family_in, roots_differ}
use Rattle.sq_store.proofs.Given.{names, found-names, get-with_new}

pub both_left : (a b : Bool) → (a && b) ≡ true → a ≡ true
both_left true b e = refl
both_left false b e = absurd (true≢false (sym e))

pub both_right : (a b : Bool) → (a && b) ≡ true → b ≡ true
both_right true b e = e
both_right false b e = absurd (true≢false (sym e))

-- what the first of rising families is, and the rest
pub record Rises (lo hi : ℕ) (family : FamilyValue) (families : List FamilyValue) : Type 0 where
  pub low : lo ≤ family.root
  pub high : family.root < hi
  pub rest : are_within (family.root + 1) hi families ≡ true

pub rises : (lo hi : ℕ) (family : FamilyValue) (families : List FamilyValue) → are_within lo hi (family ∷ families) ≡ true → Rises lo hi family families
rises lo hi family families e =
    let more = both_right (nat_le lo family.root) _ e in
    record {
      low = leb-true lo family.root (both_left _ _ e);
      high = ltb-true family.root hi (both_left _ _ more);
      rest = both_right (nat_lt family.root hi) _ more;
    }

-- below the first root key there is no family
pub none_below : (lo hi : ℕ) (families : List FamilyValue) (key : ℕ) → are_within lo hi families ≡ true → key < lo → family_in families key ≡ None
none_below lo hi [] key e below = refl
none_below lo hi (family ∷ families) key e below =
    let r = rises lo hi family families e in
    ap (λ b. if b then Some family else family_in families key) (ne_eqb family.root key (λ same. absurd (omega (arith, r.low, same, below))))
    ∙ none_below (family.root + 1) hi families key r.rest (omega (arith, r.low, below))

-- families that rise differ in their root keys
pub differ-within : (lo hi : ℕ) (families : List FamilyValue) → are_within lo hi families ≡ true → roots_differ families ≡ true
differ-within lo hi [] e = refl
differ-within lo hi (family ∷ families) e =
    let r = rises lo hi family families e in
    and_from (not (names families family.root)) (roots_differ families)
    (ap not (sym (found-names families family.root) ∙ ap is_some (none_below (family.root + 1) hi families family.root r.rest (omega arith))))
    (differ-within (family.root + 1) hi families r.rest)

pub get-with_families : (lo hi : ℕ) (families : List FamilyValue) (store : StoreValue) (key : ℕ) → are_within lo hi families ≡ true
    → get (with_families store families) key ≡ (if is_some (family_in families key) then family_in families key else get store key)
get-with_families lo hi families store key e = get-with_new families store key (differ-within lo hi families e)

-- the root keys of rising families are those at which there is one
pub roots-within : (n lo hi : ℕ) (families : List FamilyValue) (stands : ℕ → Bool) → n ≡ hi - lo → are_within lo hi families ≡ true
    → ((key : ℕ) → lo ≤ key → key < hi → is_some (family_in families key) ≡ stands key)
    → map (λ family. family.root) families ≡ filter stands (range_with_len lo n)
roots-within zero lo hi [] stands n e each = refl
roots-within zero lo hi (family ∷ families) stands n e each = let r = rises lo hi family families e in absurd (omega (arith, r.low, r.high, n))
roots-within (suc more) lo hi [] stands n e each =
    roots-within more (lo + 1) hi [] stands (omega (arith, n)) refl (λ key low high. each key (omega arith) high)
    ∙ sym (ap (λ b. if b then lo ∷ filter stands (range_with_len (lo + 1) more) else filter stands (range_with_len (lo + 1) more)) (sym (each lo (omega arith) (omega (arith, n)))))
roots-within (suc more) lo hi (family ∷ families) stands n e each =
    let r = rises lo hi family families e in
    ⊎_elim
    (λ (same : (family.root == lo ≡ true) × (family.root ≡ lo)).
    let standing : stands lo ≡ true = sym (each lo (omega arith) (omega (arith, n))) ∙ ap (λ b. is_some (if b then Some family else family_in families lo)) same.0 in
    let rest = roots-within more (lo + 1) hi families stands (omega (arith, n)) (subst (λ k. are_within (k + 1) hi families ≡ true) same.1 r.rest)
    (λ key low high. ap (λ b. is_some (if b then Some family else family_in families key)) (sym (ne_eqb family.root key (λ x. absurd (omega (arith, same.1, x, low))))) ∙ each key (omega arith) high) in
    (λ i. same.1 i ∷ rest i) ∙ sym (ap (λ b. if b then lo ∷ filter stands (range_with_len (lo + 1) more) else filter stands (range_with_len (lo + 1) more)) standing))
    (λ (apart : (family.root == lo ≡ false) × (family.root ≢ lo)).
    let later : lo + 1 ≤ family.root = omega (arith, r.low, apart.1) in
    let none : family_in families lo ≡ None = none_below (family.root + 1) hi families lo r.rest (omega (arith, r.low)) in
    let missing : stands lo ≡ false = sym (each lo (omega arith) (omega (arith, n))) ∙ ap (λ b. is_some (if b then Some family else family_in families lo)) apart.0 ∙ ap is_some none in
    roots-within more (lo + 1) hi (family ∷ families) stands (omega (arith, n))
    (ap (λ b. b && (nat_lt family.root hi && are_within (family.root + 1) hi families)) (le-leb (lo + 1) family.root later) ∙ both_right (nat_le lo family.root) _ e)
    (λ key low high. each key (omega arith) high)
    ∙ sym (ap (λ b. if b then lo ∷ filter stands (range_with_len (lo + 1) more) else filter stands (range_with_len (lo + 1) more)) missing))
    (eqb_tells family.root lo)
