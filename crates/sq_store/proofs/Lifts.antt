-- What a change to the middle of a rising list of families does to the store of the list.
use Rattle.std.proofs.Common.{⊎_elim, ◌≡◌, ◌⊎◌, inl, inr, ℕ, suc, Bool, true, false, List, [], ◌∷◌, ◌++◌, refl, sym, ap, ◌∙◌, arith}
use Rattle.std.specs.Prelude.{◌+◌, ◌<◌, ◌≤◌, ◌==◌, cond, All, Option, Some, None, is_some, unwrap_or}
use Rattle.std.specs.Ordering.{nat_cmp, eq_by_cmp}
use Rattle.std.specs.Cmp.{nat_cmp_total}
use Rattle.std.specs.FinMap.{get, insert, empty, get-insert}
use Rattle.std.proofs.lemmas.Bool.{cases_lt}
use Rattle.sq_schema.specs.TxnValue.{TxnValue}
use Rattle.sq_schema.specs.declared.txn.Reply.{Reply}
use Rattle.sq_schema.specs.declared.txn.Reply.TheVariants.{Committed, Aborted}
use Rattle.sq_schema.specs.Family.{FamilyValue, logged}
use Rattle.sq_store.specs.InOrder.{are_within}
use Rattle.sq_store.specs.Listed.{keyed_families, roots_rise, store_of}
use Rattle.sq_store.specs.StoreValue.{absent, family_at, family_in, store_after, with_families}
use Rattle.sq_store.proofs.Order.{rising_differ, first_rises, below_at}
use Rattle.sq_store.proofs.Rising.{none_below}
use Rattle.sq_store.proofs.Given.{get-with_new}
use Rattle.sq_store.proofs.Between.{family_in-entries}
use Rattle.sq_store.proofs.Joins.{store_of_none}
use Rattle.sq_store.proofs.Keys.{same_store, untied}
use Rattle.sq_store.proofs.Lists.{get-store_of, values-entries_of, rooted-store_of}
use Rattle.sq_store.proofs.Within.{within_append, within_rise, within_cons, none_above}

-- the store of a rising list has the families of the list
pub get_family_in : (families : List FamilyValue) → roots_rise families ≡ true → (q : ℕ) → get (store_of families) q ≡ family_in families q
get_family_in families rising q =
    get-store_of families q rising
    ∙ sym (family_in-entries (keyed_families families) q rising (λ key family found. rooted-store_of families rising key family (get-store_of families key rising ∙ found)))
    ∙ ap (λ fs. family_in fs q) (values-entries_of families)

found_front : (front back : List FamilyValue) (q : ℕ) → family_in back q ≡ None → family_in (front ++ back) q ≡ family_in front q
found_front [] back q none = none
found_front (family ∷ front) back q none = ap (λ rest. cond (family.root == q) (Some family) rest) (found_front front back q none)

found_back : (front back : List FamilyValue) (q : ℕ) → family_in front q ≡ None → family_in (front ++ back) q ≡ family_in back q
found_back [] back q none = refl
found_back (family ∷ front) back q none = by_test (family.root == q) none (found_back front back q)
  where
    by_test : (b : Bool) → cond b (Some family) (family_in front q) ≡ None → (family_in front q ≡ None → family_in (front ++ back) q ≡ family_in back q) → cond b (Some family) (family_in (front ++ back) q) ≡ family_in back q
    by_test true some rest = absurd (cc)
    by_test false later rest = rest later

found_alike : (front back other : List FamilyValue) (q : ℕ) → family_in back q ≡ family_in other q → family_in (front ++ back) q ≡ family_in (front ++ other) q
found_alike [] back other q same = same
found_alike (family ∷ front) back other q same = ap (λ rest. cond (family.root == q) (Some family) rest) (found_alike front back other q same)

none_out : (lo hi : ℕ) (families : List FamilyValue) (q : ℕ) → are_within lo hi families ≡ true → (q < lo) ⊎ (hi ≤ q) → family_in families q ≡ None
none_out lo hi families q within out = ⊎_elim (λ (low : q < lo). none_below lo hi families q within low) (λ (high : hi ≤ q). none_above lo hi families q within high) out

-- a number is between two others or isn't
pub in_or_out : {P : Type 0} (lo hi q : ℕ) → (lo ≤ q → q < hi → P) → ((q < lo) ⊎ (hi ≤ q) → P) → P
in_or_out lo hi q inside out = ⊎_elim (λ (low : q < lo). out (inl low)) (λ (from : lo ≤ q). ⊎_elim (λ (below : q < hi). inside from below) (λ (high : hi ≤ q). out (inr high)) (cases_lt q hi)) (cases_lt q lo)

cond_some : (found : Option FamilyValue) → cond (is_some found) found None ≡ found
cond_some None = refl
cond_some (Some family) = refl

-- a rising list is what a store without families has when it is given them
pub store_of_given : (families : List FamilyValue) → roots_rise families ≡ true → store_of families ≡ with_families empty families
store_of_given families rising =
    same_store (store_of families) (with_families empty families) (λ q.
    get_family_in families rising q
    ∙ sym (get-with_new families empty q (rising_differ families rising)
    ∙ ap (λ found. cond (is_some (family_in families q)) (family_in families q) found) (ap (λ s. get s q) (sym store_of_none) ∙ get_family_in [] refl q)
    ∙ cond_some (family_in families q)))

-- a rising list whose middle may change, with families between two bounds
module _ (lo hi end : ℕ) (front back : List FamilyValue) (rise : lo ≤ hi) (upto : hi ≤ end) (low : are_within 0 lo front ≡ true) (high : are_within hi end back ≡ true) where
  pub whole_within : (middle : List FamilyValue) → are_within lo hi middle ≡ true → are_within 0 end (front ++ (middle ++ back)) ≡ true
  whole_within middle within = within_append 0 lo end front (middle ++ back) (omega arith) (omega (arith, rise, upto)) low (within_append lo hi end middle back rise upto within high)

  pub whole_rises : (middle : List FamilyValue) → are_within lo hi middle ≡ true → roots_rise (front ++ (middle ++ back)) ≡ true
  whole_rises middle within = within_rise 0 end (front ++ (middle ++ back)) (whole_within middle within)

  in_middle : (middle : List FamilyValue) (q : ℕ) → lo ≤ q → q < hi → family_in (front ++ (middle ++ back)) q ≡ family_in middle q
  in_middle middle q from below = found_back front (middle ++ back) q (none_above 0 lo front q low from) ∙ found_front middle back q (none_below hi end back q high below)

  out_of_middle : (middle other : List FamilyValue) (q : ℕ) → are_within lo hi middle ≡ true → are_within lo hi other ≡ true → (q < lo) ⊎ (hi ≤ q) → family_in (front ++ (middle ++ back)) q ≡ family_in (front ++ (other ++ back)) q
  out_of_middle middle other q here there out =
      found_alike front (middle ++ back) (other ++ back) q
      (found_back middle back q (none_out lo hi middle q here out) ∙ sym (found_back other back q (none_out lo hi other q there out)))

  -- between the bounds the store has what its middle has
  pub get_middle : (middle : List FamilyValue) → are_within lo hi middle ≡ true → (q : ℕ) → lo ≤ q → q < hi → get (store_of (front ++ (middle ++ back))) q ≡ get (store_of middle) q
  get_middle middle within q from below =
      get_family_in (front ++ (middle ++ back)) (whole_rises middle within) q ∙ in_middle middle q from below ∙ sym (get_family_in middle (within_rise lo hi middle within) q)

  module _ (middle other : List FamilyValue) (here : are_within lo hi middle ≡ true) (there : are_within lo hi other ≡ true) where
    -- what happens to the middle alone, and at root keys between the bounds, happens to the store
    pub lifted : (g : ℕ → Option FamilyValue → Option FamilyValue) → ((q : ℕ) (found : Option FamilyValue) → (q < lo) ⊎ (hi ≤ q) → g q found ≡ found)
        → ((q : ℕ) → get (store_of other) q ≡ g q (get (store_of middle) q)) → (q : ℕ) → get (store_of (front ++ (other ++ back))) q ≡ g q (get (store_of (front ++ (middle ++ back))) q)
    lifted g outside each q =
        in_or_out lo hi q
        (λ from below. get_middle other there q from below ∙ each q ∙ ap (g q) (sym (get_middle middle here q from below)))
        (λ out.
        get_family_in (front ++ (other ++ back)) (whole_rises other there) q
        ∙ out_of_middle other middle q there here out
        ∙ sym (get_family_in (front ++ (middle ++ back)) (whole_rises middle here) q)
        ∙ sym (outside q (get (store_of (front ++ (middle ++ back))) q) out))

    pub lifted_same : store_of other ≡ store_of middle → store_of (front ++ (other ++ back)) ≡ store_of (front ++ (middle ++ back))
    lifted_same same = same_store _ _ (λ q. lifted (λ k found. found) (λ k found out. refl) (λ k. ap (λ s. get s k) same) q)

    pub lifted_insert : (root : ℕ) (family : FamilyValue) → lo ≤ root → root < hi → store_of other ≡ insert (store_of middle) root family
        → store_of (front ++ (other ++ back)) ≡ insert (store_of (front ++ (middle ++ back))) root family
    lifted_insert root family from below is =
        same_store _ _ (λ q.
        lifted (λ k found. cond (eq_by_cmp nat_cmp k root) (Some family) found)
        (λ k found out. ap (λ b. cond b (Some family) found) (untied root k (λ same. ⊎_elim (λ (less : k < lo). absurd (omega (arith, less, same, from))) (λ (more : hi ≤ k). absurd (omega (arith, more, same, below))) out)))
        (λ k. ap (λ s. get s k) is ∙ get-insert nat_cmp_total (store_of middle) root family k)
        q
        ∙ sym (get-insert nat_cmp_total (store_of (front ++ (middle ++ back))) root family q))

    -- the family of a root key between the bounds is the middle's
    pub family_middle : (root : ℕ) → lo ≤ root → root < hi → family_at (store_of (front ++ (middle ++ back))) root ≡ family_at (store_of middle) root
    family_middle root from below = ap (λ found. unwrap_or found (absent root)) (get_middle middle here root from below)

    pub lifted_after : (txn : TxnValue) (reply : Reply) → lo ≤ txn.root → txn.root < hi → store_of other ≡ store_after (store_of middle) txn reply
        → store_of (front ++ (other ++ back)) ≡ store_after (store_of (front ++ (middle ++ back))) txn reply
    lifted_after txn (Committed answers) from below is =
        lifted_insert txn.root (logged (family_at (store_of middle) txn.root) txn) from below is
        ∙ ap (λ family. insert (store_of (front ++ (middle ++ back))) txn.root (logged family txn)) (sym (family_middle txn.root from below))
    lifted_after txn (Aborted n cause) from below is = lifted_same is

-- rising families between two bounds are within them
pub within_from_rise : (lo hi : ℕ) (families : List FamilyValue) → roots_rise families ≡ true → All (λ family. (lo ≤ family.root) × (family.root < hi)) families → are_within lo hi families ≡ true
within_from_rise lo hi [] rising all = refl
within_from_rise lo hi (family ∷ families) rising all =
    let parts = first_rises family families rising in
    let here = all 0 family (omega arith) in
    within_cons lo hi family families here.0 here.1
    (within_from_rise (family.root + 1) hi families parts.rest (λ k d inside.
    let above = below_at family.root families k d parts.below inside in
    (omega (arith, above), (all (suc k) d (omega (arith, inside))).1)))
