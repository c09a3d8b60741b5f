-- After a stage whose segments are complete, the logs hold as many transactions as there are receipts of commits.
use Rattle.std.proofs.Common.{◌≡◌, inl, inr, ℕ, zero, suc, ◌+◌, ◌<◌, ◌≤◌, ◌==◌, Bool, true, false, List, [], ◌∷◌, length, slice_get, Option, Some, None, Contains, refl, sym, ap, ◌∙◌, subst, eq-eqb, arith}
use Rattle.std.specs.Prelude.{◌&&◌, cond, if◌then◌else◌, sum_by, count_by, is_some, option_and_then}
use Rattle.std.specs.List.{flat_map}
use Rattle.std.specs.Ordering.{nat_cmp, is_lt}
use Rattle.std.specs.FinMap.{get, entries, get-entries}
use Rattle.std.proofs.lemmas.Bool.{cases_Bool, cases_eq, ne_eqb, eqb-true, and_parts}
use Rattle.std.proofs.lemmas.List.Sums.{sum_by-cons, sum_by-append}
use Rattle.sq_schema.specs.Family.{FamilyValue}
use Rattle.sq_store.specs.StoreValue.{StoreValue, family_in}
use Rattle.sq_store.specs.InOrder.{families_in, HoldsByRoot}
use Rattle.sq_store.specs.Listed.{roots_rise}
use Rattle.sq_store.proofs.Order.{is_below, first_rises, less_from_cmp}
use Rattle.sq_store.proofs.Firsts.{rising_in}
use Rattle.sq_store.proofs.Between.{family_in-entries, sorted_is}
use Rattle.sq_moves.specs.OpeningValue.{OpeningValue}
use Rattle.sq_moves.specs.Opening.{IsOpening}
use Rattle.sq_model.specs.Staged.{owner_in}
use Rattle.sq_model.proofs.Lists.{Contains-cases, Contains-first, Contains-later, Contains-nothing}
use Rattle.sq_audit.proofs.Knowing.{count_first}
use Rattle.sq_gather.specs.Prelude.{one_if}
use Rattle.sq_node_model.specs.declared.spot.Spot.{Spot}
use Rattle.sq_node_model.specs.declared.spot.Spot.TheVariants.{Store}
use Rattle.sq_node_model.specs.NodeValue.{ReceiptValue}
use Rattle.sq_node_model.specs.Gathered.{GatheredValue}
use Rattle.sq_node_model.specs.Spots.{StandsAt}
use Rattle.sq_node_model.specs.Receipts.{is_commit}
use Rattle.sq_node_model.specs.Placed.{IsPlaced}
use Rattle.sq_node_model.specs.Next.{IsStageDone}
use Rattle.sq_node_model.proofs.Next.{stands_next}
use Rattle.sq_engine.specs.Ending.{logged_in, commits_in}
use Rattle.sq_engine.proofs.Tallies.{tally}

eqb_turned : (a b : ℕ) → (a == b) ≡ (b == a)
eqb_turned a b = elim (cases_eq a b) [
  | inl same ↦ eq-eqb a b same ∙ sym (eq-eqb b a (sym same))
  | inr apart ↦ ne_eqb a b apart ∙ sym (ne_eqb b a (λ same. apart (sym same)))
]

and_grouped : (a b c : Bool) → ((a && b) && c) ≡ (a && (b && c))
and_grouped true b c = refl
and_grouped false b c = refl

none_some : {X : Type 0} (x : X) → None ≡ Some x → ⊥
none_some x e = cc

-- the family has this root key
abbrev has_root : ℕ → FamilyValue → Bool
has_root root family = family.root == root

-- how many of the families have this root key
abbrev times_kept : ℕ → List FamilyValue → ℕ
times_kept root families = count_by (has_root root) families

-- ---- families whose root keys rise

none_low : (root key : ℕ) (families : List FamilyValue) → is_below key families ≡ true → root ≤ key → times_kept root families ≡ 0
none_low root key [] below low = refl
none_low root key (family ∷ families) below low =
    let parts = and_parts (is_lt (nat_cmp key family.root)) (is_below key families) below in
    let above = less_from_cmp key family.root parts.0 in
    let rest = none_low root key families parts.1 low in
    let first : times_kept root (family ∷ families) ≡ 0 + times_kept root families =
    count_first (has_root root) family families
    ∙ ap (λ (b : Bool). cond b 1 0 + times_kept root families) (ne_eqb family.root root (λ same. omega (arith, above, same, low))) in
    omega (arith, first, rest)

-- one has the root key exactly if one is found by it
kept_once : (root : ℕ) (families : List FamilyValue) → roots_rise families ≡ true → times_kept root families ≡ one_if (is_some (family_in families root))
kept_once root [] rises = refl
kept_once root (family ∷ families) rises =
    let parts = first_rises family families rises in
    elim (cases_Bool (family.root == root)) [
      | inl same ↦
          let at = eqb-true family.root root same in
          let none = none_low root family.root families parts.below (omega (arith, at)) in
          let first : times_kept root (family ∷ families) ≡ 1 + times_kept root families =
          count_first (has_root root) family families ∙ ap (λ (b : Bool). cond b 1 0 + times_kept root families) same in
          let found : one_if (is_some (family_in (family ∷ families) root)) ≡ 1 =
          ap (λ (b : Bool). one_if (is_some (if b then Some family else family_in families root))) same in
          omega (arith, none, first, found)
      | inr apart ↦
          let rest = kept_once root families parts.rest in
          let first : times_kept root (family ∷ families) ≡ 0 + times_kept root families =
          count_first (has_root root) family families ∙ ap (λ (b : Bool). cond b 1 0 + times_kept root families) apart in
          let found : one_if (is_some (family_in (family ∷ families) root)) ≡ one_if (is_some (family_in families root)) =
          ap (λ (b : Bool). one_if (is_some (if b then Some family else family_in families root))) apart in
          omega (arith, rest, first, found)
    ]

below_each : (key : ℕ) (families : List FamilyValue) (family : FamilyValue) → is_below key families ≡ true → Contains families family → key < family.root
below_each key [] family below has = absurd (Contains-nothing family has)
below_each key (first ∷ families) family below has =
    let parts = and_parts (is_lt (nat_cmp key first.root)) (is_below key families) below in
    elim (Contains-cases first families family has) [
      | inl here ↦ subst (λ (f : FamilyValue). key < f.root) here (less_from_cmp key first.root parts.0)
      | inr later ↦ below_each key families family parts.1 later
    ]

-- each is found by its own root key
found_own : (families : List FamilyValue) (family : FamilyValue) → roots_rise families ≡ true → Contains families family
    → family_in families family.root ≡ Some family
found_own [] family rises has = absurd (Contains-nothing family has)
found_own (first ∷ families) family rises has =
    let parts = first_rises first families rises in
    elim (Contains-cases first families family has) [
      | inl here ↦
          ap (λ (b : Bool). if b then Some first else family_in families family.root) (eq-eqb first.root family.root (ap (λ (f : FamilyValue). f.root) here))
          ∙ ap Some here
      | inr later ↦
          let above = below_each first.root families family parts.below later in
          ap (λ (b : Bool). if b then Some first else family_in families family.root) (ne_eqb first.root family.root (λ same. omega (arith, same, above)))
          ∙ found_own families family parts.rest later
    ]

-- ---- the families of stores

found_in_store : (store : StoreValue) (root : ℕ) → HoldsByRoot store → family_in (families_in store) root ≡ get store root
found_in_store store root by =
    family_in-entries (entries store) root (sorted_is store) (λ key family found. by key family (get-entries store key ∙ found))
    ∙ sym (get-entries store root)

kept_in_store : (store : StoreValue) (root : ℕ) → HoldsByRoot store → times_kept root (families_in store) ≡ one_if (is_some (get store root))
kept_in_store store root by =
    kept_once root (families_in store) (rising_in store by)
    ∙ ap (λ (found : Option FamilyValue). one_if (is_some found)) (found_in_store store root by)

-- the family of a root key in the store of a partition
abbrev kept_at : List StoreValue → ℕ → ℕ → Option FamilyValue
kept_at stores part root = option_and_then (λ (store : StoreValue). get store root) (slice_get stores part)

-- each store keeps each family by its root key
abbrev AreByRoot : List StoreValue → Type 0
AreByRoot stores = (part root : ℕ) (family : FamilyValue) → kept_at stores part root ≡ Some family → family.root ≡ root

-- the families of all stores, store by store
abbrev all_families : List StoreValue → List FamilyValue
all_families stores = flat_map families_in stores

kept_joined : (root : ℕ) (store : StoreValue) (stores : List StoreValue)
    → times_kept root (all_families (store ∷ stores)) ≡ times_kept root (families_in store) + times_kept root (all_families stores)
kept_joined root store stores = sum_by-append (λ (family : FamilyValue). cond (has_root root family) 1 0) (families_in store) (all_families stores)

none_kept : (root : ℕ) (stores : List StoreValue) → AreByRoot stores → ((part : ℕ) → kept_at stores part root ≡ None)
    → times_kept root (all_families stores) ≡ 0
none_kept root [] by none = refl
none_kept root (store ∷ stores) by none =
    let here : times_kept root (families_in store) ≡ 0 =
    kept_in_store store root (by zero) ∙ ap (λ (found : Option FamilyValue). one_if (is_some found)) (none zero) in
    let rest = none_kept root stores (λ part. by (suc part)) (λ part. none (suc part)) in
    let joined = kept_joined root store stores in
    omega (arith, here, rest, joined)

none_or : (found : Option FamilyValue) → ((family : FamilyValue) → found ≡ Some family → ⊥) → found ≡ None
none_or None never = refl
none_or (Some family) never = absurd (never family refl)

suc_not_zero : (n : ℕ) → suc n ≡ zero → ⊥
suc_not_zero n e = omega (arith, e)

-- a root key that is kept in one store alone is kept once
kept_in_one : (root : ℕ) (stores : List StoreValue) → AreByRoot stores → (part : ℕ) (family : FamilyValue) → kept_at stores part root ≡ Some family
    → ((other : ℕ) (again : FamilyValue) → kept_at stores other root ≡ Some again → other ≡ part)
    → times_kept root (all_families stores) ≡ 1
kept_in_one root [] by part family kept alone = absurd (none_some family kept)
kept_in_one root (store ∷ stores) by zero family kept alone =
    let here : times_kept root (families_in store) ≡ 1 =
    kept_in_store store root (by zero) ∙ ap (λ (found : Option FamilyValue). one_if (is_some found)) kept in
    let rest = none_kept root stores (λ part. by (suc part))
    (λ part. none_or (kept_at stores part root) (λ again is. suc_not_zero part (alone (suc part) again is))) in
    let joined = kept_joined root store stores in
    omega (arith, here, rest, joined)
kept_in_one root (store ∷ stores) by (suc part) family kept alone =
    let here : times_kept root (families_in store) ≡ 0 =
    kept_in_store store root (by zero)
    ∙ ap (λ (found : Option FamilyValue). one_if (is_some found))
    (none_or (get store root) (λ again is. suc_not_zero part (sym (alone zero again is)))) in
    let rest = kept_in_one root stores (λ p. by (suc p)) part family kept
    (λ other again is. let same = alone (suc other) again is in omega (arith, same)) in
    let joined = kept_joined root store stores in
    omega (arith, here, rest, joined)

-- ---- sums

sum_split : {X : Type 0} (f g : X → ℕ) (xs : List X) → sum_by (λ x. f x + g x) xs ≡ sum_by f xs + sum_by g xs
sum_split f g [] = refl
sum_split f g (x ∷ xs) =
    let all = sum_by-cons (λ y. f y + g y) x xs in
    let one = sum_by-cons f x xs in
    let two = sum_by-cons g x xs in
    let rest = sum_split f g xs in
    omega (arith, all, one, two, rest)

sum_none : {X : Type 0} (xs : List X) → sum_by (λ x. 0) xs ≡ 0
sum_none [] = refl
sum_none (x ∷ xs) =
    let all = sum_by-cons (λ y. 0) x xs in
    let rest = sum_none xs in
    omega (arith, all, rest)

sum_same : {X : Type 0} (f g : X → ℕ) (xs : List X) → ((x : X) → Contains xs x → f x ≡ g x) → sum_by f xs ≡ sum_by g xs
sum_same f g [] same = refl
sum_same f g (x ∷ xs) same =
    let one = sum_by-cons f x xs in
    let two = sum_by-cons g x xs in
    let here = same x (Contains-first x xs) in
    let rest = sum_same f g xs (λ y has. same y (Contains-later x xs y has)) in
    omega (arith, one, two, here, rest)

-- the receipt is of a commit on this root key
abbrev commits_on : ℕ → ReceiptValue → Bool
commits_on root receipt = is_commit receipt.reply && (receipt.txn.root == root)

-- how many commits these families have
abbrev commits_over : List FamilyValue → List ReceiptValue → ℕ
commits_over families receipts = sum_by (λ (family : FamilyValue). count_by (commits_on family.root) receipts) families

-- a commit is one of the families with its root key, and no abort is
commit_once : (receipt : ReceiptValue) (families : List FamilyValue)
    → (is_commit receipt.reply ≡ true → times_kept receipt.txn.root families ≡ 1)
    → sum_by (λ (family : FamilyValue). cond (commits_on family.root receipt) 1 0) families ≡ cond (is_commit receipt.reply) 1 0
commit_once receipt families once = elim (cases_Bool (is_commit receipt.reply)) [
  | inl does ↦
      ap (λ (test : FamilyValue → Bool). sum_by (λ (family : FamilyValue). cond (test family) 1 0) families)
      (λ i family. (ap (λ (b : Bool). b && (receipt.txn.root == family.root)) does ∙ eqb_turned receipt.txn.root family.root) i)
      ∙ once does ∙ sym (ap (λ (b : Bool). cond b 1 0) does)
  | inr fails ↦
      ap (λ (test : FamilyValue → Bool). sum_by (λ (family : FamilyValue). cond (test family) 1 0) families)
      (λ i family. ap (λ (b : Bool). b && (receipt.txn.root == family.root)) fails i)
      ∙ sum_none families ∙ sym (ap (λ (b : Bool). cond b 1 0) fails)
]

-- the commits on the families are all commits, if each is on one of them
commits_summed : (families : List FamilyValue) (receipts : List ReceiptValue)
    → ((receipt : ReceiptValue) → Contains receipts receipt → is_commit receipt.reply ≡ true → times_kept receipt.txn.root families ≡ 1)
    → commits_over families receipts ≡ commits_in receipts
commits_summed families [] each = sum_none families
commits_summed families (receipt ∷ receipts) each =
    let rest = commits_summed families receipts (λ r has. each r (Contains-later receipt receipts r has)) in
    let here = commit_once receipt families (each receipt (Contains-first receipt receipts)) in
    let split = sum_split (λ (family : FamilyValue). cond (commits_on family.root receipt) 1 0)
    (λ (family : FamilyValue). count_by (commits_on family.root) receipts) families in
    let apart : commits_over families (receipt ∷ receipts)
    ≡ sum_by (λ (family : FamilyValue). cond (commits_on family.root receipt) 1 0 + count_by (commits_on family.root) receipts) families =
    ap (λ (f : FamilyValue → ℕ). sum_by f families) (λ i family. count_first (commits_on family.root) receipt receipts i) in
    let first = count_first (λ (r : ReceiptValue). is_commit r.reply) receipt receipts in
    omega (arith, rest, here, split, apart, first)

-- what is summed store by store is summed over all families
summed_over : (f : FamilyValue → ℕ) (stores : List StoreValue)
    → sum_by (λ (store : StoreValue). sum_by f (families_in store)) stores ≡ sum_by f (all_families stores)
summed_over f [] = refl
summed_over f (store ∷ stores) =
    let first = sum_by-cons (λ (s : StoreValue). sum_by f (families_in s)) store stores in
    let rest = summed_over f stores in
    let joined : sum_by f (all_families (store ∷ stores)) ≡ sum_by f (families_in store) + sum_by f (all_families stores) =
    sum_by-append f (families_in store) (all_families stores) in
    omega (arith, first, rest, joined)

-- each store's families have as many commits as their logs have transactions
logs_summed : (g : GatheredValue) (stores : List StoreValue) → AreByRoot stores
    → ((part root : ℕ) (family : FamilyValue) → kept_at stores part root ≡ Some family
    → length family.log ≡ count_by (commits_on family.root) g.receipts)
    → sum_by logged_in stores ≡ sum_by (λ (store : StoreValue). commits_over (families_in store) g.receipts) stores
logs_summed g [] by each = refl
logs_summed g (store ∷ stores) by each =
    let first = sum_by-cons logged_in store stores in
    let other = sum_by-cons (λ (s : StoreValue). commits_over (families_in s) g.receipts) store stores in
    let rest = logs_summed g stores (λ part. by (suc part)) (λ part. each (suc part)) in
    let here : logged_in store ≡ commits_over (families_in store) g.receipts =
    sum_same (λ (family : FamilyValue). length family.log) (λ (family : FamilyValue). count_by (commits_on family.root) g.receipts) (families_in store)
    (λ family has. each zero family.root family
    (sym (found_in_store store family.root (by zero)) ∙ found_own (families_in store) family (rising_in store (by zero)) has)) in
    omega (arith, first, other, rest, here)

module _ (o : OpeningValue) (g : GatheredValue) (is : IsOpening o) (placed : IsPlaced o g) (done : IsStageDone o g) where
  by_root : AreByRoot g.stores
  by_root part root family there = (placed.fit.keyed (Store part) root family there).same_root

  -- the log of a family has as many transactions as there are commits on its root key
  log_counted : (part root : ℕ) (family : FamilyValue) → kept_at g.stores part root ≡ Some family
      → length family.log ≡ count_by (commits_on family.root) g.receipts
  log_counted part root family there =
      subst (λ (key : ℕ). length family.log ≡ count_by (commits_on key) g.receipts) (sym (by_root part root family there))
      (sym (tally (commits_on root) (λ (receipt : ReceiptValue). receipt.position) (length family.log) g.receipts
      (λ p. ap (λ (test : ReceiptValue → Bool). count_by test g.receipts)
      (λ i receipt. and_grouped (is_commit receipt.reply) (receipt.txn.root == root) (receipt.position == p) i)
      ∙ placed.named (Store part) root family there p)))

  store_same : (one other : ℕ) → Store one ≡ Store other → one ≡ other
  store_same one other e = cc

  -- the root key of each commit is kept in one store alone
  commit_kept : (receipt : ReceiptValue) → Contains g.receipts receipt → is_commit receipt.reply ≡ true
      → times_kept receipt.txn.root (all_families g.stores) ≡ 1
  commit_kept receipt has commits =
      let told = placed.told receipt has commits in
      let root = receipt.txn.root in
      let owner = owner_in o (g.stage + 1) root in
      let there : StandsAt g (Store owner) root told.1 =
      subst (λ (s : Spot). StandsAt g s root told.1) (stands_next o is g placed done told.0 root told.1 told.2) told.2 in
      kept_in_one root g.stores by_root owner told.1 there
      (λ other again kept. store_same other owner (placed.once (Store other) (Store owner) root again told.1 kept there))

  pub logs_hold_commits : sum_by logged_in g.stores ≡ commits_in g.receipts
  logs_hold_commits =
      logs_summed g g.stores by_root log_counted
      ∙ summed_over (λ (family : FamilyValue). count_by (commits_on family.root) g.receipts) g.stores
      ∙ commits_summed (all_families g.stores) g.receipts commit_kept
