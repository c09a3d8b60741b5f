-- What a transaction does to the store of a list of families.
use Rattle.std.proofs.Common.{◌≡◌, ℕ, true, List, length, get_or, set, sym, ap, ◌∙◌, arith}
use Rattle.std.specs.Prelude.{◌≤◌, ◌↔◌, unwrap_or, Some, None, Result, Ok, Err, IfOk, IfErr, OnErr, IsErrOf}
use Rattle.std.specs.FinMap.{get, insert}
use Rattle.std.proofs.lemmas.List.{set-get_or}
use Rattle.sq_schema.specs.TxnValue.{TxnValue}
use Rattle.sq_schema.specs.declared.txn.Reply.{Reply}
use Rattle.sq_schema.specs.declared.txn.Reply.TheVariants.{Committed, Aborted}
use Rattle.sq_schema.specs.declared.fault.ApplyFault.{ApplyFault}
use Rattle.sq_schema.specs.declared.fault.ApplyFault.TheVariants.{LogFull, Memory}
use Rattle.sq_schema.specs.declared.family.TheConstants.{MAX_LOG}
use Rattle.sq_schema.specs.Family.{FamilyValue, answered, logged}
use Rattle.sq_store.specs.StoreValue.{StoreValue, absent, family_at, store_after}
use Rattle.sq_store.specs.Listed.{roots_rise, store_of, opened, IsRootAt, IsRootGap}
use Rattle.sq_store.proofs.Lists.{get_at, get_gap, insert_at, insert_gap}

-- a family keeps its root key
pub root_kept : (old now : FamilyValue) (txn : TxnValue) (result : Result Reply ApplyFault) → IfOk result (λ r. now ≡ answered old txn r) → OnErr result (now ≡ old) → now.root ≡ old.root
root_kept old now txn (Ok (Committed answers)) ok err = ap (λ f. f.root) ok
root_kept old now txn (Ok (Aborted at cause)) ok err = ap (λ f. f.root) ok
root_kept old now txn (Err fault) ok err = ap (λ f. f.root) err

-- the family of a root key, whether it stands or not
pub found_family : (store : StoreValue) (root : ℕ) (family : FamilyValue) → get store root ≡ Some family → family_at store root ≡ family
found_family store root family found = ap (λ o. unwrap_or o (absent root)) found

pub absent_family : (store : StoreValue) (root : ℕ) → get store root ≡ None → family_at store root ≡ absent root
absent_family store root none = ap (λ o. unwrap_or o (absent root)) none

-- the log of a family that isn't there isn't full
pub absent_not_full : (store : StoreValue) (root : ℕ) → get store root ≡ None → (result : Result Reply ApplyFault) → IfErr result (λ fault. fault ≡ Memory) → IsErrOf result LogFull ↔ (MAX_LOG ≤ length (family_at store root).log)
absent_not_full store root absence result memory = (λ full. absurd (by_case result memory full), λ long. absurd (let none = ap (λ f. length f.log) (absent_family store root absence) in omega (arith, none, long)))
  where
    by_case : (result : Result Reply ApplyFault) → IfErr result (λ fault. fault ≡ Memory) → IsErrOf result LogFull → ⊥
    by_case (Ok reply) memory full = cc
    by_case (Err fault) memory full = cc

-- the store of a list that has a family of the transaction's root key at this place
module _ (store : StoreValue) (families : List FamilyValue) (txn : TxnValue) (at : ℕ) (rising : roots_rise families ≡ true) (is : store_of families ≡ store) (here : IsRootAt families txn.root at) where
  pub get_found : (old : FamilyValue) → old ≡ get_or families at old → get store txn.root ≡ Some old
  get_found old read = ap (λ s. get s txn.root) (sym is) ∙ get_at families txn.root at old rising here ∙ ap Some (sym read)

  pub family_found : (old : FamilyValue) → old ≡ get_or families at old → family_at store txn.root ≡ old
  family_found old read = found_family store txn.root old (get_found old read)

  root_found : (old : FamilyValue) → old ≡ get_or families at old → old.root ≡ txn.root
  root_found old read = ap (λ f. f.root) read ∙ here.here old

  at_root : (now : FamilyValue) → now.root ≡ txn.root → IsRootAt families now.root at
  at_root now same = record { within = here.within; here = λ d. here.here d ∙ sym same }

  pub rising_applied : (old now : FamilyValue) (result : Result Reply ApplyFault) → old ≡ get_or families at old → IfOk result (λ r. now ≡ answered old txn r) → OnErr result (now ≡ old) → roots_rise (set families at now) ≡ true
  rising_applied old now result read ok err =
      let same : now.root ≡ txn.root = root_kept old now txn result ok err ∙ root_found old read in
      (insert_at families at now rising (at_root now same)).rising

  unchanged : (old now : FamilyValue) → old ≡ get_or families at old → now ≡ old → store_of (set families at now) ≡ store
  unchanged old now read same = ap (λ f. store_of (set families at f)) (same ∙ read) ∙ ap store_of (set-get_or families at old) ∙ is

  pub store_applied : (old now : FamilyValue) (result : Result Reply ApplyFault) → old ≡ get_or families at old → IfOk result (λ r. now ≡ answered old txn r) → IfOk result (λ r. store_of (set families at now) ≡ store_after store txn r)
  store_applied old now (Ok (Committed answers)) read ok =
      let same : now.root ≡ txn.root = ap (λ f. f.root) ok ∙ root_found old read in
      let put = (insert_at families at now rising (at_root now same)).same in
      let family : now ≡ logged (family_at store txn.root) txn = ok ∙ ap (λ f. logged f txn) (sym (family_found old read)) in
      sym put ∙ (λ i. insert (is i) (same i) (family i))
  store_applied old now (Ok (Aborted n cause)) read ok = unchanged old now read ok
  store_applied old now (Err fault) read ok = tt

-- the store of a list that has no family of the transaction's root key, and whose place this is
module _ (store : StoreValue) (families : List FamilyValue) (txn : TxnValue) (at : ℕ) (rising : roots_rise families ≡ true) (is : store_of families ≡ store) (gap : IsRootGap families txn.root at) where
  pub get_absent : get store txn.root ≡ None
  get_absent = ap (λ s. get s txn.root) (sym is) ∙ get_gap families txn.root at rising gap

  pub family_absent : family_at store txn.root ≡ absent txn.root
  family_absent = absent_family store txn.root get_absent

  pub rising_opened : (now : List FamilyValue) (result : Result Reply ApplyFault) → IfOk result (λ r. now ≡ opened families at txn r) → OnErr result (now ≡ families) → roots_rise now ≡ true
  rising_opened now (Ok (Committed answers)) ok err = ap roots_rise ok ∙ (insert_gap families at (logged (absent txn.root) txn) rising gap).rising
  rising_opened now (Ok (Aborted n cause)) ok err = ap roots_rise ok ∙ rising
  rising_opened now (Err fault) ok err = ap roots_rise err ∙ rising

  pub store_opened : (now : List FamilyValue) (result : Result Reply ApplyFault) → IfOk result (λ r. now ≡ opened families at txn r) → IfOk result (λ r. store_of now ≡ store_after store txn r)
  store_opened now (Ok (Committed answers)) ok =
      let family : logged (absent txn.root) txn ≡ logged (family_at store txn.root) txn = ap (λ f. logged f txn) (sym family_absent) in
      ap store_of ok ∙ sym (insert_gap families at (logged (absent txn.root) txn) rising gap).same ∙ (λ i. insert (is i) txn.root (family i))
  store_opened now (Ok (Aborted n cause)) ok = ap store_of ok ∙ is
  store_opened now (Err fault) ok = tt

  pub not_full : (result : Result Reply ApplyFault) → IfErr result (λ fault. fault ≡ Memory) → IsErrOf result LogFull ↔ (MAX_LOG ≤ length (family_at store txn.root).log)
  not_full result memory = absent_not_full store txn.root get_absent result memory
