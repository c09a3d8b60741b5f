-- What a store has of root keys.
use Rattle.std.proofs.Common.{subst, ⊎_elim, ◌≡◌, ℕ, true, List, [], ◌∷◌, length, get_or, refl, sym, ap, ◌∙◌, arith}
use Rattle.std.specs.Prelude.{◌+◌, ◌<◌, ◌≤◌, cond, option_to_list, Option, Some, None}
use Rattle.std.specs.FinMap.{get, remove}
use Rattle.std.proofs.lemmas.Bool.{cases_lt, eq-eqb}
use Rattle.std.proofs.lemmas.List.{nil_from_length}
use Rattle.sq_schema.specs.declared.root.TheConstants.{ROOT_END}
use Rattle.sq_schema.specs.Family.{FamilyValue}
use Rattle.sq_store.specs.Run.{Run}
use Rattle.sq_store.specs.InOrder.{are_within, HoldsByRoot}
use Rattle.sq_store.specs.StoreValue.{StoreValue, family_in, families_between, without_between}
use Rattle.sq_store.proofs.Between.{rooted_by, family_in-between, get-without, within-between}
use Rattle.sq_store.proofs.Firsts.{not_between_low, not_between_high, between_from}
use Rattle.sq_store.proofs.Keys.{same_store, at_key, get-remove_same, get-remove_other}
use Rattle.sq_store.proofs.Lists.{get_at, rooted-store_of}
use Rattle.sq_store.proofs.Rising.{rises}
use Rattle.sq_store.specs.Runs.{families_in_runs, store_of_runs, AreRuns, IsFamilyAt}
use Rattle.sq_store.proofs.InRuns.{runs_rise}
use Rattle.sq_store.proofs.RunSpans.{read_run, run_rises, get_in_run}
use Rattle.sq_store.proofs.Within.{within_length}

alone : (root : ℕ) (families : List FamilyValue) → are_within root (root + 1) families ≡ true → families ≡ option_to_list (family_in families root)
alone root [] within = refl
alone root (family ∷ families) within =
    let r = rises root (root + 1) family families within in
    let few = within_length (family.root + 1) (root + 1) families (omega (arith, r.high)) r.rest in
    let none : families ≡ [] = nil_from_length families (omega (arith, few, r.low)) in
    ap (λ fs. family ∷ fs) none ∙ sym (ap (λ b. option_to_list (cond b (Some family) (family_in families root))) (eq-eqb family.root root (omega (arith, r.low, r.high))))

-- the families from a root key on and below the next number are its own, if it stands
pub between_one : (store : StoreValue) (root : ℕ) → HoldsByRoot store → families_between store root (root + 1) ≡ option_to_list (get store root)
between_one store root by =
    let found = family_in-between root (root + 1) store root (rooted_by store by) ∙ ap (λ b. cond b (get store root) None) (between_from root (root + 1) root (omega arith) (omega arith)) in
    alone root (families_between store root (root + 1)) (within-between root (root + 1) store (rooted_by store by)) ∙ ap option_to_list found

pub without_one : (store : StoreValue) (root : ℕ) → without_between store root (root + 1) ≡ remove store root
without_one store root =
    same_store (without_between store root (root + 1)) (remove store root) (λ q.
    get-without root (root + 1) store q
    ∙ at_key root q
    (λ same. ap (λ b. cond b None (get store q)) (between_from root (root + 1) q (omega (arith, same)) (omega (arith, same))) ∙ sym (get-remove_same store root q same))
    (λ apart. ap (λ b. cond b None (get store q)) (⊎_elim
    (λ (low : q < root). not_between_low root (root + 1) q low)
    (λ (from : root ≤ q). not_between_high root (root + 1) q (omega (arith, from, apart)))
    (cases_lt q root)) ∙ sym (get-remove_other store root q apart)))

pub upto_one : {X : Type 0} (found : Option X) → length (option_to_list found) ≤ 1
upto_one None = omega arith
upto_one (Some x) = omega arith

-- the store of runs has each family under its own root key
pub rooted-runs : (runs : List Run) (store : StoreValue) → AreRuns ROOT_END runs → store_of_runs runs ≡ store → HoldsByRoot store
rooted-runs runs store are is = subst HoldsByRoot is (rooted-store_of (families_in_runs runs) (runs_rise ROOT_END runs are))

-- the family at its place in its run is the store's
pub get_at_run : (runs : List Run) (root at place : ℕ) (run : Run) (family : FamilyValue) → AreRuns ROOT_END runs → IsFamilyAt runs root at place → run ≡ get_or runs at run → family ≡ get_or run.families place family → Some family ≡ get (store_of_runs runs) root
get_at_run runs root at place run family are is read found =
    let own : run ≡ is.of.run = read ∙ read_run runs root at are is.of run in
    ap Some (found ∙ ap (λ (r : Run). get_or r.families place family) own)
    ∙ sym (get_in_run runs root at are is.of ∙ get_at is.of.run.families root place family (run_rises runs root at are is.of) is.here)
