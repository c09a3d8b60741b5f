-- A run of a root key that is changed in its place.
use Rattle.std.proofs.Common.{subst, ◌≡◌, ℕ, true, List, ◌∷◌, ◌++◌, length, set, sym, ap, ◌∙◌}
use Rattle.std.specs.Prelude.{◌<◌, ◌≤◌, Result, Ok, Err, IfOk, OnOk, OnErr}
use Rattle.std.specs.FinMap.{insert}
use Rattle.std.proofs.Math.Seq.{set-append_seam}
use Rattle.sq_schema.specs.declared.root.TheConstants.{ROOT_END}
use Rattle.sq_schema.specs.declared.fault.ApplyFault.{ApplyFault}
use Rattle.sq_schema.specs.declared.txn.Reply.{Reply}
use Rattle.sq_schema.specs.Family.{FamilyValue}
use Rattle.sq_schema.specs.TxnValue.{TxnValue}
use Rattle.sq_store.specs.Run.{Run}
use Rattle.sq_store.specs.InOrder.{are_within}
use Rattle.sq_store.specs.Listed.{store_of}
use Rattle.sq_store.specs.StoreValue.{store_after}
use Rattle.sq_store.specs.Runs.{families_in_runs, first_bound, AreRuns, IsRunOf}
use Rattle.sq_store.proofs.InRuns.{run_replaced, bound_upto, front_within, back_within, families_around}
use Rattle.sq_store.proofs.Lifts.{lifted_insert}
use Rattle.sq_store.proofs.RunSpans.{run_facts, replaced_store}

-- another run at a place
pub set_run : (runs front back : List Run) (run other : Run) (at : ℕ) → runs ≡ front ++ run ∷ back → length front ≡ at → set runs at other ≡ front ++ other ∷ back
set_run runs front back run other at whole count = (λ i. set (whole i) (sym count i) other) ∙ set-append_seam front run back other

module _ (runs : List Run) (root at : ℕ) (are : AreRuns ROOT_END runs) (is : IsRunOf runs root at) (other : Run) (same : other.lo ≡ is.run.lo) (within : are_within is.run.lo (first_bound ROOT_END is.back) other.families ≡ true) where
  set_is : set runs at other ≡ is.front ++ other ∷ is.back
  set_is = set_run runs is.front is.back is.run other at is.whole is.count

  pub set_are : AreRuns ROOT_END (set runs at other)
  set_are = subst (AreRuns ROOT_END) (sym set_is) (run_replaced is.front is.back is.run other (run_facts runs root at are is) same within)

  set_families : families_in_runs (set runs at other) ≡ families_in_runs is.front ++ (other.families ++ families_in_runs is.back)
  set_families = families_around (set runs at other) is.front is.back other set_is

  -- the same families
  pub set_alike : other.families ≡ is.run.families → families_in_runs (set runs at other) ≡ families_in_runs runs
  set_alike alike =
      set_families ∙ ap (λ items. families_in_runs is.front ++ (items ++ families_in_runs is.back)) alike ∙ sym (families_around runs is.front is.back is.run is.whole)

  -- one more
  pub set_inserted : (family : FamilyValue) → store_of other.families ≡ insert (store_of is.run.families) root family → store_of (families_in_runs (set runs at other)) ≡ insert (store_of (families_in_runs runs)) root family
  set_inserted family put =
      let stands = run_facts runs root at are is in
      ap store_of set_families
      ∙ lifted_insert is.run.lo (first_bound ROOT_END is.back) ROOT_END (families_in_runs is.front) (families_in_runs is.back) stands.next (bound_upto ROOT_END is.back stands.after) (front_within is.front is.back is.run stands)
      (back_within is.front is.back is.run stands) is.run.families other.families stands.own within root family is.low is.high put
      ∙ ap (λ fs. insert (store_of fs) root family) (sym (families_around runs is.front is.back is.run is.whole))

  -- a transaction on its root key
  pub set_applied : (txn : TxnValue) (result : Result Reply ApplyFault) → txn.root ≡ root → IfOk result (λ reply. store_of other.families ≡ store_after (store_of is.run.families) txn reply)
      → IfOk result (λ reply. store_of (families_in_runs (set runs at other)) ≡ store_after (store_of (families_in_runs runs)) txn reply)
  set_applied txn (Ok reply) own done =
      ap (λ rs. store_of (families_in_runs rs)) set_is
      ∙ replaced_store runs is.front is.back is.run other are is.whole same within txn reply (subst (λ n. is.run.lo ≤ n) (sym own) is.low) (subst (λ n. n < first_bound ROOT_END is.back) (sym own) is.high) done
  set_applied txn (Err fault) own done = tt

  pub set_refused : (result : Result Reply ApplyFault) → OnErr result (other.families ≡ is.run.families) → OnErr result (families_in_runs (set runs at other) ≡ families_in_runs runs)
  set_refused (Ok reply) alike = tt
  set_refused (Err fault) alike = set_alike alike

pub on_ok : {A E P Q : Type 0} (result : Result A E) → (P → Q) → OnOk result P → OnOk result Q
on_ok (Ok value) f holds = f holds
on_ok (Err fault) f holds = tt

pub on_err : {A E P Q : Type 0} (result : Result A E) → (P → Q) → OnErr result P → OnErr result Q
on_err (Ok value) f holds = tt
on_err (Err fault) f holds = f holds

pub on_either : {A E P Q R : Type 0} (result : Result A E) → (P → R) → (Q → R) → OnOk result P → OnErr result Q → R
on_either (Ok value) f g done failed = f done
on_either (Err fault) f g done failed = g failed

pub for_err : {A E P : Type 0} (result : Result A E) → P → OnErr result P
for_err (Ok value) holds = tt
for_err (Err fault) holds = holds
