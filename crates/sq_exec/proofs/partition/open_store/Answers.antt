use Rattle.std.proofs.Common.{◌∙◌, ◌≡◌, ℕ, subst, sym}
use Rattle.std.specs.Prelude.{nat_lt}
use Rattle.std.proofs.lemmas.List.Sums.{list_all-from_AllPass}
use Rattle.std.specs.FinMap.{empty}
use Rattle.sq_schema.specs.Effect.{RowList}
use Rattle.sq_schema.specs.Table.{is_opening}
use Rattle.sq_schema.specs.declared.root.TheConstants.{ROOT_END}
use Rattle.sq_store.specs.StoreValue.{with_families}
use Rattle.sq_store.specs.Opened.{opened_families}
use Rattle.sq_exec.specs.Opened.{HasOwned}
use Rattle.sq_exec.proofs.Families.{get_owned}
use Rattle.sq_exec.proofs.partition.open_store.Goals as goal

pub returns : goal.returns
returns c =
    let o = c.args.opening.now in
    let part = c.args.part in
    let set_up = c.table.ensures.set_up in
    let is : c.in_ok-store.store ≡ with_families empty (opened_families o.old part o.table) =
    c.in_ok-store.ensures ∙ (λ i. with_families empty (opened_families (c.old_plan.ensures.plan i) part (c.table.ensures.table i))) in
    record {
      is = is;
      owned = subst (HasOwned o part) (sym is)
          (λ root. get_owned o.old part root ROOT_END o.table set_up.rising (list_all-from_AllPass (λ (entry : ℕ × RowList). nat_lt entry.0 ROOT_END) o.table set_up.roots)
          (list_all-from_AllPass (λ (entry : ℕ × RowList). is_opening entry.1) o.table set_up.rows));
    }
