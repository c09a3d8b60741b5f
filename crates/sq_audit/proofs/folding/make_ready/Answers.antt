use Rattle.std.proofs.Common.{◌≡◌, List, [], ap, ◌∙◌, subst, ℕ}
use Rattle.sq_gather.specs.Prelude.{GatheredValue, StoreValue, rows_in}
use Rattle.sq_audit.specs.Sound.{with_receipts}
use Rattle.sq_audit.specs.Defects.{IsVerdict}
use Rattle.sq_audit.specs.Rows.{rows_among}
use Rattle.sq_audit.specs.Folding.{answered_jobs}
use Rattle.sq_audit.proofs.folding.make_ready.Goals as goal

pub returns-in_ok-table-in-Sound : goal.returns-in_ok-table-in-Sound
returns-in_ok-table-in-Sound c = λ o receipts jobs lists judged.
    let stores = c.deref.ensures.value ∙ ap (λ (g : GatheredValue). g.stores) c.g.view_is in
    record {
      sound = subst (IsVerdict o (with_receipts c.args.g.now receipts) (answered_jobs receipts jobs)) c.in-Sound.is judged;
      ids = lists;
      rows = subst (λ (ss : List StoreValue). (root : ℕ) → rows_in c.in_ok-table-in-Sound.table root ≡ rows_among [] ss root) stores c.in_ok-table-in-Sound.ensures.rows;
      bound = c.in_ok-table-in-Sound.ensures.bound;
    }

pub returns-in-Unsound : goal.returns-in-Unsound
returns-in-Unsound c = λ o receipts jobs lists judged. subst (IsVerdict o (with_receipts c.args.g.now receipts) (answered_jobs receipts jobs)) c.in-Unsound.is judged
