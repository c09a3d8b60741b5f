use Rattle.std.proofs.Common.{◌≡◌, Option, Some, None, sym, ap, ◌∙◌, subst}
use Rattle.sq_gather.specs.Prelude.{RowList, rows_in}
use Rattle.sq_gather.proofs.Prelude.{rows_same}
use Rattle.sq_audit.specs.Told.{values_of, IsReplay}
use Rattle.sq_audit.proofs.Retold.{found_some, found_none}
use Rattle.sq_audit.proofs.told.find_log.Goals as goal

pub returns-in-Some : goal.returns-in-Some
returns-in-Some c =
    let family = c.args.family.now in
    let base = rows_in c.args.table.now family.root in
    let group = values_of c.args.receipts.now in
    let opened : c.in_ok-opening.opening ≡ base = c.in_ok-opening.ensures ∙ ap (rows_in c.args.table.now) c.root.ensures in
    let at = subst (λ (o : Option RowList). IsReplay c.in_ok-opening.opening family group o) c.in-Some.is c.in_ok-rows.ensures in
    let same = rows_same c.rows.result.now c.in-Some.rows in
    found_some family base group c.in-Some.rows c.eq.result (subst (λ (rows : RowList). IsReplay rows family group (Some c.in-Some.rows)) opened at)
    ((λ e. sym c.rows.ensures.rows ∙ same.0 (sym c.eq.ensures ∙ e)), (λ e. c.eq.ensures ∙ same.1 (c.rows.ensures.rows ∙ e)))

pub returns-in-None : goal.returns-in-None
returns-in-None c =
    let family = c.args.family.now in
    let base = rows_in c.args.table.now family.root in
    let group = values_of c.args.receipts.now in
    let opened : c.in_ok-opening.opening ≡ base = c.in_ok-opening.ensures ∙ ap (rows_in c.args.table.now) c.root.ensures in
    let at = subst (λ (o : Option RowList). IsReplay c.in_ok-opening.opening family group o) c.in-None.is c.in_ok-rows.ensures in
    found_none family base group c.may_start.result (subst (λ (rows : RowList). IsReplay rows family group None) opened at) c.may_start.ensures
