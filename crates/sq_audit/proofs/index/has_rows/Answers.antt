use Rattle.std.proofs.Common.{◌≡◌, [], Option, sym, ap, ◌∙◌}
use Rattle.std.specs.Prelude.{unwrap_or}
use Rattle.sq_gather.specs.Prelude.{RowList, rows_in}
use Rattle.sq_gather.proofs.Prelude.{rows_same}
use Rattle.sq_audit.proofs.index.has_rows.Goals as goal

pub returns-in-Some : goal.returns-in-Some
returns-in-Some c =
    let rows : c.in-Some.rows.now ≡ rows_in c.args.table.now c.args.family.now.root =
    ap (λ (o : Option RowList). unwrap_or o []) c.in-Some.ensures.rows ∙ ap (rows_in c.args.table.now) c.root.ensures in
    let same = rows_same c.rows-in-Some.result.now c.in-Some.rows.now in (
      (λ e. sym c.rows-in-Some.ensures.rows ∙ same.0 (sym c.eq.ensures ∙ e) ∙ rows),
      (λ e. c.eq.ensures ∙ same.1 (c.rows-in-Some.ensures.rows ∙ e ∙ sym rows)),
    )
