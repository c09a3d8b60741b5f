use Rattle.std.proofs.Common.{◌≡◌, ℕ, refl, ap, ◌∙◌, subst}
use Rattle.std.specs.Ordering.{nat_cmp}
use Rattle.std.specs.FinMap.Entries.{put}
use Rattle.sq_rows.specs.RowList.{with_row}
use Rattle.sq_schema.specs.RootList.{table_of}
use Rattle.sq_schema.specs.Table.{TableValue, rows_in, with_given}
use Rattle.sq_schema.proofs.Tables.{IsTable-row, rows_in-put, rows_in-given, OnOk-map}
use Rattle.sq_schema.proofs.table.Table.extend.Goals as goal

pub invariant_of-self : goal.invariant_of-self
invariant_of-self c =
    let old = table_of c.self.inside.rows in
    IsTable-row c.put_row.result old (table_of c.put_row.new.self) c.args.root c.args.key c.args.row c.self.invariant c.put_row.ensures.given c.put_row.ensures.ok c.put_row.ensures.err

pub returns-clause-ok : goal.returns-clause-ok
returns-clause-ok c =
    let old = table_of c.self.inside.rows in
    let now = table_of c.put_row.new.self in
    let rows = with_row (rows_in old c.args.root) c.args.key c.args.row in
    OnOk-map c.put_row.result (now ≡ put nat_cmp c.args.root rows old) ((k : ℕ) → rows_in now k ≡ with_given (rows_in c.args.self.now) c.args.root c.args.key c.args.row k)
    (λ is. subst (λ (table : TableValue). (k : ℕ) → rows_in now k ≡ with_given (rows_in table) c.args.root c.args.key c.args.row k) c.self.view_is
    (rows_in-given old now c.args.root (rows_in old c.args.root) c.args.key c.args.row refl (λ k. ap (λ table. rows_in table k) is ∙ rows_in-put old c.args.root rows k)))
    c.put_row.ensures.ok
