use Rattle.std.proofs.Common.{◌≡◌, ℕ, sym, ap, ◌∙◌, subst}
use Rattle.sq_schema.specs.RootList.{table_of}
use Rattle.sq_schema.specs.Table.{TableValue, IsTable, rows_in, with_rows}
use Rattle.sq_schema.proofs.Tables.{IsTable-put, rows_in-put}
use Rattle.sq_schema.proofs.table.Table.set.Goals as goal

pub invariant_of-self-2 : goal.invariant_of-self-2
invariant_of-self-2 c = subst IsTable (sym c.in_ok-put.ensures.ok) (IsTable-put (table_of c.self.inside.rows) c.args.root c.args.rows c.requires c.self.invariant)

pub returns-clause-ok : goal.returns-clause-ok
returns-clause-ok c =
    let now = table_of c.put.new.self in
    subst (λ (table : TableValue). (k : ℕ) → rows_in now k ≡ with_rows (rows_in table) c.args.root c.args.rows k) c.self.view_is
    (λ k. ap (λ (table : TableValue). rows_in table k) c.in_ok-put.ensures.ok ∙ rows_in-put (table_of c.self.inside.rows) c.args.root c.args.rows k)
