use Rattle.std.proofs.Common.{◌≡◌, ℕ, true, [], ◌==◌, if◌then◌else◌, unwrap_or, refl, ap, ◌∙◌, subst, sym}
use Rattle.std.specs.Ordering.{nat_cmp}
use Rattle.std.specs.FinMap.Entries.{find}
use Rattle.sq_rows.specs.RowList.{with_row}
use Rattle.sq_schema.specs.RootList.{table_of}
use Rattle.sq_schema.specs.Table.{TableValue, IsTable, rows_in, is_opening, with_given}
use Rattle.sq_schema.proofs.Tables.{IsTable-put, is_opening-with_row, rows_in-put, rows_in-given}
use Rattle.sq_schema.proofs.table.Table.open.Goals as goal

pub invariant_of-self-2 : goal.invariant_of-self-2
invariant_of-self-2 c =
    let opening : is_opening c.insert.new.self ≡ true = rw (c.in_ok-insert.ensures.ok, c.new-rows.ensures) (is_opening-with_row [] c.args.key c.args.row c.requires.given refl) in
    subst IsTable (sym c.in_default.ensures.ok) (IsTable-put (table_of c.self.inside.rows) c.args.root c.insert.new.self opening c.self.invariant)

pub returns-clause-ok : goal.returns-clause-ok
returns-clause-ok c =
    let root = c.args.root in
    let key = c.args.key in
    let row = c.args.row in
    let old = table_of c.self.inside.rows in
    let now = table_of c.put.new.self in
    let had : rows_in old root ≡ [] = ap (λ found. unwrap_or found []) (ap (find nat_cmp root) c.self.view_is ∙ c.requires.absent) in
    let rows : c.insert.new.self ≡ with_row [] key row = c.in_ok-insert.ensures.ok ∙ ap (λ r. with_row r key row) c.new-rows.ensures in
    let updates = λ (k : ℕ). ap (λ (table : TableValue). rows_in table k) c.in_default.ensures.ok ∙ rows_in-put old root c.insert.new.self k ∙ ap (λ r. if root == k then r else rows_in old k) rows in
    subst (λ (table : TableValue). (k : ℕ) → rows_in now k ≡ with_given (rows_in table) root key row k) c.self.view_is (rows_in-given old now root [] key row had updates)
