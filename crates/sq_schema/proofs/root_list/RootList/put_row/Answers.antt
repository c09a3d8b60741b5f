use Rattle.std.proofs.Common.{◌≡◌, ℕ, [], Some, None, Option, OnOk, IfErr, is_some, unwrap_or, set, refl, sym, ap, subst, ◌∙◌}
use Rattle.std.specs.BTreeMap.{is_at}
use Rattle.std.specs.Map.{lookup, set_value}
use Rattle.std.specs.Ordering.{nat_cmp}
use Rattle.std.specs.FinMap.Entries.{find, put}
use Rattle.std.proofs.lemmas.Cmp.{nat_cmp_total}
use Rattle.std.proofs.lemmas.Map.Steps.{set_value_same}
use Rattle.sq_rows.specs.declared.row.RowKey.{RowKey}
use Rattle.sq_rows.specs.Values.{RowValue}
use Rattle.sq_rows.specs.RowList.{RowList, with_row}
use Rattle.sq_schema.specs.RootList.{IsNotExtended}
use Rattle.sq_schema.specs.Table.{TableValue, rows_in, row_given_fault}
use Rattle.sq_rows.proofs.Entries.{find-lookup, set_value-put}
use Rattle.sq_schema.proofs.Tables.{OnOk-map, OnErr-map}
use Rattle.sq_schema.proofs.root_list.RootList.put_row.Goals as goal
use Rattle.sq_schema.proofs.root_list.RootList.put_row.Goals.{In-Some}

-- a row more of a root key whose rows these were
changed : (table : TableValue) (root : ℕ) (rows now : RowList) (key : RowKey) (row : RowValue) → find nat_cmp root table ≡ Some rows → now ≡ with_row rows key row → put nat_cmp root now table ≡ put nat_cmp root (with_row (rows_in table root) key row) table
changed table root rows now key row stood is = ap (λ r. put nat_cmp root r table) (is ∙ ap (λ r. with_row r key row) (sym (ap (λ o. unwrap_or o []) stood)))

pub returns-in-Ok-clause-ok : goal.returns-in-Ok-clause-ok
returns-in-Ok-clause-ok c =
    let list = c.in-Listed.list.items in
    let root = c.args.root in
    let here = rw c.deref.ensures.value at c.in-Ok.ensures in
    let entry = c.index_mut.result.now in
    let now = c.take.new.rows in
    let stood : find nat_cmp root list ≡ Some entry.1 = here.found entry ∙ ap (λ (e : ℕ × RowList). Some e.1) (sym c.index_mut.ensures.value) in
    rw c.in-Listed.is (
    OnOk-map c.take.result (now ≡ with_row entry.1 c.args.key c.args.row) (set list c.in-Ok.at (entry.0, now) ≡ put nat_cmp root (with_row (rows_in list root) c.args.key c.args.row) list)
    (λ is. ap (λ (e : ℕ × RowList). set list c.in-Ok.at (e.0, now)) c.index_mut.ensures.value ∙ sym (here.put now entry) ∙ changed list root entry.1 now c.args.key c.args.row stood is)
    c.take.ensures.ok
    )

-- the rows that were in the map
found : (c : In-Some) → lookup (is_at (nat_cmp c.args.root)) c.in-Mapped.map.entries ≡ Some c.in-Some.rows.now
found c = sym (rw c.in-Some.is at c.get_mut.ensures.value)

mapped : (c : In-Some) → find nat_cmp c.args.root c.in-Mapped.map.entries ≡ Some c.in-Some.rows.now
mapped c = sym (find-lookup nat_cmp c.in-Mapped.map.entries c.args.root) ∙ found c

pub returns-in-Some-clause-given : goal.returns-in-Some-clause-given
returns-in-Some-clause-given c =
    let stood = mapped (goal.at.returns-in-Some-clause-given c).In-Some in
    rw c.in-Mapped.is (subst (λ (o : Option RowList). OnOk c.take-in-Some.result (row_given_fault (unwrap_or o []) c.args.key ≡ None)) (sym stood) c.take-in-Some.ensures.given)

pub returns-in-Some-clause-ok : goal.returns-in-Some-clause-ok
returns-in-Some-clause-ok c =
    let stood = mapped (goal.at.returns-in-Some-clause-ok c).In-Some in
    let root = c.args.root in
    let key = c.args.key in
    let row = c.args.row in
    let old = c.in-Mapped.map.entries in
    let rows = c.in-Some.rows.now in
    let new = c.take-in-Some.new.rows in
    let now = (c.get_mut.follows.lender new).entries in
    rw c.in-Mapped.is (
    OnOk-map c.take-in-Some.result (new ≡ with_row rows key row) (now ≡ put nat_cmp root (with_row (rows_in old root) key row) old)
    (λ is. (c.get_mut.follows.holds new).0 ∙ set_value-put nat_cmp nat_cmp_total old root new (rw c.in-Mapped.is at c.requires.rising) (ap is_some stood) ∙ changed old root rows new key row stood is)
    c.take-in-Some.ensures.ok
    )

pub returns-in-Some-clause-err : goal.returns-in-Some-clause-err
returns-in-Some-clause-err c =
    let there = found (goal.at.returns-in-Some-clause-err c).In-Some in
    let old = c.in-Mapped.map.entries in
    let rows = c.in-Some.rows.now in
    let new = c.take-in-Some.new.rows in
    let test = is_at (nat_cmp c.args.root) in
    let now = (c.get_mut.follows.lender new).entries in
    rw c.in-Mapped.is (
    OnErr-map c.take-in-Some.result (new ≡ rows) (now ≡ old)
    (λ is. (c.get_mut.follows.holds new).0 ∙ ap (set_value test old) is ∙ set_value_same test old rows there)
    c.take-in-Some.ensures.err
    )

pub returns-in-Some-clause-row_returned : goal.returns-in-Some-clause-row_returned
returns-in-Some-clause-row_returned c =
    let stood = mapped (goal.at.returns-in-Some-clause-row_returned c).In-Some in
    rw c.in-Mapped.is (subst (λ (o : Option RowList). IfErr c.take-in-Some.result (IsNotExtended o c.args.key c.args.row)) (sym stood) c.take-in-Some.ensures.row_returned)

pub returns-in-None-clause-row_returned : goal.returns-in-None-clause-row_returned
returns-in-None-clause-row_returned c = rw c.in-Mapped.is (sym (find-lookup nat_cmp c.in-Mapped.map.entries c.args.root) ∙ sym (rw c.in-None.is at c.get_mut.ensures.value), refl)
