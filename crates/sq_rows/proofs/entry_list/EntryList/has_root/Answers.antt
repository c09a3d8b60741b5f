use Rattle.std.proofs.Common.{◌≡◌, Some, sym, ap, ◌∙◌, subst}
use Rattle.std.specs.Prelude.{slice_get, option_copied}
use Rattle.sq_rows.specs.declared.row.RowKey.{RowKey}
use Rattle.sq_rows.specs.Values.{RowValue}
use Rattle.sq_rows.specs.RowList.{RowList}
use Rattle.sq_rows.proofs.Edited.{root_first}
use Rattle.sq_rows.proofs.entry_list.EntryList.has_root.Goals as goal

pub returns-in-Some : goal.returns-in-Some
returns-in-Some c =
    let rows : RowList = c.in-Many.rows.items in
    let first : RowKey × RowValue = c.in-Some.field-0.now in
    let stands : slice_get c.deref.result.now 0 ≡ Some first = sym c.first.ensures.value ∙ ap option_copied c.in-Some.is in
    let here : slice_get rows 0 ≡ Some first = subst (λ (es : RowList). slice_get es 0 ≡ Some first) c.deref.ensures.value stands in
    rw c.in-Many.is (c.eq-in-Some.ensures ∙ root_first rows first here (rw c.in-Many.is at c.requires))

pub returns-in-Some-first_key_value : goal.returns-in-Some-first_key_value
returns-in-Some-first_key_value c =
    let s = c.in-Some-first_key_value in
    rw c.in-Map.is (c.eq-in-Some-first_key_value.ensures ∙ root_first c.in-Map.rows.entries (s.key.now, s.field-0-1.now) s.ensures.first (rw c.in-Map.is at c.requires))
