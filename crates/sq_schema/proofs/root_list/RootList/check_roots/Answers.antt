use Rattle.std.proofs.Common.{◌≡◌, ℕ, length, ap, subst, sym, ◌∙◌, arith, Some}
use Rattle.std.specs.Prelude.{slice_get, ◌-◌, option_copied}
use Rattle.sq_schema.specs.declared.root.TheConstants.{ROOT_END}
use Rattle.sq_rows.specs.RowList.{RowList}
use Rattle.sq_schema.specs.Table.{TableValue}
use Rattle.sq_schema.proofs.From.{all_fit}
use Rattle.sq_schema.proofs.root_list.RootList.check_roots.Goals as goal

pub returns-in-Some : goal.returns-in-Some
returns-in-Some c =
    let table : TableValue = c.in-Listed.rows.items in
    let last : ℕ × RowList = c.in-Some.field-0.now in
    let stands : slice_get c.deref.result.now (length c.deref.result.now - 1) ≡ Some last = sym c.last.ensures.value ∙ ap option_copied c.in-Some.is in
    let here : slice_get table (length table - 1) ≡ Some last = subst (λ (es : TableValue). slice_get es (length es - 1) ≡ Some last) c.deref.ensures.value stands in
    rw c.in-Listed.is (all_fit table ROOT_END (rw c.in-Listed.is at c.requires) last here (omega (arith, c.number.ensures.number, c.number.ensures.bound)))

pub returns-in-Some-last_key_value : goal.returns-in-Some-last_key_value
returns-in-Some-last_key_value c =
    let s = c.in-Some-last_key_value in
    let number = c.number-in-Some-last_key_value.ensures in
    rw c.in-Mapped.is (all_fit c.in-Mapped.rows.entries ROOT_END (rw c.in-Mapped.is at c.requires) (s.root.now, s.field-0-1.now) s.ensures.last (omega (arith, number.number, number.bound)))
