use Rattle.std.proofs.Common.{◌≡◌, ℕ, true, nat_le, nat_lt, filter, ap, subst, sym, ◌∙◌, rules}
use Rattle.std.specs.Ordering.{nat_cmp}
use Rattle.std.specs.FinMap.Entries.{is_sorted}
use Rattle.std.proofs.lemmas.Fn.{always_returns_same}
use Rattle.std.proofs.lemmas.List.{take_rest}
use Rattle.sq_rows.specs.RowList.{RowList}
use Rattle.sq_schema.specs.Table.{TableValue}
use Rattle.sq_schema.proofs.From.{from_point}
use Rattle.sq_schema.proofs.root_list.RootList.iter_from.Goals as goal

pub returns-in-Listed : goal.returns-in-Listed
returns-in-Listed c =
    let from = c.args.from in
    let list : TableValue = c.as_slice-list.result.now in
    let at = c.partition_point-at.result in
    let rising : is_sorted nat_cmp list ≡ true = subst (λ (table : TableValue). is_sorted nat_cmp table ≡ true) (sym c.as_slice-list.ensures.value) (rw c.in-Listed.is at c.requires) in
    rw c.in-Listed.is (
    c.of_list.ensures
    ∙ take_rest list at
    ∙ sym (from_point list from rising at c.partition_point-at.ensures.bound
    (c.partition_point-at.ensures.partitioned (λ (entry : ℕ × RowList). nat_lt entry.0 from) (always_returns_same _ _ _ (λ a r f k. search rules))))
    ∙ ap (filter (λ (entry : ℕ × RowList). nat_le from entry.0)) c.as_slice-list.ensures.value
    )
