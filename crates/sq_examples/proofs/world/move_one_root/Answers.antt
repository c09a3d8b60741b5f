use Rattle.std.proofs.Common.{rules, ◌≡◌, ◌∙◌, ap, ℤ, [], Option, Some, unwrap_or, w64, to_z, of_z, length, ◌<◌, arith}
use Rattle.std.proofs.lemmas.Int.{to_z-of_z}
use Rattle.sq_schema.specs.Values.{RowValue}
use Rattle.sq_schema.specs.Effect.{RowList, root_key, row_at}
use Rattle.sq_examples.specs.Moves.{root_row}
use Rattle.sq_examples.proofs.Reading.{reads, goes_on}
use Rattle.sq_examples.proofs.world.move_one_root.Goals as goal

pub returns : goal.returns
returns c =
    let kept : ℤ = to_z w64 (of_z w64 c.args.number) in
    let same : kept ≡ c.args.number = to_z-of_z w64 c.args.number c.ranges.number in
    let root : c.in_ok-new.field-0 ≡ 5 = search rules in
    let rows : c.rows.result.now ≡ root_row kept =
    c.rows.ensures.rows ∙ reads kept c.loop-step.world 1 c.in_ok-store.field-0.now c.in_ok-family.family.now
    c.loop-step.invariant c.in_ok-store.ensures.by_history c.in_ok-new.field-0 root c.in_ok-family.ensures.family in
    let found : Some c.in_ok-row.row.now ≡ row_at (root_row kept) root_key =
    c.in_ok-row.ensures ∙ ap (λ (its : RowList). row_at its root_key) rows in
    let row : c.in_ok-row.row.now ≡ record { number = kept; note = [] } =
    ap (λ (o : Option RowValue). unwrap_or o c.in_ok-row.row.now) found in
    let number : c.number.result ≡ c.args.number = c.number.ensures ∙ (ap (λ (it : RowValue). it.number) row ∙ same) in
    ap (λ (z : ℤ). to_z w64 (of_z w64 z)) number ∙ same

pub loop-step-preserved : goal.loop-step-preserved
loop-step-preserved c =
    let within : c.loop-step.step-index < length c.whole_move.result = omega (arith, c.type_inv.step-items, c.loop-step-test.true) in
    goes_on _ _ _ _ _ c.loop-step.invariant (c.whole_move.ensures c.loop-step.step-index c.step-item.result within) c.step.ensures.headline
