use Rattle.std.proofs.Common.{◌≡◌, ◌∙◌, ap, ℤ, List, [], ◌∷◌, w64, to_z, of_z}
use Rattle.std.proofs.lemmas.Int.{to_z-of_z}
use Rattle.sq_moves.specs.declared.opening.GivenRow.{GivenRow}
use Rattle.sq_moves.specs.Given.{given_rows, no_rows}
use Rattle.sq_examples.specs.Moves.{root_row}
use Rattle.sq_examples.proofs.Reading.{from_ok, row_with, opens}
use Rattle.sq_examples.proofs.world.open.Goals as goal

pub returns : goal.returns
returns c =
    let kept : ℤ = to_z w64 (of_z w64 c.args.number) in
    let items : c.in_ok-rows.rows.items ≡ record { root = 5; table = 0; sub = 0; number = kept; note = c.new.result } ∷ [] =
    from_ok _ _ _ c.in_ok-rows.ensures.value c.vec.ensures.items in
    let row : given_rows no_rows c.in_ok-rows.rows.items 5 ≡ root_row c.args.number =
    ap (λ (rows : List GivenRow). given_rows no_rows rows 5) items
    ∙ (ap (row_with kept) c.new.ensures.items ∙ ap root_row (to_z-of_z w64 c.args.number c.ranges.number)) in
    rw c.ok-4.ensures.value (opens c.args.number _ _ _ _ _ c.open.result row c.open.ensures.opened)
