-- An array of another length is no range.
use Rattle.std.proofs.Common.{◌≡◌, length, option_and_then, ◌∙◌, ap, rules}
use Rattle.sq_plan.specs.Reading.{range_of_items}
use Rattle.sq_plan.proofs.Items.{range_of_items-other}
use Rattle.sq_plan.proofs.read.JsonRange.of.Goals as goal
use Rattle.sq_plan.proofs.read.JsonRange.of.Goals.{in_default-via-then-as_slice-lt3, in_default-via-else-as_slice-lt3+else-this-lt4}

pub returns-in_default : goal.returns-in_default
returns-in_default c =
    let e = ap length c.as_slice.ensures.value in
    let other : length c.in_ok-as_array.field-0.now.items ≡ 3 → ⊥ = λ three. elim c.in_default.branch [ in_default-via-then-as_slice-lt3 w ↦ search rules | in_default-via-else-as_slice-lt3+else-this-lt4 w ↦ search rules ] in
    range_of_items-other c.in_ok-as_array.field-0.now.items other ∙ ap (option_and_then range_of_items) c.in_ok-as_array.ensures
