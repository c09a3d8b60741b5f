-- Behind the last range all are written.
use Rattle.std.proofs.Common.{◌≡◌, List, [], ◌∷◌, map, take, refl, ap, ◌∙◌, arith}
use Rattle.std.proofs.lemmas.List.{take_all}
use Rattle.serde_json.specs.Data.{array, item}
use Rattle.serde_json.specs.View.{items_of}
use Rattle.serde_json.proofs.Views.{view-Array}
use Rattle.sq_plan.specs.declared.plan.PlanRange.{PlanRange}
use Rattle.sq_plan.specs.Spelling.{range_data, ranges_data}
use Rattle.sq_plan.proofs.write.ranges_value.Goals as goal

items_of-map : (ranges : List PlanRange) → items_of (map range_data ranges) ≡ ranges_data ranges
items_of-map [] = refl
items_of-map (range ∷ ranges) = ap (item (range_data range)) (items_of-map ranges)

pub returns : goal.returns
returns c =
    let all : take c.loop-range.range-index c.args.ranges.now ≡ c.args.ranges.now = take_all _ _ (omega arith) in
    view-Array c.loop-range.values ∙ ap (λ values. array (items_of values)) (c.loop-range.invariant.written ∙ ap (map range_data) all) ∙ ap array (items_of-map c.args.ranges.now)
