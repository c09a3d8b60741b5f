-- Behind the last range all are written.
use Rattle.std.proofs.Common.{◌≡◌, map, take, ap, ◌∙◌, arith}
use Rattle.std.proofs.lemmas.List.{take_all}
use Rattle.serde_json.specs.Data.{array}
use Rattle.serde_json.specs.View.{items_of}
use Rattle.serde_json.proofs.Views.{view-Array}
use Rattle.sq_picture.specs.Json.{moved_range_data}
use Rattle.sq_picture.proofs.json_text.ranges_value.Goals as goal

pub returns : goal.returns
returns c =
    let all : take c.loop-range.range-index c.args.ranges.now ≡ c.args.ranges.now = take_all _ _ (omega arith) in
    view-Array c.loop-range.values ∙ ap (λ values. array (items_of values)) (c.loop-range.invariant.written ∙ ap (map moved_range_data) all)
