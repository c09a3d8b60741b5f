-- Behind the last segment all are written.
use Rattle.std.proofs.Common.{◌≡◌, map, take, ap, ◌∙◌, arith}
use Rattle.std.proofs.lemmas.List.{take_all}
use Rattle.serde_json.specs.Data.{array}
use Rattle.serde_json.specs.View.{items_of}
use Rattle.serde_json.proofs.Views.{view-Array}
use Rattle.sq_picture.specs.Json.{segment_data}
use Rattle.sq_picture.proofs.json_text.segments_value.Goals as goal

pub returns : goal.returns
returns c =
    let own = c.segments-segments.result.now in
    let all : take c.loop-segment.segment-index own ≡ own = take_all _ _ (omega arith) in
    view-Array c.loop-segment.values ∙ ap (λ values. array (items_of values)) (c.loop-segment.invariant.written ∙ ap (map (segment_data c.args.recon.now)) (all ∙ c.segments-segments.ensures.segments))
