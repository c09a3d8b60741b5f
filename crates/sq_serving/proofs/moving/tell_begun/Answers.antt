use Rattle.std.proofs.Common.{refl, ap, ◌∙◌, length}
use Rattle.sq_moves.specs.OpeningValue.{OpeningValue}
use Rattle.sq_moves.specs.ReconValue.{ReconValue}
use Rattle.sq_serving.specs.Becoming.{desk_value}
use Rattle.sq_serving.proofs.Steps.{speaks_then}
use Rattle.sq_serving.proofs.Answered.{move_told_if}
use Rattle.sq_serving.proofs.moving.tell_begun.Goals as goal

pub returns-clause-speaks : goal.returns-clause-speaks
returns-clause-speaks g c =
    let dv = desk_value g.W.Write.contents in
    speaks_then (dv c.args.desk.now) (dv c.tell_moving.new.desk) (dv c.note_rest.new.desk) c.tell_moving.ensures.speaks c.note_rest.ensures.speaks

pub returns-clause-tells : goal.returns-clause-tells
returns-clause-tells g c =
    let dv = desk_value g.W.Write.contents in
    let opens = c.opening.ensures.opening in
    let moves = c.recon.ensures.recon ∙ ap (λ (o : OpeningValue). o.recon) opens in
    let segments = c.segments.ensures.segments ∙ ap (λ (r : ReconValue). r.segments) moves in
    move_told_if c.note_rest.result c.args.engine.now _ (dv c.args.desk.now) (dv c.tell_moving.new.desk) (dv c.note_rest.new.desk)
    (ap length segments) (_, c.tell_moving.ensures.moving, refl) c.tell_moving.ensures.standing c.tell_moving.ensures.line c.note_rest.ensures.ends
