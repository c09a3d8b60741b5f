use Rattle.std.proofs.Common.{inl, inr, refl}
use Rattle.sq_serving.specs.Becoming.{desk_value}
use Rattle.sq_serving.proofs.Steps.{closes_with}
use Rattle.sq_serving.proofs.closing.close_unless_stopped.Goals as goal

pub returns-in-Some : goal.returns-in-Some
returns-in-Some g c = inr (inl (c.in-Some.ensures.stopped, refl, c.in-Some.ensures.stops))

pub returns-in-None : goal.returns-in-None
returns-in-None g c =
    closes_with c.close.result c.args.engine.now c.close.new.engine (desk_value g.W.Write.contents c.args.desk.now) c.unwrap_or-input.result
    (record { still = c.in-None.ensures.goes_on; none_waits = c.requires }) c.unwrap_or-input.ensures c.close.ensures
