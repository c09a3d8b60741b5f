use Rattle.std.proofs.Common.{true, ◌∙◌}
use Rattle.sq_engine.specs.Clients.{InStage}
use Rattle.sq_engine.proofs.Passing.{arrived_none, arrived_serves, serves_on}
use Rattle.sq_engine.proofs.meeting.take_turns.Goals as goal

pub loop-init : goal.loop-init
loop-init g c =
    let becomes = InStage c.args.gate.now.segments g.C.Client.Becomes in
    let jobs = c.args.jobs.now in
    let rings = c.args.rings.now in
    let client = c.args.client.now in
    record {
      parts = c.requires;
      serves = arrived_serves becomes jobs rings client jobs rings client true (arrived_none becomes jobs rings client);
    }

pub loop-preserved-then-take_turn : goal.loop-preserved-then-take_turn
loop-preserved-then-take_turn g c =
    let was = c.loop.invariant in
    let turn = c.take_turn.ensures in
    let new = c.take_turn.new in
    record {
      parts = turn.passes.rings.count ∙ was.parts;
      serves = serves_on (InStage c.args.gate.now.segments g.C.Client.Becomes) c.args.jobs.now c.args.rings.now c.args.client.now
          c.loop.jobs c.loop.rings c.loop.client new.jobs new.rings new.client true was.serves turn;
    }

pub loop-preserved-then-is_up_to_client : goal.loop-preserved-then-is_up_to_client
loop-preserved-then-is_up_to_client g c =
    let was = c.loop.invariant in
    let turn = c.take_turn.ensures in
    let new = c.take_turn.new in
    record {
      parts = turn.passes.rings.count ∙ was.parts;
      serves = serves_on (InStage c.args.gate.now.segments g.C.Client.Becomes) c.args.jobs.now c.args.rings.now c.args.client.now
          c.loop.jobs c.loop.rings c.loop.client new.jobs new.rings new.client true was.serves turn;
    }

pub loop-preserved : goal.loop-preserved
loop-preserved g c =
    let was = c.loop.invariant in
    let turn = c.take_turn.ensures in
    let new = c.take_turn.new in
    record {
      parts = turn.passes.rings.count ∙ was.parts;
      serves = serves_on (InStage c.args.gate.now.segments g.C.Client.Becomes) c.args.jobs.now c.args.rings.now c.args.client.now
          c.loop.jobs c.loop.rings c.loop.client new.jobs new.rings new.client true was.serves turn;
    }
