use Rattle.std.proofs.Common.{◌∙◌}
use Rattle.sq_engine.proofs.Passing.{arrived_none, arrived_further}
use Rattle.sq_engine.proofs.meeting.wait_for_nodes.Goals as goal

pub loop-turn-init : goal.loop-turn-init
loop-turn-init g c = record {
  parts = c.requires;
  given = arrived_none g.C.Client.Becomes c.args.jobs.now c.args.rings.now c.args.client.now;
}

pub loop-turn-preserved : goal.loop-turn-preserved
loop-turn-preserved g c =
    let was = c.loop-turn.invariant in
    let come = c.give_arrived.ensures in
    let new = c.give_arrived.new in
    record {
      parts = come.passes.rings.count ∙ was.parts;
      given = arrived_further g.C.Client.Becomes c.args.jobs.now c.args.rings.now c.args.client.now
          c.loop-turn.jobs c.loop-turn.rings c.loop-turn.client new.jobs new.rings new.client was.given come;
    }
