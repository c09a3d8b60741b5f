use Rattle.std.proofs.Common.{◌∙◌}
use Rattle.sq_engine.proofs.Passing.{arrived_none, arrived_further}
use Rattle.sq_engine.proofs.meeting.drain_rings.Goals as goal

pub loop-init : goal.loop-init
loop-init g c = record {
  parts = c.requires;
  given = arrived_none g.C.Client.Becomes c.args.jobs.now c.args.rings.now c.args.client.now;
}

pub loop-preserved : goal.loop-preserved
loop-preserved g c =
    let was = c.loop.invariant in
    let come = c.give_arrived.ensures in
    let new = c.give_arrived.new in
    record {
      parts = come.passes.rings.count ∙ was.parts;
      given = arrived_further g.C.Client.Becomes c.args.jobs.now c.args.rings.now c.args.client.now
          c.loop.jobs c.loop.rings c.loop.client new.jobs new.rings new.client was.given come;
    }
