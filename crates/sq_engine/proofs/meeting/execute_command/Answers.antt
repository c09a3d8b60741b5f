use Rattle.sq_engine.specs.Clients.{InStage}
use Rattle.sq_engine.proofs.Passing.{command_posts, command_rests, command_ends}
use Rattle.sq_engine.proofs.meeting.execute_command.Goals as goal

pub returns-in-Post : goal.returns-in-Post
returns-in-Post g c =
    command_posts (InStage c.args.gate.now.segments g.C.Client.Becomes) c.args.fabric.now.parts c.in-Post.job c.args.jobs.now c.args.client.now
    c.next.new.self c.offer.new.jobs c.offer.new.client
    (c.progress.result, (c.progress.ensures.segments, c.in-Post.ensures)) c.offer.ensures

pub returns-in-Rest : goal.returns-in-Rest
returns-in-Rest g c =
    command_rests (InStage c.args.gate.now.segments g.C.Client.Becomes) c.args.fabric.now.parts c.args.jobs.now c.args.client.now
    c.rest.new.self c.next.new.self
    (c.progress.result, (c.progress.ensures.segments, c.in-Rest.ensures)) c.rest.ensures

pub returns-in-End : goal.returns-in-End
returns-in-End g c =
    command_ends (InStage c.args.gate.now.segments g.C.Client.Becomes) c.args.fabric.now.parts c.args.jobs.now c.args.client.now
    c.end.new.self c.next.new.self
    (c.progress.result, (c.progress.ensures.segments, c.in-End.ensures)) c.end.ensures
