use Rattle.std.proofs.Common.{true, ◌∙◌}
use Rattle.sq_engine.specs.Clients.{InStage}
use Rattle.sq_engine.proofs.Passing.{arrived_in_stage, arrived_serves, commands_serve, serves_on}
use Rattle.sq_engine.proofs.meeting.take_turn.Goals as goal

pub returns : goal.returns
returns g c =
    let segments = c.args.gate.now.segments in
    let becomes = InStage segments g.C.Client.Becomes in
    let jobs = c.args.jobs.now in
    let rings = c.args.rings.now in
    let client = c.args.client.now in
    let come = c.give_arrived-has_come.new in
    let new = c.execute_commands.new in
    let given = arrived_in_stage g.C.Client.Becomes segments jobs rings client come.jobs come.rings come.client c.give_arrived-has_come.ensures in
    serves_on becomes jobs rings client come.jobs come.rings come.client new.jobs come.rings new.client true
    (arrived_serves becomes jobs rings client come.jobs come.rings come.client true given)
    (commands_serve becomes c.args.fabric.now.parts come.jobs come.rings come.client new.jobs new.client
    (given.passes.rings.count ∙ c.requires) c.execute_commands.ensures)
