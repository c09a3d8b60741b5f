use Rattle.std.proofs.Common.{true, false, sym, subst}
use Rattle.sq_engine.specs.Clients.{InStage}
use Rattle.sq_engine.specs.Rings.{Serves}
use Rattle.sq_engine.proofs.Passing.{arrived_in_stage, arrived_serves, serves_on}
use Rattle.sq_engine.proofs.meeting.serve_client.Goals as goal

pub returns-then-has_threads : goal.returns-then-has_threads
returns-then-has_threads g c =
    let segments = c.args.gate.now.segments in
    let becomes = InStage segments g.C.Client.Becomes in
    let jobs = c.args.jobs.now in
    let rings = c.args.rings.now in
    let client = c.args.client.now in
    let met = c.wait_for_nodes-has_threads.new in
    let new = c.take_turns.new in
    let given = arrived_in_stage g.C.Client.Becomes segments jobs rings client met.jobs met.rings met.client c.wait_for_nodes-has_threads.ensures in
    subst (Serves becomes jobs rings client new.jobs new.rings new.client) (sym c.if-has_threads.true)
    (serves_on becomes jobs rings client met.jobs met.rings met.client new.jobs new.rings new.client true
    (arrived_serves becomes jobs rings client met.jobs met.rings met.client true given) c.take_turns.ensures)

pub returns-else-has_threads : goal.returns-else-has_threads
returns-else-has_threads g c =
    let segments = c.args.gate.now.segments in
    let becomes = InStage segments g.C.Client.Becomes in
    let jobs = c.args.jobs.now in
    let rings = c.args.rings.now in
    let client = c.args.client.now in
    let met = c.wait_for_nodes-has_threads.new in
    let new = c.drain_rings.new in
    let given = arrived_in_stage g.C.Client.Becomes segments jobs rings client met.jobs met.rings met.client c.wait_for_nodes-has_threads.ensures in
    let rest = arrived_in_stage g.C.Client.Becomes segments met.jobs met.rings met.client new.jobs new.rings new.client c.drain_rings.ensures in
    subst (Serves becomes jobs rings client new.jobs new.rings new.client) (sym c.if-has_threads.false)
    (serves_on becomes jobs rings client met.jobs met.rings met.client new.jobs new.rings new.client false
    (arrived_serves becomes jobs rings client met.jobs met.rings met.client false given)
    (arrived_serves becomes met.jobs met.rings met.client new.jobs new.rings new.client false rest))
