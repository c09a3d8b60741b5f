use Rattle.std.proofs.Common.{ap, rules, arith}
use Rattle.crossbeam_queue.specs.Passes.{view}
use Rattle.sq_shared.proofs.Moves.{joins, receives, learns_rest, empties}
use Rattle.sq_shared.proofs.link.SharedLink.close.Goals as goal

pub absorb-requires-clause-rule : goal.absorb-requires-clause-rule
absorb-requires-clause-rule g c = joins _ _ _ _ (ap (λ v. v.sends) c.sender.invariant.0) (ap (λ v. v.receives) c.receiver.invariant.0)

pub pop_as-requires-clause-rule : goal.pop_as-requires-clause-rule
pop_as-requires-clause-rule g c =
    let may = ap (λ v. v.receives) c.loop.invariant.knows in (receives _ _ may, learns_rest _ _ may)

pub returns-clause-rest : goal.returns-clause-rest
returns-clause-rest g c =
    let held = c.len_as-count.ensures.rule.1 in
    let left = c.learn_as.ensures.rule in
    let before = view c.absorb.new.pass in
    empties before _ c.args.sender.chunks c.args.receiver.chunks c.loop.rest.items held.0 left.0 (search rules) c.loop.invariant.knows held.2 left.1 (omega (arith, held.1))
