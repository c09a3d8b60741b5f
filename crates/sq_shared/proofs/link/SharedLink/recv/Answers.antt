use Rattle.std.proofs.Common.{ap}
use Rattle.sq_shared.proofs.Moves.{receives, learns_rest}
use Rattle.sq_shared.proofs.link.SharedLink.recv.Goals as goal

pub pop_as-requires-clause-rule : goal.pop_as-requires-clause-rule
pop_as-requires-clause-rule g c =
    let may = ap (λ v. v.receives) c.pass.invariant.0 in (receives _ _ may, learns_rest _ _ may)
