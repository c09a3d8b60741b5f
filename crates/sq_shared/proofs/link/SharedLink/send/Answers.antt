use Rattle.std.proofs.Common.{ap}
use Rattle.sq_shared.proofs.Moves.{sends, learns_end}
use Rattle.sq_shared.proofs.link.SharedLink.send.Goals as goal

pub push_as-requires-clause-rule : goal.push_as-requires-clause-rule
push_as-requires-clause-rule g c =
    let may = ap (λ v. v.sends) c.pass.invariant.0 in (sends _ _ _ _ may, learns_end _ _ may)
