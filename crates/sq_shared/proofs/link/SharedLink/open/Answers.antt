use Rattle.std.proofs.Common.{ap}
use Rattle.sq_shared.proofs.Moves.{begins, parts}
use Rattle.sq_shared.proofs.link.SharedLink.open.Goals as goal

pub ruled-requires-clause-rule : goal.ruled-requires-clause-rule
ruled-requires-clause-rule c = begins

pub another-receiver-requires-clause-rule : goal.another-receiver-requires-clause-rule
another-receiver-requires-clause-rule c =
    let is = c.in_ok-queue.ensures.3 in parts _ _ (ap (λ v. v.sends) is) (ap (λ v. v.receives) is)
