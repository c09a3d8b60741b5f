use Rattle.std.proofs.Common.{◌≡◌, subst, arith}
use Rattle.sq_picture.specs.Proposal.{chunk_bytes, IsLimitFor}
use Rattle.sq_picture.proofs.Proposing.{limit_for}
use Rattle.sq_picture.proofs.proposal.limit_for.Goals as goal

pub returns-clause-limit : goal.returns-clause-limit
returns-clause-limit c =
    let bytes : c.min.result ≡ chunk_bytes c.args.size c.args.width = cc in
    let limit = limit_for c.min.result c.next_power_of_two.result c.min-2.result (omega arith)
    c.next_power_of_two.ensures.power c.next_power_of_two.ensures.lower_bound c.next_power_of_two.ensures.upper_bound (omega arith) in
    subst (λ n. IsLimitFor n c.min-2.result) bytes limit
