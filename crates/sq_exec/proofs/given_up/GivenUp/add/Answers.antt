use Rattle.std.proofs.Common.{◌||◌, Bool, List, ap, ◌∙◌, arith}
use Rattle.std.specs.Prelude.{◌&&◌, nat_le, nat_lt}
use Rattle.sq_exec.specs.GivenUp.{is_given_up}
use Rattle.sq_exec.proofs.GivenUp.{given_up_too}
use Rattle.sq_exec.proofs.given_up.GivenUp.add.Goals as goal

pub returns : goal.returns
returns c =
    given_up_too c.args.self.now c.loop-leaf.self-inside.leaves c.args.node c.number-first.result c.loop-leaf.leaf c.loop-leaf.invariant.all (c.number-first.ensures.number ∙ c.first_leaf.ensures.first) (omega arith) (λ k lt.
    c.loop-leaf.invariant.given_up k lt ∙ ap (λ (leaves : List Bool). is_given_up leaves k || (nat_le c.number-first.result k && nat_lt k c.loop-leaf.leaf)) c.self.view_is)
