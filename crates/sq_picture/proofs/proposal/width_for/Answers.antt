use Rattle.std.proofs.Common.{◌≡◌, true, false, Option, None, subst, arith}
use Rattle.std.specs.Prelude.{is_some}
use Rattle.sq_moves.specs.declared.opening_fault.ReconFault.{ReconFault}
use Rattle.sq_picture.proofs.Proposing.{width_doubled, has_fault}
use Rattle.sq_picture.proofs.proposal.width_for.Goals as goal

is_not_none : (fault : Option ReconFault) → is_some fault ≡ true → fault ≡ None → ⊥
is_not_none fault some none =
    let wrong : false ≡ true = subst (λ (f : Option ReconFault). is_some f ≡ true) none some in cc

pub loop-width-preserved : goal.loop-width-preserved
loop-width-preserved c =
    let o = c.args.opening.now in
    let was = c.loop-width.invariant.width in
    let faulty = has_fault o c.loop-width.width was c.old_plan-old.result.now c.new_plan-new.result.now c.fault.result
    c.old_plan-old.ensures.plan c.new_plan-new.ensures.plan c.fault.ensures.fault (λ none. is_not_none c.fault.result c.if-is_none.ensures none) in
    record {
      some = omega arith;
      most = omega arith;
      width = width_doubled o c.loop-width.width c.min-width-in-loop-width.result was faulty c.min-width-in-loop-width.ensures;
    }
