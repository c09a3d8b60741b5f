use Rattle.std.proofs.Common.{refl, sym, ap, ◌∙◌, subst, arith}
use Rattle.sq_leader.specs.LeaderValue.{IdleValue}
use Rattle.sq_leader.proofs.LedStages.{ArePrepared, first_prepared, all_prepared}
use Rattle.sq_leader.proofs.leading.prepare_all.Goals as goal

pub loop-part-init : goal.loop-part-init
loop-part-init c =
    let prepared = c.in-Ok.preparing.prepared in
    let parts = ap (λ (idle : IdleValue). idle.parts) c.new.ensures ∙ sym c.parts-parts.ensures.parts in
    (subst (λ n. ArePrepared n 1 prepared) parts (first_prepared c.new.result c.in-Ok.preparing c.in-Ok.ensures), refl)

pub returns-clause-all : goal.returns-clause-all
returns-clause-all c = all_prepared c.parts-parts.result c.loop-part.part c.loop-part.preparing.prepared (omega arith) c.loop-part.invariant.0
