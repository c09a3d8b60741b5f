use Rattle.std.proofs.Common.{[], ◌∷◌, refl, subst}
use Rattle.std.specs.Prelude.{Option}
use Rattle.sq_audit.specs.declared.job.Job.{Job}
use Rattle.sq_serving.specs.Becoming.{desk_value, job_list, Hears}
use Rattle.sq_serving.proofs.Desks.{hears_then, same_hears}
use Rattle.sq_serving.proofs.desk.ServeDesk.asked_job.Goals as goal

pub returns-in-None : goal.returns-in-None
returns-in-None g c = hears_then [] [] _ _ _ c.loop-line.invariant c.in-None.ensures

pub returns-in-Some-Some : goal.returns-in-Some-Some
returns-in-Some-Some g c =
    let before = desk_value g.W.Write.contents c.loop-line.self in
    let after = desk_value g.W.Write.contents c.job_of_next_line.new.self in
    hears_then [] (c.in-Some-Some.job ∷ []) _ _ _ c.loop-line.invariant
    (subst (λ (job : Option Job). Hears [] before (job_list job) after) c.in-Some-Some.field-0-is c.in-Some-Some.ensures)

pub loop-line-preserved : goal.loop-line-preserved
loop-line-preserved g c =
    let before = desk_value g.W.Write.contents c.loop-line.self in
    let after = desk_value g.W.Write.contents c.job_of_next_line.new.self in
    hears_then [] [] _ _ _ c.loop-line.invariant
    (subst (λ (job : Option Job). Hears [] before (job_list job) after) c.in-Some-None.field-0-is c.in-Some-None.ensures)

pub loop-line-init : goal.loop-line-init
loop-line-init g c = same_hears _ _ refl
