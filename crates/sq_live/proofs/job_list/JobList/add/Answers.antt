use Rattle.std.proofs.Common.{◌≡◌, ◌==◌, ◌++◌, ◌∷◌, [], Bool, true, false, List, length, refl, sym, ap, ◌∙◌, subst}
use Rattle.std.specs.Prelude.{not}
use Rattle.std.specs.Ordering.{nat_cmp}
use Rattle.std.specs.BTreeSet.{contains, Updates}
use Rattle.sq_audit.specs.declared.job.Job.{Job}
use Rattle.sq_live.specs.declared.job_list.TheConstants.{MAX_JOBS}
use Rattle.sq_live.specs.Jobs.{HasIds}
use Rattle.sq_live.proofs.JobIds.{ids_then}
use Rattle.sq_live.proofs.job_list.JobList.add.Goals as goal

-- an id that was added was none of them
unlike : (added is_there : Bool) → added ≡ true → added ≡ not is_there → is_there ≡ false
unlike added false told e = refl
unlike added true told e = sym told ∙ e

pub invariant_of-self-in-Ok-true : goal.invariant_of-self-in-Ok-true
invariant_of-self-in-Ok-true c =
    let was = c.self.inside.jobs.items in
    let job : Job = record { part = c.new-part.result; txn = c.in-Ok.txn } in
    let grown : c.push_reserved.new.self.items ≡ was ++ job ∷ [] = c.push_reserved.ensures.items ∙ ap (λ (l : List Job). l ++ job ∷ []) c.reserve.ensures.items in
    let updates = subst (λ n. Updates nat_cmp c.self.inside.ids c.insert.new.self n true) c.id.ensures c.in-Ok-true.ensures.updates in
    let fresh = subst (λ n. contains nat_cmp c.self.inside.ids n ≡ false) c.id.ensures (unlike c.in-Ok-true.field-0 _ c.in-Ok-true.field-0-test c.in-Ok-true.ensures.added) in
    let room = ap (λ (l : List Job). length l == MAX_JOBS) c.self.view_is ∙ sym c.is_full.ensures ∙ c.if-is_full.false in
    subst (λ (l : List Job). HasIds l c.insert.new.self) (sym grown) (ids_then was c.self.inside.ids c.insert.new.self job c.self.invariant fresh updates room)
