use Rattle.std.proofs.Common.{sym, ap, subst, ◌∙◌}
use Rattle.sq_schema.specs.declared.root.TheConstants.{ROOT_END}
use Rattle.sq_store.specs.Runs.{families_in_runs, AreRuns}
use Rattle.sq_store.proofs.FoldedRuns.{families_kept, runs_kept}
use Rattle.sq_store.proofs.putting.fold_runs.Goals as goal

pub returns-clause-families : goal.returns-clause-families
returns-clause-families c = ap families_in_runs c.drop_empty.ensures ∙ families_kept c.fold_each_run.new.runs ∙ c.fold_each_run.ensures.families

pub returns-clause-runs : goal.returns-clause-runs
returns-clause-runs c = subst (AreRuns ROOT_END) (sym c.drop_empty.ensures) (runs_kept ROOT_END c.fold_each_run.new.runs c.fold_each_run.ensures.runs)
