use Rattle.std.proofs.Common.{List, sym, subst}
use Rattle.sq_gather.specs.Prelude.{TableValue, rows_in}
use Rattle.sq_audit.specs.declared.located.Located.{Located}
use Rattle.sq_audit.specs.Located.{entries_in, ListsAll, AreByRoot}
use Rattle.sq_audit.specs.Told.{IsFound}
use Rattle.sq_audit.proofs.passes.audit_in_threads.Goals as goal

pub find_all_in_threads-requires-clause-rise : goal.find_all_in_threads-requires-clause-rise
find_all_in_threads-requires-clause-rise g c κs region = subst (λ (all : List Located). AreByRoot (entries_in all)) (sym c.as_slice-all.ensures.value) c.in_ok-located.ensures.rise

pub first_defect-requires-clause-listed : goal.first_defect-requires-clause-listed
first_defect-requires-clause-listed g c = subst (λ (all : List Located). ListsAll c.args.g.now (entries_in all)) (sym c.as_slice-all.ensures.value) c.in_ok-located.ensures.all

pub first_defect-requires-clause-rise : goal.first_defect-requires-clause-rise
first_defect-requires-clause-rise g c = subst (λ (all : List Located). AreByRoot (entries_in all)) (sym c.as_slice-all.ensures.value) c.in_ok-located.ensures.rise

pub first_defect-requires-clause-found : goal.first_defect-requires-clause-found
first_defect-requires-clause-found g c =
    subst (λ (table : TableValue). IsFound (rows_in table) (entries_in c.as_slice-all.result.now) c.args.jobs.now c.args.receipts.now c.in_ok-found.found) c.table.ensures.table c.in_ok-found.ensures
