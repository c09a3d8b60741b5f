use Rattle.std.proofs.Common.{List, sym, subst}
use Rattle.sq_gather.specs.Prelude.{TableValue, rows_in}
use Rattle.sq_audit.specs.declared.located.Located.{Located}
use Rattle.sq_audit.specs.Located.{entries_in, ListsAll, AreByRoot}
use Rattle.sq_audit.specs.Told.{IsFound}
use Rattle.sq_audit.proofs.passes.audit.Goals as goal

pub find_all-requires-clause-rise : goal.find_all-requires-clause-rise
find_all-requires-clause-rise c = subst (λ (all : List Located). AreByRoot (entries_in all)) (sym c.as_slice-all.ensures.value) c.in_ok-located.ensures.rise

pub first_defect-requires-clause-listed : goal.first_defect-requires-clause-listed
first_defect-requires-clause-listed c = subst (λ (all : List Located). ListsAll c.args.g.now (entries_in all)) (sym c.as_slice-all.ensures.value) c.in_ok-located.ensures.all

pub first_defect-requires-clause-rise : goal.first_defect-requires-clause-rise
first_defect-requires-clause-rise c = subst (λ (all : List Located). AreByRoot (entries_in all)) (sym c.as_slice-all.ensures.value) c.in_ok-located.ensures.rise

pub first_defect-requires-clause-found : goal.first_defect-requires-clause-found
first_defect-requires-clause-found c =
    subst (λ (table : TableValue). IsFound (rows_in table) (entries_in c.as_slice-all.result.now) c.args.jobs.now c.args.receipts.now c.in_ok-found.found) c.table.ensures.table c.in_ok-found.ensures
