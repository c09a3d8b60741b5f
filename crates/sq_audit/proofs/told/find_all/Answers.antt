use Rattle.std.proofs.Common.{Bor, List, sym, subst}
use Rattle.std.specs.List.Sorted.{IsPermutation}
use Rattle.sq_gather.specs.Prelude.{rows_in, ReceiptValue}
use Rattle.sq_audit.specs.Located.{entries_in}
use Rattle.sq_audit.specs.Told.{values_of}
use Rattle.sq_audit.proofs.Knowing.{found_with}
use Rattle.sq_audit.proofs.told.find_all.Goals as goal

pub find_others-requires-clause-all : goal.find_others-requires-clause-all
find_others-requires-clause-all c = subst (λ (rs : List (Bor ReceiptValue)). IsPermutation c.args.receipts.now (values_of rs)) (sym c.as_slice-sorted.ensures.value) c.in_ok-in_order.ensures.all

pub returns : goal.returns
returns c = found_with (rows_in c.args.table.now) (entries_in c.args.all.now) c.args.jobs.now c.args.receipts.now c.in_ok-posted.posted c.find_others.result c.in_ok-posted.ensures c.find_others.ensures
