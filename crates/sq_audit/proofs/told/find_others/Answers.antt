use Rattle.sq_gather.specs.Prelude.{rows_in}
use Rattle.sq_audit.specs.Located.{entries_in}
use Rattle.sq_audit.specs.Told.{values_of}
use Rattle.sq_audit.proofs.Knowing.{all_found}
use Rattle.sq_audit.proofs.told.find_others.Goals as goal

pub returns : goal.returns
returns c =
    all_found (rows_in c.args.table.now) (entries_in c.args.all.now) (values_of c.args.sorted.now) c.args.receipts.now c.args.logs c.and-told.result c.and.result c.in_ok-others.others c.args.posted
    c.requires.all c.requires.logs c.in_ok-others.ensures c.and-told.ensures.start c.and-told.ensures.known c.and.ensures.start c.and.ensures.known
