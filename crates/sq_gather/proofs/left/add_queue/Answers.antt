use Rattle.std.proofs.Common.{Vec, Global, List, length, refl, arith}
use Rattle.std.proofs.lemmas.Option.{slice_get_read}
use Rattle.sq_schema.specs.TxnValue.{TxnValue}
use Rattle.sq_schema.specs.declared.txn.Txn.{Txn}
use Rattle.sq_gather.proofs.Filled.{grow_same, grow_at}
use Rattle.sq_gather.proofs.left.add_queue.Goals as goal

abbrev items : Vec Txn Global → List TxnValue
items jobs = jobs.items

pub returns-in-Some : goal.returns-in-Some
returns-in-Some g c =
    let left = c.args.left.now in
    let within = c.in-Some.ensures.variant.0 refl in
    grow_at items left.items c.args.part c.in-Some.jobs.now c.take_all.new.jobs
    (slice_get_read left.items (length left.items) c.args.part c.in-Some.jobs.now refl (omega (arith, within, left.ok.0)) c.in-Some.ensures.value)
    c.take_all.ensures

pub returns-in_default : goal.returns-in_default
returns-in_default g c = grow_same _
