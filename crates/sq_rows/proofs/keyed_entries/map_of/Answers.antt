use Rattle.std.proofs.Common.{arith}
use Rattle.sq_rows.proofs.Entries.{copied_next}
use Rattle.sq_rows.proofs.keyed_entries.map_of.Goals as goal

pub loop-key-preserved : goal.loop-key-preserved
loop-key-preserved g c =
    copied_next g.K.Ord.cmp g.met.K.Ord.total c.args.list.now c.loop-key.key-index c.loop-key-item.result c.in_ok-clone.field-0 c.loop-key.map.entries _ c.requires.rising (omega arith) c.loop-key-item.is (c.requires.exact _ _ c.in_ok-clone.ensures.cases) c.loop-key.invariant
    c.in_ok-insert.ensures.entries
