use Rattle.std.proofs.Common.{sym, ap, ◌∙◌, arith}
use Rattle.sq_exec.proofs.Ends.{link_of, room_more}
use Rattle.sq_exec.proofs.Seen.{seen_kept}
use Rattle.sq_exec.proofs.part_core.moving.reserve_work.Goals as goal

pub returns-in_err-reserve_work-clause-same : goal.returns-in_err-reserve_work-clause-same
returns-in_err-reserve_work-clause-same c =
    seen_kept link_of c.loop-out.outs c.loop-out.out-index c.out-item.result c.reserve_work.new.self c.out-item.is (c.reserve_work.ensures.same ∙ ap link_of (sym c.out-item.is)) ∙ c.loop-out.invariant.same

pub loop-out-preserved : goal.loop-out-preserved
loop-out-preserved c = record {
  same = seen_kept link_of c.loop-out.outs c.loop-out.out-index c.out-item.result c.reserve_work.new.self c.out-item.is (c.reserve_work.ensures.same ∙ ap link_of (sym c.out-item.is)) ∙ c.loop-out.invariant.same;
  room = room_more c.loop-out.outs c.loop-out.out-index c.reserve_work.new.self (omega arith) c.loop-out.invariant.room c.in_ok-reserve_work.ensures.ok;
}
