use Rattle.std.proofs.Common.{rules, arith}
use Rattle.sq_text.specs.Texts.{in_line}
use Rattle.sq_text.proofs.Appending.{both, appends_none, appends_next, appends_all, lines_of_way}
use Rattle.sq_text.proofs.dump.write_way.Goals as goal

pub loop-family-init : goal.loop-family-init
loop-family-init g c = appends_none (g.W.Write.contents c.write_bytes.new.writer)

pub loop-family-preserved : goal.loop-family-preserved
loop-family-preserved g c = appends_next in_line c.args.families.now c.loop-family.family-index c.family-item.result _ _ _ c.loop-family-test.true c.family-item.is c.loop-family.invariant c.in_ok-write_in.ensures

pub returns : goal.returns
returns g c =
    let at_families = g.W.Write.contents c.write_bytes.new.writer in
    let end = g.W.Write.contents c.loop-family.writer in
    let families = appends_all in_line c.args.families.now c.loop-family.family-index at_families end (omega arith) c.loop-family.invariant in
    both (g.W.Write.contents c.args.writer.now) at_families end _ _ _ c.in_ok-write_bytes.ensures families
    (lines_of_way (record { note = c.args.note.now; families = c.args.families.now }) c.as_bytes.result.now (search rules))
