use Rattle.std.proofs.Common.{Some, ap, ◌∙◌, refl}
use Rattle.sq_exec.specs.CoreValue.{PartCoreValue}
use Rattle.sq_exec.proofs.Ends.{core_changed, room_kept}
use Rattle.sq_exec.proofs.part_core.PartCore.put_outbox.Goals as goal

pub returns-clause-core : goal.returns-clause-core
returns-clause-core g c =
    let outs = c.self.inside.outs.items in
    let same = c.from.ensures ∙ c.number.ensures in
    core_changed c.self.view_is outs refl (λ out. record out { outbox = Some c.args.chunk }) c.from.result c.args.dst c.index_mut.result.now c.put_outbox.new.self
    same c.index_mut.ensures.value c.put_outbox.ensures.link

pub returns-clause-room : goal.returns-clause-room
returns-clause-room g c =
    room_kept c.self.inside.outs.items c.from.result c.index_mut.result.now c.put_outbox.new.self c.index_mut.ensures.value c.put_outbox.ensures.room
    ∙ ap (λ (v : PartCoreValue). v.has_room) c.self.view_is
