use Rattle.std.proofs.Common.{None, ap, ◌∙◌, refl}
use Rattle.sq_exec.specs.CoreValue.{PartCoreValue}
use Rattle.sq_exec.proofs.Ends.{core_changed, room_kept}
use Rattle.sq_exec.proofs.part_core.PartCore.take_outbox.Goals as goal

pub returns-clause-core : goal.returns-clause-core
returns-clause-core g c =
    core_changed c.self.view_is c.self.inside.outs.items refl (λ out. record out { outbox = None }) c.from-at.result c.args.dst c.index_mut.result.now c.take_outbox.new.self
    (c.from-at.ensures ∙ c.number.ensures) c.index_mut.ensures.value c.take_outbox.ensures.link

pub returns-clause-room : goal.returns-clause-room
returns-clause-room g c =
    room_kept c.self.inside.outs.items c.from-at.result c.index_mut.result.now c.take_outbox.new.self c.index_mut.ensures.value c.take_outbox.ensures.room
    ∙ ap (λ (v : PartCoreValue). v.has_room) c.self.view_is
