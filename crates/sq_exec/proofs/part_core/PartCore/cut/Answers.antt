use Rattle.std.proofs.Common.{ap, ◌∙◌, refl, arith}
use Rattle.sq_exec.specs.CoreValue.{PartCoreValue}
use Rattle.sq_exec.proofs.Cuts.{core_cut, core_uncut}
use Rattle.sq_exec.proofs.Ends.{room_still}
use Rattle.sq_exec.proofs.part_core.PartCore.cut.Goals as goal

pub returns-clause-ok : goal.returns-clause-ok
returns-clause-ok g c =
    core_cut c.self.view_is c.self.inside.outs.items refl c.from-at.result c.args.dst c.index_mut.result.now c.cut.new.self (g.S.FamilyStore.contents c.cut.new.store) c.cut.result
    (c.from-at.ensures ∙ c.number.ensures) (omega arith) c.index_mut.ensures.value c.cut.ensures.ok

pub returns-clause-err : goal.returns-clause-err
returns-clause-err g c =
    core_uncut c.self.view_is c.self.inside.outs.items refl c.from-at.result c.index_mut.result.now c.cut.new.self (g.S.FamilyStore.contents c.cut.new.store) c.cut.result c.index_mut.ensures.value c.cut.ensures.err

pub returns-clause-room : goal.returns-clause-room
returns-clause-room g c = λ had.
    room_still c.self.inside.outs.items c.from-at.result c.index_mut.result.now c.cut.new.self c.index_mut.ensures.value c.cut.ensures.room (ap (λ (v : PartCoreValue). v.has_room) c.self.view_is ∙ had)
