use Rattle.std.proofs.Common.{sym, ap, ◌∙◌, refl}
use Rattle.sq_moves.specs.declared.recon.Range.{Range}
use Rattle.sq_exec.proofs.Begins.{was_begun}
use Rattle.sq_exec.proofs.part_core.PartCore.begun.Goals as goal

pub returns-clause-core : goal.returns-clause-core
returns-clause-core g c =
    was_begun c.self.view_is c.self.inside.outs.items refl c.args.seg c.args.node c.args.pull c.number-at.result c.from.result c.segments.result.now c.index-segments-at.result c.in-Some.keys c.new.result
    c.index_mut.result.now c.add_work.new.self c.index_mut-2.result.now c.add.new.self c.number-at.ensures.number c.segments.ensures.segments c.requires.exists c.self.invariant.given_up c.index-segments-at.is
    c.in-Some.ensures c.new.ensures (c.from.ensures ∙ c.number.ensures ∙ ap (λ (s : Range). s.dst) (sym c.index-segments-at.is)) c.index_mut.ensures.value c.add_work.ensures c.index_mut-2.ensures.value c.add.ensures
