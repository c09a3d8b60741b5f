use Rattle.std.proofs.Common.{map, set, sym, ap, ◌∙◌}
use Rattle.sq_model.specs.declared.answer.Answer.TheVariants.{Done}
use Rattle.sq_transition.specs.WorldValue.{WorldValue}
use Rattle.sq_transition.specs.LeaderResults.{StepResult}
use Rattle.sq_world.proofs.Cores.{core_of}
use Rattle.sq_world.proofs.Folding.{fold_done}
use Rattle.sq_world.proofs.state.State.fold.Goals as goal

pub returns : goal.returns
returns c =
    let w = c.args.self.now in
    let parts = map core_of (set c.self.inside.cores.items c.args.part c.fold.new.self) in
    let at : WorldValue → StepResult = λ v. (Done, record v { cores = parts }) in
    ap at c.self.view_is
    ∙ fold_done w c.self.inside.cores.items c.args.part c.index_mut.result.now c.fold.new.self c.in_ok-check_part.field-0 (ap (λ (v : WorldValue). v.cores) c.self.view_is) c.requires c.in_ok-check_part.ensures c.index_mut.ensures.value
    (sym c.phase.ensures ∙ c.in-Ended.is) c.fold.ensures.core
