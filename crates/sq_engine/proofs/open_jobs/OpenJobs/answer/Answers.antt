use Rattle.std.proofs.Common.{refl, sym, ap, ◌∙◌}
use Rattle.sq_engine.specs.declared.event.Event.{Event}
use Rattle.sq_engine.specs.declared.event.Event.TheVariants.{Drops}
use Rattle.sq_engine.specs.Events.{is_known, are_known, is_arrived, are_whole}
use Rattle.sq_engine.proofs.OneMore.{still_all, not_all}
use Rattle.sq_engine.proofs.open_jobs.OpenJobs.answer.Goals as goal

pub invariant_of-self-else-has_open : goal.invariant_of-self-else-has_open
invariant_of-self-else-has_open c =
    let events = c.self.inside.events.items in
    let event : Event = Drops c.args.part c.args.receipt in
    let more = c.and-self-inside-else-has_open.ensures in (
      sym (ap are_known more ∙ not_all is_known events event refl),
      c.self.invariant.1 ∙ sym (ap are_whole more ∙ still_all is_arrived events event refl),
    )
