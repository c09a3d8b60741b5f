use Rattle.std.proofs.Common.{map, set, sym, refl, ap, ◌∙◌, subst, inl, arith}
use Rattle.sq_model.specs.declared.step.Step.TheVariants.{Cut}
use Rattle.sq_model.specs.declared.answer.Answer.TheVariants.{WasCut, Refused}
use Rattle.sq_transition.specs.WorldValue.{WorldValue}
use Rattle.sq_transition.specs.LinkResults.{cut_result}
use Rattle.sq_transition.specs.Transition.{IsResult}
use Rattle.sq_world.specs.Results.{cut_refused, families_of}
use Rattle.sq_world.proofs.Cores.{core_of}
use Rattle.sq_world.proofs.LinkSteps.{AtEnd, source_end, cut_done, cut_fails, end_exists}
use Rattle.sq_world.proofs.state.State.cut.Goals as goal
use Rattle.sq_world.proofs.state.State.cut.Goals.{After-from, in-Ok, in-Err}

-- the link, and the partition at its source
at_source : (c : After-from) → AtEnd c.args.self.now c.self.inside.cores.items c.args.src c.args.dst c.in_ok-link.link c.args.src c.from.result
at_source c = source_end c.self.view_is refl c.requires c.in_ok-check_moving.ensures c.in_ok-link.ensures (c.from.ensures ∙ c.number.ensures)

pub index_mut-source-requires : goal.index_mut-source-requires
index_mut-source-requires c =
    omega (arith, end_exists (at_source (goal.at.index_mut-source-requires c).After-from), c.self.inside.cores.ok.0)

pub returns : goal.returns
returns c =
    let w = c.args.self.now in
    let parts = map core_of (set c.self.inside.cores.items c.from.result c.cut.new.self) in
    elim c.match-cut.branch [
      | in-Ok b ↦
          let families = b.count.result in
          rw (b.result-is, b.self-inside-is) (inl
          (ap (λ (v : WorldValue). (WasCut b.in-Ok.note families, record v { cores = parts })) c.self.view_is
          ∙ cut_done (at_source (goal.at.returns c).After-from) c.index_mut-source.ensures.value b.in-Ok.note families c.cut.new.self b.in-Ok.ensures.ok (b.count.ensures ∙ ap families_of b.outbox.ensures)))
      | in-Err b ↦ rw (b.result-is, b.self-inside-is, b.cut_refusal.ensures)
          (subst (λ (v : WorldValue). IsResult (Cut c.args.src c.args.dst) w (cut_result w c.args.src c.args.dst) (Refused (cut_refused b.in-Err.fault)) (record v { cores = parts })) (sym c.self.view_is)
          (cut_fails (at_source (goal.at.returns c).After-from) c.index_mut-source.ensures.value b.in-Err.fault c.cut.new.self b.in-Err.ensures.refusal b.in-Err.ensures.err))
    ]
