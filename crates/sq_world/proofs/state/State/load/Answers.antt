use Rattle.std.proofs.Common.{map, set, sym, refl, ap, ◌∙◌, subst, inl, arith}
use Rattle.sq_model.specs.declared.step.Step.TheVariants.{Load}
use Rattle.sq_model.specs.declared.answer.Answer.TheVariants.{WasLoaded, Refused}
use Rattle.sq_transition.specs.WorldValue.{WorldValue}
use Rattle.sq_transition.specs.LinkResults.{load_result}
use Rattle.sq_transition.specs.Transition.{IsResult}
use Rattle.sq_world.specs.Results.{load_refused, families_of}
use Rattle.sq_world.proofs.Cores.{core_of}
use Rattle.sq_world.proofs.LinkSteps.{AtEnd, destination_end, may_be_loaded, load_done, load_fails, end_exists}
use Rattle.sq_world.proofs.state.State.load.Goals as goal
use Rattle.sq_world.proofs.state.State.load.Goals.{After-from, in-Ok, in-Err}

-- the link, and the partition that it leads to
at_destination : (c : After-from) → AtEnd c.args.self.now c.self.inside.cores.items c.args.src c.args.dst c.in_ok-link.link c.args.dst c.from.result
at_destination c = destination_end c.self.view_is refl c.requires c.in_ok-check_moving.ensures c.in_ok-link.ensures (c.from.ensures ∙ c.number.ensures)

pub index_mut-destination-requires : goal.index_mut-destination-requires
index_mut-destination-requires c =
    omega (arith, end_exists (at_destination (goal.at.index_mut-destination-requires c).After-from), c.self.inside.cores.ok.0)

pub load-requires : goal.load-requires
load-requires c =
    may_be_loaded (at_destination (goal.at.load-requires c).After-from) c.index_mut-destination.ensures.value

pub returns : goal.returns
returns c =
    let w = c.args.self.now in
    let parts = map core_of (set c.self.inside.cores.items c.from.result c.load.new.self) in
    let families = c.count-families.result in
    elim c.match-load.branch [
      | in-Ok b ↦ rw b.result-is (inl
          (ap (λ (v : WorldValue). (WasLoaded b.in-Ok.note families, record v { cores = parts })) c.self.view_is
          ∙ load_done (at_destination (goal.at.returns c).After-from) c.index_mut-destination.ensures.value b.in-Ok.note families c.load.new.self b.in-Ok.ensures.ok (c.count-families.ensures ∙ ap families_of c.inbox.ensures.chunk)))
      | in-Err b ↦ rw (b.result-is, b.load_refusal.ensures)
          (subst (λ (v : WorldValue). IsResult (Load c.args.src c.args.dst) w (load_result w c.args.src c.args.dst) (Refused (load_refused b.in-Err.fault)) (record v { cores = parts })) (sym c.self.view_is)
          (load_fails (at_destination (goal.at.returns c).After-from) c.index_mut-destination.ensures.value b.in-Err.fault c.load.new.self b.in-Err.ensures.refusal b.in-Err.ensures.err))
    ]
