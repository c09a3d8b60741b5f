use Rattle.std.proofs.Common.{map, get_or, set, refl, sym, ap, ◌∙◌, arith}
use Rattle.sq_model.specs.declared.answer.Answer.TheVariants.{Done, Refused}
use Rattle.sq_model.specs.declared.answer.Refusal.TheVariants.{LinkEmpty}
use Rattle.sq_transition.specs.WorldValue.{WorldValue}
use Rattle.sq_world.proofs.Cores.{core_of}
use Rattle.sq_world.proofs.LinkSteps.{AtEnd, destination_end, pop_full, pop_empty, pop_done, end_exists, inbox_exists, inbox_empty}
use Rattle.sq_world.proofs.state.State.pop.Goals as goal
use Rattle.sq_world.proofs.state.State.pop.Goals.{After-from-destination}

-- the link, and the partition that it leads to
at_destination : (c : After-from-destination) → AtEnd c.args.self.now c.self.inside.cores.items c.args.src c.args.dst c.in_ok-link.link c.args.dst c.from-destination.result
at_destination c = destination_end c.self.view_is refl c.requires c.in_ok-check_moving.ensures c.in_ok-link.ensures (c.from-destination.ensures ∙ c.number.ensures)

pub index-requires : goal.index-requires
index-requires c =
    omega (arith, end_exists (at_destination (goal.at.index-requires c).After-from-destination), c.self.inside.cores.ok.0)

pub returns-then-is_some : goal.returns-then-is_some
returns-then-is_some c =
    pop_full (at_destination (goal.at.returns-then-is_some c).After-from-destination) c.index.ensures c.inbox.result c.inbox.ensures.chunk (sym c.if-is_some.ensures)

pub returns-in_default : goal.returns-in_default
returns-in_default c =
    ap (λ (v : WorldValue). (Refused LinkEmpty, record v { queues = set v.queues c.in_ok-link.link.at c.pop.new.self })) c.self.view_is
    ∙ pop_empty (at_destination (goal.at.returns-in_default c).After-from-destination) c.index.ensures c.inbox.result c.index_mut.result.now c.pop.new.self c.inbox.ensures.chunk (sym c.if-is_some.ensures)
    (c.index_mut.ensures.value ∙ ap (λ (v : WorldValue). get_or v.queues c.in_ok-link.link.at c.index_mut.result.now) c.self.view_is) c.in_default.ensures

pub index_mut-requires-2 : goal.index_mut-requires-2
index_mut-requires-2 c =
    omega (arith, end_exists (at_destination (goal.at.index_mut-requires-2 c).After-from-destination), c.self.inside.cores.ok.0)

pub put_inbox-requires : goal.put_inbox-requires
put_inbox-requires c =
    inbox_exists (at_destination (goal.at.put_inbox-requires c).After-from-destination) c.index_mut-2.ensures.value c.index.result.now c.index.ensures c.inbox.ensures.places

pub unreachable-requires : goal.unreachable-requires
unreachable-requires c =
    inbox_empty (at_destination (goal.at.unreachable-requires c).After-from-destination) c.index_mut-2.ensures.value c.index.result.now c.inbox.result c.index.ensures c.inbox.ensures.chunk (sym c.if-is_some.ensures)
    (c.in_default-put_inbox.ensures.full.0 refl)

pub returns : goal.returns
returns c =
    let parts = map core_of (set c.self.inside.cores.items c.from-destination.result c.put_inbox.new.self) in
    ap (λ (v : WorldValue). (Done, record v { cores = parts; queues = set v.queues c.in_ok-link.link.at c.pop.new.self })) c.self.view_is
    ∙ pop_done (at_destination (goal.at.returns c).After-from-destination) c.index_mut-2.ensures.value c.in-Some.chunk c.inbox.result c.index.result.now c.put_inbox.new.self c.index_mut.result.now c.pop.new.self
    c.index.ensures c.inbox.ensures.chunk (sym c.if-is_some.ensures)
    (c.index_mut.ensures.value ∙ ap (λ (v : WorldValue). get_or v.queues c.in_ok-link.link.at c.index_mut.result.now) c.self.view_is) c.in-Some.ensures c.in-Ok.ensures.ok
