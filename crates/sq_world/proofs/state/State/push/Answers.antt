use Rattle.std.proofs.Common.{◌<◌, ◌≤◌, map, length, get_or, set, refl, ap, ◌∙◌, arith}
use Rattle.sq_model.specs.declared.answer.Answer.TheVariants.{Done}
use Rattle.sq_transition.specs.WorldValue.{WorldValue}
use Rattle.sq_world.proofs.Cores.{core_of}
use Rattle.sq_world.proofs.LinkSteps.{AtEnd, source_end, push_empty, push_full, push_has, push_done, end_exists}
use Rattle.sq_world.proofs.state.State.push.Goals as goal
use Rattle.sq_world.proofs.state.State.push.Goals.{After-from-source}

-- the link, and the partition at its source
at_source : (c : After-from-source) → AtEnd c.args.self.now c.self.inside.cores.items c.args.src c.args.dst c.in_ok-link.link c.args.src c.from-source.result
at_source c = source_end c.self.view_is refl c.requires c.in_ok-check_moving.ensures c.in_ok-link.ensures (c.from-source.ensures ∙ c.number.ensures)

pub index-requires : goal.index-requires
index-requires c =
    omega (arith, end_exists (at_source (goal.at.index-requires c).After-from-source), c.self.inside.cores.ok.0)

pub returns-then-is_none : goal.returns-then-is_none
returns-then-is_none c =
    push_empty (at_source (goal.at.returns-then-is_none c).After-from-source) c.index.ensures c.outbox.result c.outbox.ensures c.if-is_none.ensures

pub returns-then-len-self : goal.returns-then-len-self
returns-then-len-self c =
    let w = c.args.self.now in
    let queue = c.index-2.result.now in
    let full : w.config.capacity ≤ length queue.chunks = omega (arith, ap (λ (v : WorldValue). v.config.capacity) c.self.view_is) in
    push_full (at_source (goal.at.returns-then-len-self c).After-from-source) c.index.ensures c.outbox.result queue c.outbox.ensures c.if-is_none.ensures
    (c.index-2.ensures ∙ ap (λ (v : WorldValue). get_or v.queues c.in_ok-link.link.at queue) c.self.view_is) full

pub index_mut-requires : goal.index_mut-requires
index_mut-requires c =
    omega (arith, end_exists (at_source (goal.at.index_mut-requires c).After-from-source), c.self.inside.cores.ok.0)

pub unreachable-requires : goal.unreachable-requires
unreachable-requires c =
    push_has (at_source (goal.at.unreachable-requires c).After-from-source) c.index_mut.ensures.value c.index.result.now c.outbox.result c.index.ensures c.outbox.ensures c.if-is_none.ensures
    c.in_default.ensures.chunk

pub returns : goal.returns
returns c =
    let w = c.args.self.now in
    let parts = map core_of (set c.self.inside.cores.items c.from-source.result c.take_outbox.new.self) in
    let queue = c.index-2.result.now in
    let room : length queue.chunks < w.config.capacity = omega (arith, ap (λ (v : WorldValue). v.config.capacity) c.self.view_is) in
    ap (λ (v : WorldValue). (Done, record v { cores = parts; queues = set v.queues c.in_ok-link.link.at c.push.new.self })) c.self.view_is
    ∙ push_done (at_source (goal.at.returns c).After-from-source) c.index_mut.ensures.value c.in-Some.chunk c.take_outbox.new.self queue c.index_mut-2.result.now c.push.new.self
    c.in-Some.ensures.chunk (c.index-2.ensures ∙ ap (λ (v : WorldValue). get_or v.queues c.in_ok-link.link.at queue) c.self.view_is) room c.take_outbox.ensures.core
    (c.index_mut-2.ensures.value ∙ ap (λ (v : WorldValue). get_or v.queues c.in_ok-link.link.at c.index_mut-2.result.now) c.self.view_is) c.push.ensures
