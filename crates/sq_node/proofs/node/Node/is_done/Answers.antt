use Rattle.std.proofs.Common.{rules, ◌≡◌, ◌+◌, ◌≤◌, ℕ, sym, ap, ◌∙◌, subst, inr}
use Rattle.std.specs.Prelude.{slice_get}
use Rattle.sq_moves.specs.ReconValue.{ReconValue, stages}
use Rattle.sq_node.specs.declared.stepped.Stepped.TheVariants.{Nothing}
use Rattle.sq_node.specs.NodeState.{NodeState}
use Rattle.sq_node.specs.Settled.{AreSeen}
use Rattle.sq_node.specs.Idle.{IsIdle, SomeUndone, takes_part}
use Rattle.sq_node.proofs.Stays.{request_stays}
use Rattle.sq_node.proofs.Keeps.{looks_keep}
use Rattle.sq_node.proofs.Settles.{other_flags}
use Rattle.sq_node.proofs.Known.{AllKnowNoLess, known_looked, settled_seats}
use Rattle.sq_node.proofs.node.Node.is_done.Goals as goal

pub invariant_of-self : goal.invariant_of-self
invariant_of-self c =
    let inside = c.self.inside in
    let old = inside.seats.items in
    let new = c.see_all_complete.new.seats.items in (
      c.self.invariant.0,
      other_flags inside.core.core old new inside.to_complete.items inside.complete.items c.see_all_complete.new.complete.items c.see_all_complete.ensures.flags
          (known_looked old new c.see_all_complete.ensures.looked) c.see_all_complete.ensures.seen c.self.invariant.1,
    )

pub returns-clause-looks : goal.returns-clause-looks
returns-clause-looks c = search rules

pub returns-clause-holds : goal.returns-clause-holds
returns-clause-holds c = looks_keep c.args.self.now _ (returns-clause-looks c)

pub returns-clause-of : goal.returns-clause-of
returns-clause-of c = request_stays c.args.fabric.now c.args.self.now Nothing _ (returns-clause-looks c) c.requires

pub returns-clause-done : goal.returns-clause-done
returns-clause-done c = λ reads.
    let new = c.see_all_complete.new.seats.items in
    let node = c.args.self.now in
    let fabric = c.args.fabric.now in
    let rest = c.is_at_rest.ensures in
    let known : AllKnowNoLess node.seats new = subst (λ (n : NodeState). AllKnowNoLess n.seats new) c.self.view_is (known_looked c.self.inside.seats.items new c.see_all_complete.ensures.looked) in
    let seen : AreSeen new c.see_all_complete.new.complete.items = c.see_all_complete.ensures.seen c.self.invariant.1.seen in
    let own : c.part-part.result ≡ node.core.part = c.part-part.ensures ∙ ap (λ (n : NodeState). n.core.part) c.self.view_is in
    subst IsIdle (sym (ap (λ (n : NodeState). record n { seats = new }) c.self.view_is))
    (record {
      quiet = rest.quiet c.if-not-is_at_rest.false;
      settled = λ seg n whole. settled_seats node.seats new known seg n (rest.settled c.if-not-is_at_rest.false seg n whole);
      complete = λ seg segment there part.
          seen seg
          (c.see_all_complete.ensures.complete reads seg segment (ap (λ (recon : ReconValue). slice_get recon.segments seg) (sym c.requires.recon) ∙ there)
          ((λ k. takes_part (sym c.requires.recon k) (sym c.requires.stage k) (own k) segment) ∙ part));
      waiting = λ last.
          rest.waiting c.if-not-is_at_rest.false
          (subst (λ (recon : ReconValue). stages recon ≤ fabric.stage + 1) c.requires.recon (subst (λ (stage : ℕ). stages node.core.recon ≤ stage + 1) c.requires.stage last));
    })

pub returns-clause-busy : goal.returns-clause-busy
returns-clause-busy c = λ no. inr (
    subst (λ (node : NodeState). SomeUndone c.args.fabric.now node.core.part node.seats c.see_all_complete.new.seats.items) c.self.view_is
    (subst (λ (part : ℕ). SomeUndone c.args.fabric.now part c.self.inside.seats.items c.see_all_complete.new.seats.items) c.part-part.ensures (c.see_all_complete.ensures.undone no))
    )
