use Rattle.std.proofs.Common.{◌≡◌, true, List, length, refl, sym, ap, ◌∙◌, subst, arith}
use Rattle.sq_moves.specs.ReconValue.{ReconValue}
use Rattle.sq_shared.specs.declared.tree.StatusTree.{StatusTree}
use Rattle.sq_exec.specs.Runs.{is_whole}
use Rattle.sq_exec.specs.CoreValue.{loaded_at}
use Rattle.sq_shared.specs.Seats.{AreSeatsOf}
use Rattle.sq_node.specs.NodeState.{NodeState}
use Rattle.sq_node.specs.Looks.{OnlyLooked, SeatsLooked, HasNoneToComplete}
use Rattle.sq_node.specs.Steps.{Completes}
use Rattle.sq_node.specs.declared.stepped.Stepped.TheVariants.{Did, Nothing}
use Rattle.sq_node.proofs.Stays.{complete_stays}
use Rattle.sq_node.proofs.Told.{complete_told}
use Rattle.sq_node.proofs.Known.{known_looked}
use Rattle.sq_node.proofs.Looked.{no_looks, seats_looked_at}
use Rattle.sq_node.proofs.Settles.{other_flags}
use Rattle.sq_node.proofs.Completing.{after_one, after_none, one_exists, completed_between, none_of_all}
use Rattle.sq_node.proofs.node.Node.step_complete.Goals as goal

pub complete_first-requires-clause-nodes : goal.complete_first-requires-clause-nodes
complete_first-requires-clause-nodes c =
    λ seg n there.
    let within = c.self.invariant.1.exists seg n there in
    let recon : c.self.inside.core.core.recon ≡ c.args.fabric.now.recon = ap (λ (node : NodeState). node.core.recon) c.self.view_is ∙ c.requires.recon in
    omega (arith, within, ap (λ (r : ReconValue). length r.segments) recon, c.trees-trees.ensures.fabric.trees, ap length c.trees-trees.ensures.trees)

pub invariant_of-self : goal.invariant_of-self
invariant_of-self c =
    let inside = c.self.inside in
    (c.self.invariant.0, after_none inside.core.core inside.seats.items c.complete_first.new.seats.items inside.to_complete.items c.complete_first.new.nodes.items inside.complete.items c.in_default.ensures c.self.invariant.1)

pub returns-in_default : goal.returns-in_default
returns-in_default c =
    let inside = c.self.inside in
    let none = c.in_default.ensures in
    let new = c.complete_first.new.seats.items in
    complete_told c.args.fabric.now c.args.self.now Nothing _ c.requires (
      record {
        seats = subst (λ (node : NodeState). SeatsLooked node.seats new) c.self.view_is none.looked;
        after = ap (λ (node : NodeState). record node { seats = new }) c.self.view_is;
      },
      λ seg n whole.
          subst (λ (node : NodeState). HasNoneToComplete node.seats new seg n) c.self.view_is
          (none_of_all inside.core.core inside.seats.items new inside.to_complete.items c.complete_first.new.nodes.items inside.complete.items none c.self.invariant.1 seg n
          (subst (λ (node : NodeState). is_whole (loaded_at node.core seg) n ≡ true) (sym c.self.view_is) whole)),
    )

pub see_complete_at-self-inside-requires-clause-seats : goal.see_complete_at-self-inside-requires-clause-seats
see_complete_at-self-inside-requires-clause-seats c =
    let inside = c.self.inside in
    let new = c.complete_first.new.seats.items in
    let done : Completes c.args.self.now (record c.args.self.now { seats = new }) =
    completed_between inside.core.core inside.seats.items new inside.to_complete.items c.complete_first.new.nodes.items c.in-Some.seg inside.complete.items c.in-Some.ensures c.self.invariant.1
    new (no_looks new) c.args.self.now _ (ap (λ (node : NodeState). node.core) (sym c.self.view_is)) (ap (λ (node : NodeState). node.seats) (sym c.self.view_is)) refl in
    subst (λ (trees : List StatusTree). AreSeatsOf trees new) (sym c.trees-trees.ensures.trees) (complete_stays c.args.fabric.now c.args.self.now Did _ done c.requires).seats

pub see_complete_at-self-inside-requires-clause-segment : goal.see_complete_at-self-inside-requires-clause-segment
see_complete_at-self-inside-requires-clause-segment c =
    let inside = c.self.inside in
    let within = one_exists inside.core.core inside.seats.items c.complete_first.new.seats.items inside.to_complete.items c.complete_first.new.nodes.items c.in-Some.seg inside.complete.items c.in-Some.ensures c.self.invariant.1 in
    let recon : inside.core.core.recon ≡ c.args.fabric.now.recon = ap (λ (node : NodeState). node.core.recon) c.self.view_is ∙ c.requires.recon in
    omega (arith, within, c.index.ensures.place, ap (λ (r : ReconValue). length r.segments) recon, c.trees-trees.ensures.fabric.trees, ap length c.trees-trees.ensures.trees)

pub see_complete_at-self-inside-requires-clause-flag : goal.see_complete_at-self-inside-requires-clause-flag
see_complete_at-self-inside-requires-clause-flag c =
    let inside = c.self.inside in
    let within = one_exists inside.core.core inside.seats.items c.complete_first.new.seats.items inside.to_complete.items c.complete_first.new.nodes.items c.in-Some.seg inside.complete.items c.in-Some.ensures c.self.invariant.1 in
    omega (arith, within, c.index.ensures.place, c.self.invariant.1.flags)

pub invariant_of-self-2 : goal.invariant_of-self-2
invariant_of-self-2 c =
    let inside = c.self.inside in
    let new = c.complete_first.new.seats.items in
    let last = c.see_complete_at-self-inside.new.seats.items in (
      c.self.invariant.0,
      other_flags inside.core.core new last c.complete_first.new.nodes.items inside.complete.items c.see_complete_at-self-inside.new.complete.items c.see_complete_at-self-inside.ensures.flags
          (known_looked new last (seats_looked_at _ OnlyLooked new new last (λ v w looked. looked) (no_looks new) c.see_complete_at-self-inside.ensures.looked))
          c.see_complete_at-self-inside.ensures.seen
          (after_one inside.core.core inside.seats.items new inside.to_complete.items c.complete_first.new.nodes.items c.in-Some.seg inside.complete.items c.in-Some.ensures c.self.invariant.1),
    )

pub returns : goal.returns
returns c =
    let inside = c.self.inside in
    let new = c.complete_first.new.seats.items in
    let last = c.see_complete_at-self-inside.new.seats.items in
    complete_told c.args.fabric.now c.args.self.now Did _ c.requires
    (completed_between inside.core.core inside.seats.items new inside.to_complete.items c.complete_first.new.nodes.items c.in-Some.seg inside.complete.items c.in-Some.ensures c.self.invariant.1
    last (seats_looked_at _ OnlyLooked new new last (λ v w looked. looked) (no_looks new) c.see_complete_at-self-inside.ensures.looked) c.args.self.now _
    (ap (λ (node : NodeState). node.core) (sym c.self.view_is)) (ap (λ (node : NodeState). node.seats) (sym c.self.view_is)) (ap (λ (node : NodeState). record node { seats = last }) c.self.view_is))
