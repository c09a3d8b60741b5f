use Rattle.std.proofs.Common.{ℕ, ◌<◌, Bool, List, length, refl, ap, ◌∙◌, subst, arith}
use Rattle.std.specs.Prelude.{remove, slice_set, MatchBool}
use Rattle.std.proofs.lemmas.List.{length-map}
use Rattle.std.proofs.lemmas.Option.{slice_get_within}
use Rattle.sq_model.proofs.Lists.{Contains-slice_get}
use Rattle.sq_shared.specs.declared.view.View.{View}
use Rattle.sq_shared.specs.Seat.{SeatValue}
use Rattle.sq_shared.proofs.Stepped.{steps_at, seats_stay}
use Rattle.sq_node.specs.Looks.{LooksOnly, LooksAndCompletes}
use Rattle.sq_node.proofs.Looked.{stands_at, of_its_tree, same_again, not_partial, completed_or_not, seats_looked_at, more_none}
use Rattle.sq_node.proofs.node.trees.complete_first.Goals as goal

pub bounds-trees-index : goal.bounds-trees-index
bounds-trees-index c =
    let pair = c.index.result.now in
    let nodes = c.args.nodes.now.items in
    let there = stands_at nodes c.loop-at.nodes.items c.loop-at.at pair c.loop-at.invariant.same (omega (arith, c.args.nodes.now.ok.0)) c.index.ensures in
    let exists = c.requires.nodes pair.0 pair.1 (Contains-slice_get nodes c.loop-at.at pair there) in
    omega (arith, exists, c.index-in-loop-at.ensures.place)

pub index_mut-seat-requires : goal.index_mut-seat-requires
index_mut-seat-requires c =
    let pair = c.index.result.now in
    let nodes = c.args.nodes.now.items in
    let there = stands_at nodes c.loop-at.nodes.items c.loop-at.at pair c.loop-at.invariant.same (omega (arith, c.args.nodes.now.ok.0)) c.index.ensures in
    let exists = c.requires.nodes pair.0 pair.1 (Contains-slice_get nodes c.loop-at.at pair there) in
    let seats = c.loop-at.seats.items in
    omega (arith, exists, c.index-in-loop-at-2.ensures.place, length-map seats (λ (seat : SeatValue). seat.tree), ap length c.loop-at.invariant.of, c.loop-at.seats.ok.0)

pub look-requires : goal.look-requires
look-requires c =
    let pair = c.index.result.now in
    let nodes = c.args.nodes.now.items in
    let there = stands_at nodes c.loop-at.nodes.items c.loop-at.at pair c.loop-at.invariant.same (omega (arith, c.args.nodes.now.ok.0)) c.index.ensures in
    let exists = c.requires.nodes pair.0 pair.1 (Contains-slice_get nodes c.loop-at.at pair there) in
    record {
      tree = of_its_tree c.args.trees.now c.loop-at.seats.items pair.0 c.index-in-loop-at.result c.index-in-loop-at-2.result c.index-trees-index.result c.index_mut-seat.result.now
          c.loop-at.invariant.of exists c.index-in-loop-at.ensures.place c.index-in-loop-at-2.ensures.place c.index-trees-index.is c.index_mut-seat.ensures.value;
    }

pub complete-requires : goal.complete-requires
complete-requires c =
    let pair = c.index.result.now in
    let nodes = c.args.nodes.now.items in
    let there = stands_at nodes c.loop-at.nodes.items c.loop-at.at pair c.loop-at.invariant.same (omega (arith, c.args.nodes.now.ok.0)) c.index.ensures in
    let exists = c.requires.nodes pair.0 pair.1 (Contains-slice_get nodes c.loop-at.at pair there) in
    record {
      tree = c.look.ensures.seat.tree
          ∙ of_its_tree c.args.trees.now c.loop-at.seats.items pair.0 c.index-in-loop-at.result c.index-in-loop-at-2.result c.index-trees-index.result c.index_mut-seat.result.now
          c.loop-at.invariant.of exists c.index-in-loop-at.ensures.place c.index-in-loop-at-2.ensures.place c.index-trees-index.is c.index_mut-seat.ensures.value;
    }

pub loop-at-preserved-in_default : goal.loop-at-preserved-in_default
loop-at-preserved-in_default c =
    let pair = c.index.result.now in
    let nodes = c.args.nodes.now.items in
    let there = stands_at nodes c.loop-at.nodes.items c.loop-at.at pair c.loop-at.invariant.same (omega (arith, c.args.nodes.now.ok.0)) c.index.ensures in
    let exists = c.requires.nodes pair.0 pair.1 (Contains-slice_get nodes c.loop-at.at pair there) in
    let old = c.args.seats.now.items in
    let cur = c.loop-at.seats.items in
    let first = c.index_mut-seat.result.now in
    let new = slice_set cur c.index-in-loop-at-2.result c.look.new.seat in
    let steps : View → View → Type 0 = λ v w. LooksOnly v pair.1 w in
    let step = steps_at c.args.trees.now cur pair.0 c.index-in-loop-at-2.result steps first c.look.new.seat
    c.loop-at.invariant.of exists c.index-in-loop-at-2.ensures.place c.index_mut-seat.ensures.value c.look.ensures.seat (not_partial first.view pair.1 c.look.result c.look.new.seat.view c.look.ensures.found c.in_default.not-Partial) in
    record {
      of = seats_stay c.args.trees.now pair.0 steps cur new step c.loop-at.invariant.of;
      same = c.loop-at.invariant.same;
      looked = seats_looked_at pair.0 steps old cur new (λ v w told. told.0) c.loop-at.invariant.looked step;
      none = more_none nodes c.loop-at.at pair old cur new there c.loop-at.invariant.looked step c.loop-at.invariant.none;
    }

pub loop-at-preserved : goal.loop-at-preserved
loop-at-preserved c =
    let pair = c.index.result.now in
    let nodes = c.args.nodes.now.items in
    let there = stands_at nodes c.loop-at.nodes.items c.loop-at.at pair c.loop-at.invariant.same (omega (arith, c.args.nodes.now.ok.0)) c.index.ensures in
    let exists = c.requires.nodes pair.0 pair.1 (Contains-slice_get nodes c.loop-at.at pair there) in
    let old = c.args.seats.now.items in
    let cur = c.loop-at.seats.items in
    let first = c.index_mut-seat.result.now in
    let new = slice_set cur c.index-in-loop-at-2.result c.complete.new.seat in
    let steps : View → View → Type 0 = λ v w. LooksOnly v pair.1 w in
    let told = completed_or_not first.view c.look.new.seat.view c.complete.new.seat.view pair.1 c.in-Partial.pull c.complete.result c.is_ok.result c.is_ok.ensures.value c.in-Partial.ensures.found c.complete.ensures.complete in
    let missed = subst (λ (b : Bool). MatchBool b (LooksAndCompletes first.view pair.1 c.complete.new.seat.view) (LooksOnly first.view pair.1 c.complete.new.seat.view)) c.if-is_ok.false told in
    let step = steps_at c.args.trees.now cur pair.0 c.index-in-loop-at-2.result steps first c.complete.new.seat
    c.loop-at.invariant.of exists c.index-in-loop-at-2.ensures.place c.index_mut-seat.ensures.value (same_again first c.look.new.seat c.complete.new.seat c.look.ensures.seat c.complete.ensures.seat) missed in
    record {
      of = seats_stay c.args.trees.now pair.0 steps cur new step c.loop-at.invariant.of;
      same = c.loop-at.invariant.same;
      looked = seats_looked_at pair.0 steps old cur new (λ v w told. told.0) c.loop-at.invariant.looked step;
      none = more_none nodes c.loop-at.at pair old cur new there c.loop-at.invariant.looked step c.loop-at.invariant.none;
    }

pub returns-then-is_ok : goal.returns-then-is_ok
returns-then-is_ok c =
    let pair = c.index.result.now in
    let nodes = c.args.nodes.now.items in
    let there = stands_at nodes c.loop-at.nodes.items c.loop-at.at pair c.loop-at.invariant.same (omega (arith, c.args.nodes.now.ok.0)) c.index.ensures in
    let exists = c.requires.nodes pair.0 pair.1 (Contains-slice_get nodes c.loop-at.at pair there) in
    let cur = c.loop-at.seats.items in
    let first = c.index_mut-seat.result.now in
    let steps : View → View → Type 0 = λ v w. LooksAndCompletes v pair.1 w in
    let told = completed_or_not first.view c.look.new.seat.view c.complete.new.seat.view pair.1 c.in-Partial.pull c.complete.result c.is_ok.result c.is_ok.ensures.value c.in-Partial.ensures.found c.complete.ensures.complete in
    let done = subst (λ (b : Bool). MatchBool b (LooksAndCompletes first.view pair.1 c.complete.new.seat.view) (LooksOnly first.view pair.1 c.complete.new.seat.view)) c.if-is_ok.true told in
    let step = steps_at c.args.trees.now cur pair.0 c.index-in-loop-at-2.result steps first c.complete.new.seat
    c.loop-at.invariant.of exists c.index-in-loop-at-2.ensures.place c.index_mut-seat.ensures.value (same_again first c.look.new.seat c.complete.new.seat c.look.ensures.seat c.complete.ensures.seat) done in
    record {
      place = c.loop-at.at;
      node = pair.1;
      there = there;
      between = cur;
      looked = c.loop-at.invariant.looked;
      completed = step;
      rest = c.remove.ensures.items ∙ ap (λ (xs : List (ℕ × ℕ)). remove xs c.loop-at.at) c.loop-at.invariant.same;
    }

pub returns : goal.returns
returns c =
    let nodes = c.args.nodes.now.items in
    record {
      looked = c.loop-at.invariant.looked;
      none = λ place seg n there.
          let within : place < length nodes = slice_get_within nodes place (seg, n) there in
          let below : place < c.loop-at.at = omega (arith, c.args.nodes.now.ok.0) in
          c.loop-at.invariant.none place seg n below there;
      rest = c.loop-at.invariant.same;
    }
