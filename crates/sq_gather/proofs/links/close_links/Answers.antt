use Rattle.std.proofs.Common.{◌≡◌, ◌+◌, ◌≤◌, [], ◌∷◌, ◌++◌, List, length, sym, ap, ◌∙◌, subst, append_assoc, append-nil, length-append, arith, rules}
use Rattle.std.specs.Vec.Iter.{into_iter_items}
use Rattle.sq_shared.specs.Values.{LinkValue}
use Rattle.sq_node_model.specs.Gathered.{GatheredLink}
use Rattle.sq_gather.specs.LinkEnds.{LinkEndsValue}
use Rattle.sq_gather.specs.Links.{HaveBothEnds, AreClosed}
use Rattle.sq_gather.proofs.Lists.{empty}
use Rattle.sq_gather.proofs.Linked.{Closes, none_closed, closes_more, next_ends, all_closed}
use Rattle.sq_gather.proofs.links.close_links.Goals as goal

pub loop-link-init : goal.loop-link-init
loop-link-init g c = record {
  closed = subst (λ (room : List GatheredLink). Closes [] (into_iter_items c.into_iter-left.result) (into_iter_items c.into_iter-left.result) room) (sym c.requires.empty) (none_closed (into_iter_items c.into_iter-left.result));
  links = search rules;
  few = search rules;
  ends = search rules;
  room = search rules;
}

pub unreachable-requires : goal.unreachable-requires
unreachable-requires g c =
    let at = c.loop-link in
    let links = c.in-Some.ensures.steps.0 in
    let none : length (into_iter_items at.left) ≡ 0 = search rules in
    let closed = at.invariant.closed in
    let all = at.invariant.links ∙ c.into_iter-link-iterator.ensures.into_iter_gives.0 in
    omega (
      arith,
      none,
      closed.pairs,
      c.requires.ends.count,
      ap length c.into_iter-left.ensures.rest,
      ap length closed.rest,
      length-append closed.used (into_iter_items at.left),
      ap length links,
      ap length all,
      length-append at.yielded (into_iter_items at.link-iterator),
    )

pub close_link-requires : goal.close_link-requires
close_link-requires g c =
    let at = c.loop-link in
    next_ends at.yielded c.args.links.items (into_iter_items c.next.new.self) (into_iter_items c.into_iter-left.result) (into_iter_items at.left) (into_iter_items c.next-in-loop-link.new.self) at.room.items c.in-Some.link
    c.in-Some-next.ends at.invariant.closed c.in-Some-next.ensures.items
    (sym (ap (λ (rest : List LinkValue). at.yielded ++ rest) (sym c.in-Some.ensures.steps.0) ∙ at.invariant.links ∙ c.into_iter-link-iterator.ensures.into_iter_gives.0))
    (subst (λ (ends : List LinkEndsValue). HaveBothEnds c.args.links.items ends) (sym c.into_iter-left.ensures.rest) c.requires.ends)

pub push_reserved-requires : goal.push_reserved-requires
push_reserved-requires g c =
    let at = c.loop-link in
    let count : length at.room.items ≡ length at.yielded = at.invariant.closed.are.count in
    let rest = ap length c.in-Some.ensures.steps.0 in
    let all = ap length at.invariant.links in
    let room = at.invariant.room in
    let within : length at.room.items + 1 ≤ length (into_iter_items c.into_iter-link-iterator.result) = omega (arith, length-append at.yielded (into_iter_items at.link-iterator)) in
    search rules

pub loop-link-preserved : goal.loop-link-preserved
loop-link-preserved g c =
    let at = c.loop-link in
    record {
      closed = subst (λ (closed : List GatheredLink). Closes (at.yielded ++ c.in-Some.link ∷ []) (into_iter_items c.into_iter-left.result) (into_iter_items c.next-in-loop-link.new.self) closed) (sym c.push_reserved.ensures.items)
          (closes_more at.yielded (into_iter_items c.into_iter-left.result) (into_iter_items at.left) (into_iter_items c.next-in-loop-link.new.self) at.room.items c.in-Some.link c.in-Some-next.ends c.close_link.result at.invariant.closed
          c.in-Some-next.ensures.items c.close_link.ensures);
      links = append_assoc at.yielded (c.in-Some.link ∷ []) _ ∙ rw (← c.in-Some.ensures.steps.0) at.invariant.links;
      few = let was = at.invariant.few in
          let gone = c.in-Some.ensures.steps.1 in
          let short = ap length c.in-Some.ensures.steps.0 in
          omega arith;
      ends = let was = at.invariant.ends in
          let gone = c.in-Some-next.ensures.len in
          let short = ap length c.in-Some-next.ensures.items in
          omega arith;
      room = search rules;
    }

pub returns : goal.returns
returns g c =
    let at = c.loop-link in
    let none = c.in-None.ensures.steps in
    let gone : into_iter_items at.link-iterator ≡ [] = empty (into_iter_items at.link-iterator) (sym at.invariant.few ∙ none.0) in
    let all : c.args.links.items ≡ at.yielded = sym (sym (append-nil at.yielded) ∙ rw gone at at.invariant.links ∙ c.into_iter-link-iterator.ensures.into_iter_gives.0) in
    subst (λ (ends : List LinkEndsValue). AreClosed c.args.links.items ends at.room.items) c.into_iter-left.ensures.rest
    (all_closed at.yielded c.args.links.items (into_iter_items c.into_iter-left.result) (into_iter_items at.left) at.room.items at.invariant.closed all (ap length c.into_iter-left.ensures.rest ∙ c.requires.ends.count))
