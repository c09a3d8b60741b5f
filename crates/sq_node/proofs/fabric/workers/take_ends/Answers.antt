use Rattle.std.proofs.Common.{◌≡◌, ℕ, length, subst}
use Rattle.std.specs.Prelude.{◌==◌, MatchOption, None, slice_set}
use Rattle.std.proofs.lemmas.Bool.{eq-eqb}
use Rattle.sq_node.specs.Ends.{link_at, link_between, end_at}
use Rattle.sq_node.specs.Opened.{new_end}
use Rattle.sq_node.proofs.Taken.{takes_one, found_link}
use Rattle.sq_node.proofs.fabric.workers.take_ends.Goals as goal

pub loop-number-preserved : goal.loop-number-preserved
loop-number-preserved g c =
    let near = g.S.Side.near in
    let far = g.S.Side.far in
    let links = c.args.links.now in
    let part = c.args.part in
    let number = c.loop-number.number in
    let ends = c.loop-number.ends in
    let told = subst (λ (k : ℕ). MatchOption (link_between near far links part k) ((c.take_end-end.result ≡ None) × (c.take_end-end.new.ends ≡ ends)) (λ at. (c.take_end-end.result ≡ end_at ends at) × (c.take_end-end.new.ends ≡ slice_set ends at None))) c.new.ensures c.take_end-end.ensures in
    takes_one (new_end links) (length links) (λ i. near (link_at links i) == part) (λ i. far (link_at links i)) (link_between near far links part) c.args.ends.now number ends c.loop-number.taken.items c.loop-number.invariant
    (λ at is. let found = found_link near far links part number at is in (found.0, eq-eqb (near (link_at links at)) part found.1, found.2))
    c.take_end-end.result c.take_end-end.new.ends _ told c.in_ok-push.ensures.items
