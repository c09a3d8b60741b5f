use Rattle.std.proofs.Common.{List, subst}
use Rattle.std.specs.List.Sorted.{IsPermutation}
use Rattle.std.proofs.lemmas.List.Filters.{dedup_is}
use Rattle.sq_moves.specs.declared.recon.Link.{Link}
use Rattle.sq_moves.proofs.Links.{same_link, are_links}
use Rattle.sq_moves.proofs.cut.links.Goals as goal

pub returns : goal.returns
returns c =
    let sorted = c.sort_unstable.new.self.items in
    let moved = subst (λ (ls : List Link). IsPermutation ls sorted) c.in_ok-links.ensures c.sort_unstable.ensures.permutation in
    are_links c.args.ranges.now sorted c.dedup.new.self.items moved c.sort_unstable.ensures.sorted (dedup_is same_link sorted c.dedup.new.self.items c.dedup.ensures.filtered)
