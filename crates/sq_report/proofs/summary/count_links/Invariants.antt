use Rattle.std.proofs.Common.{◌≡◌, map, take}
use Rattle.sq_report.specs.Counts.{link_count}
use Rattle.sq_report.proofs.summary.count_links.Given as goal

abbrev pub invariant-loop-link : goal.invariant-loop-link
invariant-loop-link l = l.counts.items ≡ map (link_count l.stores) (take l.link-index l.links.items)
