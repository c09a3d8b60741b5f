use Rattle.std.proofs.Common.{◌≡◌, ◌++◌, map, take}
use Rattle.sq_report.specs.Figures.{link_figures}
use Rattle.sq_report.proofs.figures.add_links.Given as goal

abbrev pub invariant-loop-link : goal.invariant-loop-link
invariant-loop-link l = l.links.items ≡ l.initial.links.items ++ map (link_figures l.g.stage l.g.stores) (take l.link-index l.g.links)
