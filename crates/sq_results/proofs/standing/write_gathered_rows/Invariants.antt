use Rattle.std.proofs.Common.{◌≡◌, ◌++◌, take}
use Rattle.std.specs.List.{flat_map}
use Rattle.sq_store.specs.InOrder.{families_in}
use Rattle.sq_node_model.specs.Gathered.{GatheredLink}
use Rattle.sq_results.specs.RowLines.{lent_values}
use Rattle.sq_results.specs.Standing.{carried}
use Rattle.sq_results.proofs.standing.write_gathered_rows.Given as goal

abbrev pub invariant-loop-store : goal.invariant-loop-store
invariant-loop-store g l = lent_values l.families.items ≡ flat_map families_in (take l.store-index l.store-items)

abbrev pub invariant-loop-link : goal.invariant-loop-link
invariant-loop-link g l =
    lent_values l.families.items ≡ flat_map families_in l.g.stores ++ flat_map (λ (link : GatheredLink). carried link.under_way) (take l.link-index l.link-items)
