use Rattle.std.proofs.Common.{◌≡◌, take}
use Rattle.std.specs.List.{flat_map}
use Rattle.sq_store.specs.InOrder.{families_in}
use Rattle.sq_results.specs.RowLines.{lent_values}
use Rattle.sq_results.proofs.standing.write_stored_rows.Given as goal

abbrev pub invariant-loop-store : goal.invariant-loop-store
invariant-loop-store g l = lent_values l.families.items ≡ flat_map families_in (take l.store-index l.stores)
