use Rattle.std.proofs.Common.{◌≡◌, drop}
use Rattle.sq_store.specs.StoreValue.{roots_differ}
use Rattle.sq_store.proofs.run.differ_in_pairs.Given as goal

-- the families so far have each their own root key
abbrev pub invariant-loop-at : goal.invariant-loop-at
invariant-loop-at l = roots_differ l.families ≡ roots_differ (drop l.at l.families)
