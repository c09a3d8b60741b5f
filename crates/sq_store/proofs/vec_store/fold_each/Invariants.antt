use Rattle.std.proofs.Common.{◌≡◌}
use Rattle.sq_store.proofs.Folds.{folded_to}
use Rattle.sq_store.proofs.vec_store.fold_each.Given as goal

-- the families so far are folded
abbrev pub invariant-loop-family : goal.invariant-loop-family
invariant-loop-family l = l.families ≡ folded_to l.family-index l.initial.families
