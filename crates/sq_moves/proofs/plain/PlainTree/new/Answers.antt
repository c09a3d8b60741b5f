use Rattle.std.proofs.Common.{refl, replicate}
use Rattle.sq_moves.specs.declared.status.Status.TheVariants.{Free}
use Rattle.sq_moves.proofs.Placed.{status_at-free}
use Rattle.sq_moves.proofs.Grown.{grown-free}
use Rattle.sq_moves.proofs.plain.PlainTree.new.Goals as goal

pub invariant_of-result : goal.invariant_of-result
invariant_of-result c = grown-free _ (λ n. status_at-free (replicate 63 Free) n refl)

pub returns-clause-free : goal.returns-clause-free
returns-clause-free c = λ n. status_at-free (replicate 63 Free) n refl
