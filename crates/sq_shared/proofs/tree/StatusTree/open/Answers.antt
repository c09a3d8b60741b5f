use Rattle.std.proofs.Common.{replicate, refl}
use Rattle.sq_moves.specs.declared.status.Status.TheVariants.{Free}
use Rattle.sq_shared.proofs.Ends.{opens}
use Rattle.sq_shared.proofs.tree.StatusTree.open.Goals as goal

pub of_words-requires : goal.of_words-requires
of_words-requires c = (replicate 63 Free, refl, opens)
