use Rattle.std.proofs.Common.{rules}
use Rattle.sq_shared.proofs.Hands.{shares}
use Rattle.sq_shared.proofs.tree.StatusTree.share.Goals as goal

pub split_seat-given-requires : goal.split_seat-given-requires
split_seat-given-requires c = (search rules, search rules, shares _ _ (search rules) (search rules))
