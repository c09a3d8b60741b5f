use Rattle.std.proofs.Common.{rules}
use Rattle.sq_shared.proofs.Hands.{joins}
use Rattle.sq_shared.proofs.tree.StatusTree.join.Goals as goal

pub join_seat-requires : goal.join_seat-requires
join_seat-requires c = (search rules, search rules, search rules, search rules, joins _ _ _ _ (search rules) (search rules) (search rules))
