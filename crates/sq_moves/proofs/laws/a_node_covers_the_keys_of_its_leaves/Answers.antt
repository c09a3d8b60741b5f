use Rattle.sq_moves.proofs.Extents.{leaf_below, covers_from_above, above_from_covers}
use Rattle.sq_moves.proofs.Segments.{segment_stands, width_bounds}
use Rattle.sq_moves.proofs.laws.a_node_covers_the_keys_of_its_leaves.Goals as goal

pub returns-clause-leaf : goal.returns-clause-leaf
returns-clause-leaf c = λ recon i key segment lies.
    leaf_below recon.width segment (width_bounds recon.width lies.is.leaf).0 key lies.holder.held (segment_stands recon lies.is i segment lies.holder.at).is.short

pub returns-clause-covers : goal.returns-clause-covers
returns-clause-covers c = λ recon i key n segment lies.
    let some = (width_bounds recon.width lies.is.leaf).0 in
    (above_from_covers recon.width segment some key lies.holder.held n, covers_from_above recon.width segment some key lies.holder.held n)
