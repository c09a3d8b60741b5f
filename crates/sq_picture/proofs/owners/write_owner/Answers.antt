use Rattle.std.proofs.Common.{ap, ◌∙◌}
use Rattle.sq_moves.specs.ReconValue.{ReconValue}
use Rattle.sq_picture.specs.Owners.{told_leaf}
use Rattle.sq_picture.proofs.OwnerLines.{owner_written}
use Rattle.sq_picture.proofs.owners.write_owner.Goals as goal

pub returns : goal.returns
returns g c =
    owner_written c.writeln.result c.args.tells_leaf c.args.opening.now c.args.root c.recon.result.now c.told_leaf.result _ _ _ _ _ c.recon.ensures.recon
    (c.told_leaf.ensures ∙ ap (λ (recon : ReconValue). told_leaf c.args.tells_leaf recon c.args.root) c.recon-2.ensures.recon)
    c.in_ok-write_owners_of.ensures c.in_ok-write_range_with.ensures c.in_ok-write_leaf.ensures c.writeln.ensures.bytes
