-- No ranges are in key order, are cut into no segments and have no links.
use Rattle.std.proofs.Common.{refl, arith}
use Rattle.sq_moves.specs.ReconValue.{IsRecon, no_moves}
use Rattle.sq_moves.proofs.Links.{no_links}
use Rattle.sq_moves.proofs.recon.Recon.nothing.Goals as goal

none_moves : IsRecon no_moves
none_moves = record { leaf = refl; rising = refl; cut = refl; few = omega arith }

pub invariant_of-result : goal.invariant_of-result
invariant_of-result c = rw (c.new.ensures.items, c.new-2.ensures.items, c.new-3.ensures.items, c.new-4.ensures.items) (record { recon = none_moves; links = no_links; places = refl })
