use Rattle.std.proofs.Common.{subst}
use Rattle.sq_world.specs.declared.telling.Told.{Told}
use Rattle.sq_world.specs.Listing.{IsTold}
use Rattle.sq_world.proofs.Listings.{not_told}
use Rattle.sq_world.proofs.listing.tell.Goals as goal

pub returns-in-NoMemory : goal.returns-in-NoMemory
returns-in-NoMemory g c =
    let nothing = subst (λ (told : Told). IsTold (g.T.Telling.tells c.args.telling.now) c.args.recon.now (g.W.Write.contents c.args.writer.now) (g.W.Write.contents c.tell.new.writer) told) c.in-NoMemory.is c.in_ok-tell.ensures in
    not_told (g.T.Telling.tells c.args.telling.now) c.end_by.result c.args.recon.now _ _ _ _ c.at_no_line.ensures nothing c.end_by.ensures
