use Rattle.sq_world.proofs.Listings.{listed, not_listed}
use Rattle.sq_world.proofs.listing.list_moves.Goals as goal

pub returns-in-Ok : goal.returns-in-Ok
returns-in-Ok g c = listed (g.T.Telling.tells c.args.telling.now) c.tell.result _ c.in-Ok.opening _ _ _ _ _ c.largest.ensures c.recon.ensures.recon c.in-Ok.ensures.plans c.tell.ensures

pub returns-in-Err : goal.returns-in-Err
returns-in-Err g c = not_listed (g.T.Telling.tells c.args.telling.now) c.end_by.result _ _ _ _ _ _ c.largest.ensures c.in-Err.ensures.plans c.end_by.ensures
