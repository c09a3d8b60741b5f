use Rattle.std.proofs.Common.{string_bytes}
use Rattle.sq_picture.specs.Json.{TellsAsJson}
use Rattle.sq_picture.proofs.Tellings.{told_as_json, not_told}
use Rattle.sq_picture.proofs.listing.AsJsonTelling.tell.Goals as goal

pub returns-in_ok-writeln-in-Ok : goal.returns-in_ok-writeln-in-Ok
returns-in_ok-writeln-in-Ok g c = told_as_json c.args.recon.now (string_bytes c.in-Ok.text) _ _ c.in-Ok.ensures.compact c.in-Ok.ensures.reads_back c.in_ok-writeln-in-Ok.ensures.bytes

pub returns-in-Err : goal.returns-in-Err
returns-in-Err g c = not_told TellsAsJson c.args.recon.now (g.W.Write.contents c.args.writer.now)
