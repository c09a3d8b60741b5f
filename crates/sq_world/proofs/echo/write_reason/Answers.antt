use Rattle.std.proofs.Common.{rules, subst}
use Rattle.std.specs.Prelude.{Some}
use Rattle.std.specs.Io.KnownBytes.{Appends}
use Rattle.sq_world.specs.Echo.{reason_line}
use Rattle.sq_world.proofs.echo.write_reason.Goals as goal

pub returns-in_ok-writeln-in-Some : goal.returns-in_ok-writeln-in-Some
returns-in_ok-writeln-in-Some g c =
    let before = g.W.Write.contents c.args.writer.now in
    let now = g.W.Write.contents c.writeln.new.self in
    let written : Appends before now (reason_line c.args.number (Some c.in-Some.entry.meaning.now)) = search rules in
    subst (λ meaning. Appends before now (reason_line c.args.number meaning)) c.in-Some.ensures.means written
