use Rattle.std.proofs.Common.{◌≡◌, Bool, true, codes, refl, rules, subst, sym}
use Rattle.std.specs.Prelude.{OnOk}
use Rattle.std.specs.Io.KnownBytes.{Appends}
use Rattle.sq_explain.specs.Meanings.{meaning_of}
use Rattle.sq_text.proofs.Appending.{three}
use Rattle.sq_world.specs.Echo.{reason_line, refused_text}
use Rattle.sq_world.proofs.echo.write_refusal.Goals as goal

pub returns : goal.returns
returns g c =
    let line = c.args.line.now in
    let number = c.args.number in
    let echoes : c.args.echoes ≡ true = search rules in
    let written = three c.write_reason.result _ _ _ _ line (codes " -> ") (reason_line number (meaning_of number)) (refused_text true line number) c.in_ok-write_all.ensures.bytes c.in_ok-write_all-2.ensures.bytes c.write_reason.ensures refl in
    subst (λ (echoes : Bool). OnOk c.write_reason.result (Appends (g.W.Write.contents c.args.writer.now) (g.W.Write.contents c.write_reason.new.writer) (refused_text echoes line number))) (sym echoes) written
