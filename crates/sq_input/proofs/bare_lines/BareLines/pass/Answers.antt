use Rattle.std.proofs.Common.{◌∙◌, sym}
use Rattle.sq_input.proofs.Bare.{ended_piece, open_piece}
use Rattle.sq_input.proofs.bare_lines.BareLines.pass.Goals as goal

pub returns-in-Some-clause-bare : goal.returns-in-Some-clause-bare
returns-in-Some-clause-bare g c =
    let self = c.args.self.now in
    (ended_piece self.place self.line c.args.bytes.now c.in-Some.place c.requires.entered c.in-Some.ensures.0 c.in-Some.ensures.1).bare

pub returns-in-Some-clause-reader : goal.returns-in-Some-clause-reader
returns-in-Some-clause-reader g c =
    let self = c.args.self.now in
    let piece = ended_piece self.place self.line c.args.bytes.now c.in-Some.place c.requires.entered c.in-Some.ensures.0 c.in-Some.ensures.1 in
    λ i. record self { place = sym piece.after_is i; line = (c.saturating_add-self.ensures ∙ sym piece.line_is) i }

pub returns-in-None-clause-bare : goal.returns-in-None-clause-bare
returns-in-None-clause-bare g c =
    let self = c.args.self.now in
    (open_piece self.place self.line c.args.bytes.now c.requires.entered c.in-None.ensures).bare

pub returns-in-None-clause-reader : goal.returns-in-None-clause-reader
returns-in-None-clause-reader g c =
    let self = c.args.self.now in
    let piece = open_piece self.place self.line c.args.bytes.now c.requires.entered c.in-None.ensures in
    λ i. record self { place = sym piece.after_is i; line = sym piece.line_is i }
