use Rattle.std.proofs.Common.{◌≡◌, ◌<◌, length, arith, sym, ◌∙◌, ap}
use Rattle.std.specs.Prelude.{nat_eq}
use Rattle.std.specs.List.{starts_with}
use Rattle.sq_text.specs.Coming.{LinesValue}
use Rattle.sq_text.proofs.Fronts.{no_line, enough_begins, all_begins, otherwise, undecided}
use Rattle.sq_text.proofs.reader.LineReader.begins.Goals as goal

pub returns-then-self-eq0-clause-begins : goal.returns-then-self-eq0-clause-begins
returns-then-self-eq0-clause-begins g c = λ ps can. no_line c.args.self.now c.args.front.now ps c.requires.some (sym (ap (λ (v : LinesValue). v.lines_left) c.self.view_is) ∙ c.if-self-eq0.true) can

pub returns-then-held-front-clause-begins : goal.returns-then-held-front-clause-begins
returns-then-held-front-clause-begins g c = λ ps can.
    let v = c.args.self.now in
    let front = c.args.front.now in
    let lines : 0 < v.lines_left = omega (arith, ap (λ (v : LinesValue). v.lines_left) c.self.view_is, c.if-self-eq0.false) in
    let is : c.starts_with.result ≡ starts_with nat_eq v.held front = rw (← c.held-held.ensures) c.starts_with.ensures.value in
    enough_begins v front ps c.requires.some lines c.requires.unended (omega (arith, c.if-held-front.true, ap length c.held-held.ensures)) can ∙ sym is

pub returns-in-Open-clause-undecided : goal.returns-in-Open-clause-undecided
returns-in-Open-clause-undecided g c =
    let v = c.args.self.now in
    let front = c.args.front.now in
    let lines : 0 < v.lines_left = omega (arith, ap (λ (v : LinesValue). v.lines_left) c.self.view_is, c.if-self-eq0.false) in
    undecided v front lines c.requires.unended (omega (arith, c.if-held-front.false, ap length c.held-held.ensures)) (sym (ap (λ (v : LinesValue). v.reading) c.self.view_is) ∙ c.in-Open.is)
    (rw (← c.held-held.ensures) (sym c.if-starts_with.ensures.value))

pub returns-in-Open-2-clause-begins : goal.returns-in-Open-2-clause-begins
returns-in-Open-2-clause-begins g c = λ ps can.
    let v = c.args.self.now in
    let front = c.args.front.now in
    let lines : 0 < v.lines_left = omega (arith, ap (λ (v : LinesValue). v.lines_left) c.self.view_is, c.if-self-eq0.false) in
    otherwise v front ps c.requires.some lines c.requires.unended (omega (arith, c.if-held-front.false, ap length c.held-held.ensures))
    (rw (← c.held-held.ensures) (sym c.if-starts_with.ensures.value)) can

pub returns-in_default : goal.returns-in_default
returns-in_default g c =
    let v = c.args.self.now in
    let front = c.args.front.now in
    let lines : 0 < v.lines_left = omega (arith, ap (λ (v : LinesValue). v.lines_left) c.self.view_is, c.if-self-eq0.false) in
    let is : c.starts_with-in_default.result ≡ starts_with nat_eq v.held front = rw (← c.held-held.ensures) c.starts_with-in_default.ensures.value in
    record {
      begins = λ ps can. all_begins v front ps c.requires.some lines c.requires.unended (λ e. c.in_default.not-Open (ap (λ (v : LinesValue). v.reading) c.self.view_is ∙ e)) can ∙ sym is;
      undecided = tt;
    }
