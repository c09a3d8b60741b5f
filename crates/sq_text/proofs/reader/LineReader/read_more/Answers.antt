use Rattle.std.proofs.Common.{◌≡◌, ◌+◌, ◌-◌, ◌≤◌, ◌++◌, length, refl, ap, ◌∙◌, subst, arith}
use Rattle.std.specs.Prelude.{slice_range}
use Rattle.std.specs.Io.KnownBytes.{Consumes, Keeps}
use Rattle.sq_text.specs.declared.reader.ReadState.{ReadState}
use Rattle.sq_text.specs.declared.reader.ReadState.TheVariants.{Open, Ended}
use Rattle.sq_text.specs.Coming.{LinesValue}
use Rattle.sq_text.proofs.Comings.{read_before, fail_before}
use Rattle.sq_text.proofs.Buffers.{read_on, read_behind}
use Rattle.sq_text.proofs.reader.LineReader.read_more.Goals as goal

not_both : {P : Type 0} {r : ReadState} → r ≡ Open → r ≡ Ended → P
not_both o e = absurd cc

pub invariant_of-self : goal.invariant_of-self
invariant_of-self g c =
    let s = c.self.inside in
    let filled : s.end - s.start + 65536 ≤ length c.read_behind.new.buffer.items = omega (arith, c.read_behind.ensures.len, c.read_behind.new.buffer.ok.0) in
    read_on s.buffer.items c.move_to_front.new.buffer.items c.read_behind.new.buffer.items _ _ _ _ s.start s.searched s.end _ _ _ _ _ c.self.invariant c.move_to_front.ensures.moved c.read_behind.ensures.before (omega arith) (omega arith) (omega (arith, filled))
    (λ e. c.in-Ok-eq0.ensures.ended c.in-Ok-eq0.field-0-test)

pub invariant_of-self-in-Ok : goal.invariant_of-self-in-Ok
invariant_of-self-in-Ok g c =
    let s = c.self.inside in
    let filled : s.end - s.start + 65536 ≤ length c.read_behind.new.buffer.items = omega (arith, c.read_behind.ensures.len, c.read_behind.new.buffer.ok.0) in
    read_on s.buffer.items c.move_to_front.new.buffer.items c.read_behind.new.buffer.items _ _ _ _ s.start s.searched s.end _ _ _ _ _ c.self.invariant c.move_to_front.ensures.moved c.read_behind.ensures.before (omega arith) (omega arith) (omega (arith, filled, c.in-Ok.ensures.within))
    (λ e. not_both (ap (λ (v : LinesValue). v.reading) c.self.view_is ∙ c.requires.goes_on) e)

pub invariant_of-self-in-Err : goal.invariant_of-self-in-Err
invariant_of-self-in-Err g c =
    let s = c.self.inside in
    let filled : s.end - s.start + 65536 ≤ length c.read_behind.new.buffer.items = omega (arith, c.read_behind.ensures.len, c.read_behind.new.buffer.ok.0) in
    read_on s.buffer.items c.move_to_front.new.buffer.items c.read_behind.new.buffer.items _ _ _ _ s.start s.searched s.end _ _ _ _ _ c.self.invariant c.move_to_front.ensures.moved c.read_behind.ensures.before (omega arith) (omega arith) (omega (arith, filled))
    (λ e. absurd cc)

pub returns-in-Ok-clause-comes : goal.returns-in-Ok-clause-comes
returns-in-Ok-clause-comes g c =
    let s = c.self.inside in
    let read = read_behind s.buffer.items c.move_to_front.new.buffer.items c.read_behind.new.buffer.items s.start s.end (s.end - s.start + c.in-Ok.count) (omega (arith, c.self.invariant.searched_after, c.self.invariant.searched_before)) (omega arith) c.move_to_front.ensures.moved c.read_behind.ensures.before in
    read_before c.args.self.now _ (slice_range c.read_behind.new.buffer.items (s.end - s.start) (s.end - s.start + c.in-Ok.count)) c.requires.goes_on (ap (λ (v : LinesValue). v.reading) c.self.view_is ∙ c.requires.goes_on) (ap (λ (v : LinesValue). v.lines_left) c.self.view_is)
    (read.held ∙ ap (λ (v : LinesValue). v.held ++ slice_range c.read_behind.new.buffer.items (s.end - s.start) (s.end - s.start + c.in-Ok.count)) c.self.view_is)
    (subst (λ (v : LinesValue). Consumes v.known (g.R.Read.remaining c.read_behind.new.reader) (slice_range c.read_behind.new.buffer.items (s.end - s.start) (s.end - s.start + c.in-Ok.count))) c.self.view_is c.in-Ok.ensures.took)

pub returns-in-Err-clause-comes : goal.returns-in-Err-clause-comes
returns-in-Err-clause-comes g c =
    let s = c.self.inside in
    let read = read_behind s.buffer.items c.move_to_front.new.buffer.items c.read_behind.new.buffer.items s.start s.end (s.end - s.start) (omega (arith, c.self.invariant.searched_after, c.self.invariant.searched_before)) (omega arith) c.move_to_front.ensures.moved c.read_behind.ensures.before in
    let same : slice_range c.read_behind.new.buffer.items 0 (s.end - s.start) ≡ slice_range s.buffer.items s.start s.end = read.front s.end (omega (arith, c.self.invariant.searched_after, c.self.invariant.searched_before)) (omega arith) in
    fail_before c.args.self.now _ c.requires.goes_on refl (ap (λ (v : LinesValue). v.lines_left) c.self.view_is) (same ∙ ap (λ (v : LinesValue). v.held) c.self.view_is)
    (subst (λ (v : LinesValue). Keeps v.known (g.R.Read.remaining c.read_behind.new.reader)) c.self.view_is c.in-Err.ensures.failed)
