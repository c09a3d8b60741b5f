use Rattle.std.proofs.Common.{◌≡◌, ◌<◌, ◌≤◌, ◌+◌, ◌-◌, length, [], ◌∷◌, inl, inr, refl, sym, ap, ◌∙◌, subst, arith}
use Rattle.std.specs.Prelude.{slice_range}
use Rattle.sq_text.specs.Pieces.{Rest, Failed, TooMany, next_line_number}
use Rattle.sq_text.specs.Coming.{LinesValue, EndsIn, IsLong, IsUndecided}
use Rattle.sq_text.proofs.Ranges.{empty_range, length_range}
use Rattle.sq_text.proofs.Comings.{at_end, too_many, line_came, rest_comes, failed_comes, long_line, long_unended, ends_seen}
use Rattle.sq_text.proofs.Buffers.{all_searched, none_held, line_held}
use Rattle.sq_text.proofs.reader.LineReader.next.Goals as goal

pub returns-in-Ended : goal.returns-in-Ended
returns-in-Ended g c =
    let s = c.self.inside in
    (subst (λ v. EndsIn v [] v) c.self.view_is (at_end _ c.in-Ended.is (empty_range s.buffer.items s.start s.end (omega (arith, c.if-self.true)))), refl)

pub returns-in-Failed : goal.returns-in-Failed
returns-in-Failed g c =
    let s = c.self.inside in
    let none = empty_range s.buffer.items s.start s.end (omega (arith, c.if-self.true)) in
    (subst (λ (v : LinesValue). EndsIn v (Failed (next_line_number v.lines_left) v.held ∷ []) v) c.self.view_is (failed_comes _ c.in-Failed.is (rw none refl) (inl none) (omega (arith, ap length none))), omega (arith, ap length none, ap (λ (v : LinesValue). length v.held) c.self.view_is), refl, sym (ap (λ (v : LinesValue). v.reading) c.self.view_is) ∙ c.in-Failed.is)

pub returns-then-self-eq0 : goal.returns-then-self-eq0
returns-then-self-eq0 g c =
    let s = c.self.inside in
    let some : 0 < length (slice_range s.buffer.items s.start s.end) = omega (arith, length_range s.buffer.items s.start s.end c.self.invariant.within, c.if-self.false, c.self.invariant.searched_after, c.self.invariant.searched_before) in
    (subst (λ v. EndsIn v (TooMany ∷ []) v) c.self.view_is (too_many _ c.if-self-eq0.true some), refl)

pub invariant_of-self : goal.invariant_of-self
invariant_of-self g c = all_searched _ _ _ _ _ c.self.inside.searched _ _ _ c.self.invariant (rw (← c.deref.ensures.value) (sym c.place_of.ensures ∙ c.in_default.is))

pub returns-then-self-most : goal.returns-then-self-most
returns-then-self-most g c =
    let held = none_held c.self.invariant (rw (← c.deref.ensures.value) (sym c.place_of.ensures ∙ c.in_default.is)) in
    (subst (λ v. IsLong c.args.most v) c.self.view_is (long_unended _ c.args.most (omega (arith, c.if-self-eq0.false)) held.unended (omega (arith, held.count, c.if-self-most.true))), c.self.view_is)

pub invariant_of-self-in-Open-reading : goal.invariant_of-self-in-Open-reading
invariant_of-self-in-Open-reading g c = all_searched _ _ _ _ _ c.self.inside.searched _ _ _ c.self.invariant (rw (← c.deref.ensures.value) (sym c.place_of.ensures ∙ c.in_default.is))

pub returns-in-Open-reading : goal.returns-in-Open-reading
returns-in-Open-reading g c =
    let held = none_held c.self.invariant (rw (← c.deref.ensures.value) (sym c.place_of.ensures ∙ c.in_default.is)) in
    (subst (λ v. IsUndecided c.args.most v) c.self.view_is (record { unended = held.unended; short = omega (arith, held.count, c.if-self-most.false); goes_on = c.in-Open-reading.is; some_line = inr (omega (arith, c.if-self-eq0.false)) }), c.self.view_is)

pub invariant_of-self-in-Failed-reading : goal.invariant_of-self-in-Failed-reading
invariant_of-self-in-Failed-reading g c = all_searched _ _ _ _ _ c.self.inside.searched _ _ _ c.self.invariant (rw (← c.deref.ensures.value) (sym c.place_of.ensures ∙ c.in_default.is))

pub returns-in-Failed-reading : goal.returns-in-Failed-reading
returns-in-Failed-reading g c =
    let held = none_held c.self.invariant (rw (← c.deref.ensures.value) (sym c.place_of.ensures ∙ c.in_default.is)) in
    (ends_seen (λ v. Failed (next_line_number v.lines_left) v.held ∷ []) _ _ _ c.self.view_is (failed_comes _ c.in-Failed-reading.is held.unended (inr (omega (arith, c.if-self-eq0.false))) (omega (arith, held.count, c.if-self-most.false, c.requires))), omega (arith, held.count, c.if-self-most.false, ap (λ (v : LinesValue). length v.held) c.self.view_is), c.self.view_is, sym (ap (λ (v : LinesValue). v.reading) c.self.view_is) ∙ c.in-Failed-reading.is)

pub returns-in-Ended-reading : goal.returns-in-Ended-reading
returns-in-Ended-reading g c =
    let s = c.self.inside in
    let held = none_held c.self.invariant (rw (← c.deref.ensures.value) (sym c.place_of.ensures ∙ c.in_default.is)) in
    let short : length (slice_range s.buffer.items s.start s.end) ≤ c.args.most = omega (arith, held.count, c.if-self-most.false) in (
      ends_seen (λ v. Rest (next_line_number v.lines_left) (slice_range s.buffer.items s.start s.end) ∷ []) _ _ _ c.self.view_is (rest_comes _ _ c.in-Ended-reading.is c.in-Ended-reading.is held.unended (omega (arith, c.if-self-eq0.false)) (omega (arith, held.count, c.if-self.false, c.self.invariant.searched_after, c.self.invariant.searched_before)) (omega (arith, short, c.requires))),
      ap (λ (v : LinesValue). v.lines_left) c.self.view_is,
      short,
    )

pub returns-then-line_end-self-gt-MAX_UNENDED : goal.returns-then-line_end-self-gt-MAX_UNENDED
returns-then-line_end-self-gt-MAX_UNENDED g c =
    let s = c.self.inside in
    let at = c.in-Some.at in
    let found = line_held c.self.invariant at (rw (← c.deref.ensures.value) (sym c.place_of.ensures ∙ c.in-Some.is)) in
    (subst (λ v. IsLong c.args.most v) c.self.view_is (long_line _ c.args.most (slice_range s.buffer.items s.start (s.searched + at)) (slice_range s.buffer.items (s.searched + at + 1) s.end) c.requires (omega (arith, c.if-self-eq0.false)) found.held found.unended (omega (arith, found.count, c.if-line_end-self-gt-MAX_UNENDED.true))), refl)

pub returns : goal.returns
returns g c =
    let s = c.self.inside in
    let at = c.in-Some.at in
    let found = line_held c.self.invariant at (rw (← c.deref.ensures.value) (sym c.place_of.ensures ∙ c.in-Some.is)) in
    let lines : c.args.self.now.lines_left ≡ s.lines_left - 1 + 1 = sym (ap (λ (v : LinesValue). v.lines_left) c.self.view_is) ∙ omega (arith, c.if-self-eq0.false) in
    let short : length (slice_range s.buffer.items s.start (s.searched + at)) ≤ 1048576 = omega (arith, found.count, c.if-line_end-self-gt-MAX_UNENDED.false) in (
      line_came c.args.self.now _ (ap (λ (v : LinesValue). v.reading) c.self.view_is) (ap (λ (v : LinesValue). v.known) c.self.view_is) lines (sym (ap (λ (v : LinesValue). v.held) c.self.view_is) ∙ found.held) found.unended short,
      lines,
      short,
    )
