use Rattle.std.proofs.Common.{◌≡◌, ◌∙◌, ◌+◌, ◌-◌, if◌then◌else◌, ℕ, List, [], length, get_or, take, drop, length-drop, sym, ap, subst, arith}
use Rattle.std.proofs.lemmas.List.{take_rest}
use Rattle.sq_input.specs.declared.bare_lines.BareLines.{BareLines}
use Rattle.sq_input.specs.declared.bare_lines.BarePlace.{BarePlace}
use Rattle.sq_input.specs.Bare.{bare_bytes, is_kept, place_at, place_after_all, line_after}
use Rattle.sq_input.proofs.Bare.{IsAt, HasPiece, place_further, line_further, skipped, is_there, moved}
use Rattle.sq_input.proofs.bare_lines.BareLines.keep.Goals as goal
use Rattle.sq_input.proofs.bare_lines.BareLines.keep.Goals.{then-is_kept, then-kept-at, else-kept-at, else-is_kept}

pub loop-at-preserved : goal.loop-at-preserved
loop-at-preserved g c =
    let first = c.args.self.now in
    let old = c.args.bytes.now in
    let now = c.loop-at.bytes in
    let at = c.loop-at.at in
    let count = c.pass-count.result in
    let entered = c.enters.new.self in
    let was = c.loop-at.invariant.kept in
    let next : take count (take (length now - at) (drop at now)) ≡ take count (drop at now) = ap (take count) (take_rest now at) in
    let byte = get_or now at 0 in
    let here = place_after_all first.place (take at old) in
    let before : c.loop-at.self.place ≡ here = ap (λ (s : BareLines g.row.R.Denot). s.place) c.loop-at.invariant.reader in
    let own : entered.place ≡ place_at c.loop-at.self.place byte = ap (λ (s : BareLines g.row.R.Denot). s.place) c.in_ok-is_kept.ensures.entered in
    let piece : HasPiece here now at count entered.place c.in_ok-is_kept.is_kept = record {
      within = c.loop-at-test.true;
      some = c.pass-count.ensures.some;
      fits = omega (arith, c.pass-count.ensures.within, length-drop at now, was.within);
      place = own ∙ ap (λ (p : BarePlace). place_at p byte) before;
      kept = c.in_ok-is_kept.ensures.kept ∙ ap is_kept (sym own);
      bare = subst (λ (l : List ℕ). bare_bytes entered.place l ≡ (if is_kept entered.place then l else [])) next c.pass-count.ensures.bare;
    } in
    let at_entry : entered ≡ record first { place = place_at here byte; line = line_after first.line (take at old) } =
    c.in_ok-is_kept.ensures.entered
    ∙ ap (λ (s : BareLines g.row.R.Denot). record s { place = place_at s.place byte }) c.loop-at.invariant.reader in
    let kept : IsAt first.place old c.if-is_kept.bytes (at + count) c.if-is_kept.kept = elim c.if-is_kept.branch [
      | then-is_kept w ↦
          let there : IsAt first.place old w.if-kept-at.bytes (at + count) (c.loop-at.kept + count) = elim w.if-kept-at.branch [
            | then-kept-at v ↦
                subst (λ (l : List ℕ). IsAt first.place old l (at + count) (c.loop-at.kept + count)) (sym v.bytes-is)
                (moved first.place old now at c.loop-at.kept count was entered.place c.in_ok-is_kept.is_kept piece
                v.copy_within.new.self w.if-is_kept.true v.if-kept-at.true v.copy_within.ensures.after)
            | else-kept-at v ↦
                subst (λ (l : List ℕ). IsAt first.place old l (at + count) (c.loop-at.kept + count)) (sym v.bytes-is)
                (is_there first.place old now at c.loop-at.kept count was entered.place c.in_ok-is_kept.is_kept piece w.if-is_kept.true v.if-kept-at.false)
          ] in
          subst (λ (l : List ℕ). IsAt first.place old l (at + count) c.if-is_kept.kept) (sym w.bytes-is)
          (subst (λ (n : ℕ). IsAt first.place old w.if-kept-at.bytes (at + count) n) (sym w.kept-is) there)
      | else-is_kept w ↦
          subst (λ (l : List ℕ). IsAt first.place old l (at + count) c.if-is_kept.kept) (sym w.bytes-is)
          (subst (λ (n : ℕ). IsAt first.place old now (at + count) n) (sym w.kept-is)
          (skipped first.place old now at c.loop-at.kept count was entered.place c.in_ok-is_kept.is_kept piece w.if-is_kept.false))
    ] in
    let after_place = place_further first.place old now at c.loop-at.kept count was entered.place c.in_ok-is_kept.is_kept piece in
    let after_line = line_further first.place old now at c.loop-at.kept count was entered.place c.in_ok-is_kept.is_kept piece first.line in
    let after_line_at_entry : line_after entered.line (take count (drop at now)) ≡ line_after first.line (take (at + count) old) =
    ap (λ (s : BareLines g.row.R.Denot). line_after s.line (take count (drop at now))) at_entry ∙ after_line in
    let passed : c.pass-count.new.self ≡ record entered { place = place_after_all entered.place (take count (drop at now)); line = line_after entered.line (take count (drop at now)) } =
    subst (λ (l : List ℕ). c.pass-count.new.self ≡ record entered { place = place_after_all entered.place l; line = line_after entered.line l })
    next c.pass-count.ensures.reader in
    record {
      kept = kept;
      reader = passed
          ∙ (λ i. record entered { place = after_place i; line = after_line_at_entry i })
          ∙ ap (λ (s : BareLines g.row.R.Denot). record s { place = place_after_all first.place (take (at + count) old); line = line_after first.line (take (at + count) old) }) at_entry;
    }
