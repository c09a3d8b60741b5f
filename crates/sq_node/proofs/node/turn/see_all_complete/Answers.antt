use Rattle.std.proofs.Common.{◌≡◌, ◌<◌, ◌≤◌, List, length, refl, sym, ap, ◌∙◌, ⊎_elim, arith}
use Rattle.std.specs.Prelude.{slice_get}
use Rattle.std.proofs.lemmas.Bool.{cases_lt}
use Rattle.std.proofs.lemmas.Option.{slice_get_read, slice_get_within}
use Rattle.sq_moves.specs.declared.recon.Range.{Range}
use Rattle.sq_moves.specs.ReconValue.{ReconValue}
use Rattle.sq_node.specs.Looks.{OnlyLooked}
use Rattle.sq_node.proofs.Looked.{seats_looked_at, segment_undone}
use Rattle.sq_node.proofs.node.turn.see_all_complete.Goals as goal

pub returns-then-not-see_complete_at-clause-looked : goal.returns-then-not-see_complete_at-clause-looked
returns-then-not-see_complete_at-clause-looked c =
    seats_looked_at c.loop-at.at OnlyLooked c.args.seats.now.items c.loop-at.seats.items c.see_complete_at.new.seats.items (λ v w looked. looked) c.loop-at.invariant.looked c.see_complete_at.ensures.looked

pub returns-then-not-see_complete_at-clause-seen : goal.returns-then-not-see_complete_at-clause-seen
returns-then-not-see_complete_at-clause-seen c = λ seen. c.see_complete_at.ensures.seen (c.loop-at.invariant.seen seen)

pub loop-at-preserved : goal.loop-at-preserved
loop-at-preserved c =
    let at = c.loop-at.at in
    record {
      of = c.see_complete_at.ensures.seats;
      looked = seats_looked_at at OnlyLooked c.args.seats.now.items c.loop-at.seats.items c.see_complete_at.new.seats.items (λ v w looked. looked) c.loop-at.invariant.looked c.see_complete_at.ensures.looked;
      flags = c.see_complete_at.ensures.flags ∙ c.loop-at.invariant.flags;
      seen = λ seen. c.see_complete_at.ensures.seen (c.loop-at.invariant.seen seen);
      all = λ seg segment within there part.
          ⊎_elim (λ (before : seg < at). c.see_complete_at.ensures.kept seg (c.loop-at.invariant.all seg segment before there part))
          (λ (past : at ≤ seg). let here : seg ≡ at = omega arith in ap (slice_get c.see_complete_at.new.complete.items) here ∙ c.see_complete_at.ensures.set c.if-not-see_complete_at.false)
          (cases_lt seg at);
    }

pub returns-clause-complete : goal.returns-clause-complete
returns-clause-complete c = λ _ seg segment there part.
    let within = slice_get_within c.args.fabric.now.recon.segments seg segment there in
    let segments = ap length (c.segments-segments.ensures.segments ∙ ap (λ (recon : ReconValue). recon.segments) c.recon.ensures) in
    c.loop-at.invariant.all seg segment (omega (arith, within, segments, c.loop-at-test.false)) there part

pub returns-then-not-see_complete_at-clause-undone : goal.returns-then-not-see_complete_at-clause-undone
returns-then-not-see_complete_at-clause-undone c = λ _.
    let at = c.loop-at.at in
    let segments = c.segments-segments.result.now in
    let same : segments ≡ c.args.fabric.now.recon.segments = c.segments-segments.ensures.segments ∙ ap (λ (recon : ReconValue). recon.segments) c.recon.ensures in
    record {
      seg = at;
      segment = c.index-segments-at.result;
      there = ap (λ (xs : List Range). slice_get xs at) (sym same)
          ∙ slice_get_read segments (length segments) at c.index-segments-at.result refl c.loop-at-test.true c.index-segments-at.is;
      takes = sym c.is_of.ensures ∙ c.if-not-is_of.false;
      undone = segment_undone at c.args.seats.now.items c.loop-at.seats.items c.see_complete_at.new.seats.items c.loop-at.invariant.looked (c.see_complete_at.ensures.undone c.if-not-see_complete_at.true);
    }
