-- Once the move has ended, each root key is where the new plan has it.
use Rattle.std.proofs.Common.{◌≡◌, inl, inr, ℕ, ◌<◌, true, false, ◌==◌, ◌||◌, not, nat_le, nat_lt, [], ◌∷◌, length, slice_get, Option, Some, None, refl, sym, ap, ◌∙◌, subst, true≢false, arith}
use Rattle.std.specs.List.{list_any, list_all}
use Rattle.std.proofs.lemmas.Bool.{and_parts, and_from, lt-ltb, ltb-true, eq-eqb, eqb-true, or_cases, not-true, cond-true, cases_lt}
use Rattle.std.proofs.lemmas.Option.{slice_get_within}
use Rattle.sq_moves.specs.declared.status.Status.{Status}
use Rattle.sq_moves.specs.declared.status.Status.TheVariants.{Complete}
use Rattle.sq_moves.specs.declared.node.TheConstants.{LEAVES}
use Rattle.sq_moves.specs.Status.{is_free, is_split, is_begun, is_complete, is_past, covering}
use Rattle.sq_moves.proofs.Covering.{covering_is, covering_touched}
use Rattle.sq_moves.proofs.Readings.{all_complete_is}
use Rattle.sq_moves.specs.declared.recon.Range.{Range}
use Rattle.sq_moves.specs.ReconValue.{segment_of, leaf_of, stage_in, of_stage, goes_into}
use Rattle.sq_moves.proofs.Stages.{stage_below}
use Rattle.sq_moves.specs.OpeningValue.{OpeningValue}
use Rattle.sq_model.specs.declared.step.Step.{Step}
use Rattle.sq_model.specs.declared.step.Step.TheVariants.{Prepare, Start, Split, Claim, Begin, Cut, Load, Complete as Complete_step, Report, Next, Finish}
use Rattle.sq_model.specs.declared.step.Phase.{Phase}
use Rattle.sq_model.specs.declared.step.Phase.TheVariants.{Moving, Ended}
use Rattle.sq_model.specs.declared.answer.Answer.{Answer}
use Rattle.sq_model.specs.declared.answer.Answer.TheVariants.{Done, WasCut, WasLoaded}
use Rattle.sq_moves.specs.Opening.{IsOpening}
use Rattle.sq_model.specs.Trace.{Trace, stage, loads}
use Rattle.sq_model.specs.Leader.{phase, is_moving_phase, is_reported}
use Rattle.sq_model.specs.Nodes.{status_of}
use Rattle.sq_model.specs.Place.{At, place, destination, is_covered, extent_of, is_within}
use Rattle.sq_model.specs.Links.{reached}
use Rattle.sq_moves.specs.Reading.{is_complete_reading}
use Rattle.sq_model.specs.Answers.{is_complete_segment, is_into, segment_numbers, has_all, partitions, counts_reported}
use Rattle.sq_model.specs.Legal.{IsLegal}
use Rattle.sq_model.proofs.Lists.{list_any-Contains, list_all-Contains, row_has}
use Rattle.sq_model.proofs.Steps.{next_goes, FinishGoes, finish_goes, report_goes, cut_goes, load_goes}
use Rattle.sq_model.proofs.Statuses.{grown, later, all_complete}
use Rattle.sq_model.proofs.Tiles.{last_reached}
use Rattle.sq_model.proofs.Notes.{tiles_loads, complete_loaded}
use Rattle.sq_model.proofs.Keys.{IsIn, found_in_segment, ends_below, linked, above_within, unfound_stays}
use Rattle.sq_model.proofs.Routing.{cut_none, loaded_is}
use Rattle.sq_model.proofs.Places.{uncut_home, loaded_away}

complete_past : (one other : Status) → is_past one other ≡ true → is_complete one ≡ true → is_complete other ≡ true
complete_past (Complete p) (Complete q) past complete = refl
complete_past one other past complete = absurd cc

complete_touched : (st : Status) → is_complete st ≡ true → (is_free st ≡ false) × (is_split st ≡ false) × (is_begun st ≡ true)
complete_touched (Complete p) complete = (refl, refl, refl)
complete_touched st complete = absurd cc

-- each leaf's node is complete in a segment that is whole
whole_leaf : (o : OpeningValue) (t : Trace) → IsLegal o t → (g : ℕ) → is_complete_segment t g ≡ true → (leaf : ℕ) → leaf < LEAVES → is_complete (status_of t g (covering (status_of t g) leaf)) ≡ true
whole_leaf o t legal g = all_complete (status_of t g) (grown o t legal g)

-- a segment that is whole stays so
pub stays_whole : (o : OpeningValue) (t : Trace) (step : Step) (given : Answer) → IsLegal o ((step, given) ∷ t) → (g : ℕ) → is_complete_segment t g ≡ true → is_complete_segment ((step, given) ∷ t) g ≡ true
stays_whole o t step given legal g whole = ap is_complete_reading ((all_complete_is (status_of ((step, given) ∷ t) g) (grown o ((step, given) ∷ t) legal g)).1 each)
  where
    each : (leaf : ℕ) → leaf < LEAVES → is_complete (status_of ((step, given) ∷ t) g (covering (status_of ((step, given) ∷ t) g) leaf)) ≡ true
    each leaf few =
        let now = status_of ((step, given) ∷ t) g in
        let n = covering (status_of t g) leaf in
        let complete = complete_past (status_of t g n) (now n) (later o t step given legal g n) (whole_leaf o t legal.1 g whole leaf few) in
        let was = covering_is (status_of t g) (grown o t legal.1 g) leaf few in
        let touched = complete_touched (now n) complete in
        let same = covering_touched now (grown o ((step, given) ∷ t) legal g) leaf n few was.node was.above touched.0 touched.1 in
        ap (λ k. is_complete (now k)) same ∙ complete

-- what moves to a partition that reported is whole
into_whole : (o : OpeningValue) (t : Trace) (part g : ℕ) → has_all o t part ≡ true → g < length o.recon.segments → is_into o t part g ≡ true → is_complete_segment t g ≡ true
into_whole o t part g all there into =
    let here = list_all-Contains (λ seg. not (is_into o t part seg) || is_complete_segment t seg) (segment_numbers o) g all (row_has 0 (length o.recon.segments) g (omega arith) (omega arith)) in
    elim (or_cases (not (is_into o t part g)) (is_complete_segment t g) here) [
      | inl other ↦ absurd (true≢false (sym into ∙ not-true (is_into o t part g) other))
      | inr whole ↦ whole
    ]

pub reported_whole : (o : OpeningValue) (t : Trace) → IsLegal o t → (part g : ℕ) → is_reported t part ≡ true → g < length o.recon.segments → is_into o t part g ≡ true → is_complete_segment t g ≡ true
reported_whole o [] legal part g reported there into = absurd (true≢false (sym reported))
reported_whole o ((Report which, Done) ∷ t) legal part g reported there into =
    elim (or_cases (which == part) (is_reported t part) reported) [
      | inl now ↦ into_whole o t part g (subst (λ p. has_all o t p ≡ true) (eqb-true which part now) (report_goes o t which legal.0)) there into
      | inr before ↦ reported_whole o t legal.1 part g before there into
    ]
reported_whole o ((Next, Done) ∷ t) legal part g reported there into = absurd (true≢false (sym reported))
reported_whole o ((Split seg node, given) ∷ t) legal part g reported there into =
    stays_whole o t (Split seg node) given legal g (reported_whole o t legal.1 part g reported there into)
reported_whole o ((Claim seg node pull, given) ∷ t) legal part g reported there into =
    stays_whole o t (Claim seg node pull) given legal g (reported_whole o t legal.1 part g reported there into)
reported_whole o ((Begin seg node pull, given) ∷ t) legal part g reported there into =
    stays_whole o t (Begin seg node pull) given legal g (reported_whole o t legal.1 part g reported there into)
reported_whole o ((Complete_step seg node pull, given) ∷ t) legal part g reported there into =
    stays_whole o t (Complete_step seg node pull) given legal g (reported_whole o t legal.1 part g reported there into)
reported_whole o ((step, given) ∷ t) legal part g reported there into = reported_whole o t legal.1 part g reported there into

module _ (o : OpeningValue) (is : IsOpening o) (t : Trace) (legal : IsLegal o t) where
  -- each key of a whole segment was loaded
  pub whole_loaded : (root g : ℕ) (segment : Range) → segment_of o.recon.segments root ≡ Some g → IsIn o root g segment → is_complete_segment t g ≡ true → is_covered (loads t) root ≡ true
  whole_loaded root g segment found at whole =
      let leaf = leaf_of o.recon.width segment root in
      let n = covering (status_of t g) leaf in
      let complete = whole_leaf o t legal g whole leaf at.leaf in
      let above = (covering_is (status_of t g) (grown o t legal g) leaf at.leaf).above in
      let keys = extent_of o g n in
      let within : is_within keys root ≡ true = above_within o is root g n segment at above in
      let high = ltb-true root keys.hi (and_parts (nat_le keys.lo root) (nat_lt root keys.hi) within).1 in
      let ends = last_reached o (loads t) (tiles_loads o t legal) g n (complete_loaded o t legal g n complete) in
      loaded_is o is t legal root g segment found at.there
      ∙ and_from (is_begun (status_of t g n)) (nat_lt root (reached o g n (loads t))) (complete_touched (status_of t g n) complete).2
      (lt-ltb root (reached o g n (loads t)) (omega arith))

  -- once each partition has reported, each segment of the running stage is whole
  pub stage_whole : list_all (counts_reported o t) (partitions o) ≡ true → (g : ℕ) (segment : Range) → slice_get o.recon.segments g ≡ Some segment → stage_in o.recon segment ≡ stage t → is_complete_segment t g ≡ true
  stage_whole reported g segment there now =
      let below = (ends_below o is g segment there).1 in
      let within = slice_get_within o.recon.segments g segment there in
      let into : is_into o t segment.dst g ≡ true =
      ap (λ found. goes_into (of_stage o.recon (stage t) found) segment.dst) there
      ∙ ap (λ found. goes_into found segment.dst) (cond-true (stage_in o.recon segment == stage t) (Some segment) None (eq-eqb (stage_in o.recon segment) (stage t) now))
      ∙ eq-eqb segment.dst segment.dst refl in
      let given = list_all-Contains (counts_reported o t) (partitions o) segment.dst reported (row_has 0 o.old.parts segment.dst (omega arith) (omega arith)) in
      elim (or_cases (is_reported t segment.dst) (not (list_any (is_into o t segment.dst) (segment_numbers o))) given) [
        | inl did ↦ reported_whole o t legal segment.dst g did within into
        | inr none ↦
            absurd (true≢false (
            sym (list_any-Contains (is_into o t segment.dst) (segment_numbers o) g (row_has 0 (length o.recon.segments) g (omega arith) (omega arith)) into)
            ∙ not-true (list_any (is_into o t segment.dst) (segment_numbers o)) none
            ))
      ]

-- the segments of the stages that went are whole
pub past_whole : (o : OpeningValue) → IsOpening o → (t : Trace) → IsLegal o t → (g : ℕ) (segment : Range) → slice_get o.recon.segments g ≡ Some segment → stage_in o.recon segment < stage t → is_complete_segment t g ≡ true
past_whole o is [] legal g segment there past = absurd (omega (arith, past))
past_whole o is ((Next, Done) ∷ t) legal g segment there past =
    elim (cases_lt (stage_in o.recon segment) (stage t)) [
      | inl before ↦ past_whole o is t legal.1 g segment there before
      | inr now ↦ stage_whole o is t legal.1 (next_goes o t legal.0).reported g segment there (omega (arith, past, now))
    ]
past_whole o is ((Split seg node, given) ∷ t) legal g segment there past = stays_whole o t (Split seg node) given legal g (past_whole o is t legal.1 g segment there past)
past_whole o is ((Claim seg node pull, given) ∷ t) legal g segment there past = stays_whole o t (Claim seg node pull) given legal g (past_whole o is t legal.1 g segment there past)
past_whole o is ((Begin seg node pull, given) ∷ t) legal g segment there past = stays_whole o t (Begin seg node pull) given legal g (past_whole o is t legal.1 g segment there past)
past_whole o is ((Complete_step seg node pull, given) ∷ t) legal g segment there past = stays_whole o t (Complete_step seg node pull) given legal g (past_whole o is t legal.1 g segment there past)
past_whole o is ((step, given) ∷ t) legal g segment there past = past_whole o is t legal.1 g segment there past

module _ (o : OpeningValue) (is : IsOpening o) (t : Trace) (legal : IsLegal o t) where
  -- a key of a segment of a stage that went was loaded
  pub past_loaded : (root g : ℕ) (segment : Range) → segment_of o.recon.segments root ≡ Some g → IsIn o root g segment → stage_in o.recon segment < stage t → is_covered (loads t) root ≡ true
  past_loaded root g segment found at past = whole_loaded o is t legal root g segment found at (past_whole o is t legal g segment at.there past)

  -- where Finish goes, each segment is whole
  finish_whole : FinishGoes o t → (g : ℕ) (segment : Range) → slice_get o.recon.segments g ≡ Some segment → is_complete_segment t g ≡ true
  finish_whole goes g segment there =
      let below = stage_below o.recon segment.src segment.dst (linked o is g segment there) in
      elim (cases_lt (stage_in o.recon segment) (stage t)) [
        | inl before ↦ past_whole o is t legal g segment there before
        | inr now ↦ stage_whole o is t legal goes.reported g segment there (omega (arith, below, goes.last, now))
      ]

  finish_place : FinishGoes o t → (root : ℕ) → place o t root ≡ At (destination o root)
  finish_place goes root = among (segment_of o.recon.segments root) refl
    where
      among : (at : Option ℕ) → segment_of o.recon.segments root ≡ at → place o t root ≡ At (destination o root)
      among None none = uncut_home o is t legal root (cut_none o is t legal root none) ∙ ap At (unfound_stays o is root none)
      among (Some g) found =
          let at = found_in_segment o is root g found in
          loaded_away o is t legal root (whole_loaded o is t legal root g at.0 found at.1 (finish_whole goes g at.0 at.1.there))

-- nothing is cut or loaded any more
ended_still : {A : Type 0} (now : Phase) → is_moving_phase now ≡ true → now ≡ Ended → A
ended_still Moving moving ended = absurd cc
ended_still now moving ended = absurd cc

-- once the move has ended, each root key is where the new plan has it
pub ended_place : (o : OpeningValue) → IsOpening o → (t : Trace) → IsLegal o t → phase t ≡ Ended → (root : ℕ) → place o t root ≡ At (destination o root)
ended_place o is [] legal ended root = absurd cc
ended_place o is ((Prepare part, Done) ∷ t) legal ended root = absurd cc
ended_place o is ((Start, Done) ∷ t) legal ended root = absurd cc
ended_place o is ((Finish, Done) ∷ t) legal ended root = finish_place o is t legal.1 (finish_goes o t legal.0) root
ended_place o is ((Cut src dst, WasCut note families) ∷ t) legal ended root = ended_still (phase t) (cut_goes o t src dst note families legal.0).moving ended
ended_place o is ((Load src dst, WasLoaded note families) ∷ t) legal ended root = ended_still (phase t) (load_goes o t src dst note families legal.0).moving ended
ended_place o is ((step, given) ∷ t) legal ended root = ended_place o is t legal.1 ended root
