-- Which reports a move heard, stage by stage.
use Rattle.std.proofs.Common.{◌≡◌, inl, inr, ℕ, zero, suc, ◌+◌, ◌<◌, ◌≤◌, ◌||◌, ◌&&◌, ◌==◌, not, max, Bool, true, false, true≢false, List, [], ◌∷◌, map, length, if◌then◌else◌, refl, sym, ap, ◌∙◌, arith}
use Rattle.std.specs.Prelude.{Contains, nat_lt, Ok, Err}
use Rattle.std.specs.Result.{is_ok}
use Rattle.std.specs.List.{list_all, range_with_len}
use Rattle.std.proofs.Common.{get_or-set_other}
use Rattle.std.proofs.lemmas.Bool.{cases_eq, cases_lt, eq-eqb, eqb-true, lt-ltb, ltb-true, and_parts, and_from, or_cases, or_left, or_right, not-true, both_ways}
use Rattle.std.proofs.lemmas.List.Folds.{list_all-append}
use Rattle.std.proofs.lemmas.List.Sums.{AllPass-from_list_all}
use Rattle.sq_moves.specs.declared.recon.Range.{Range}
use Rattle.sq_moves.specs.ReconValue.{ReconValue, IsRecon, segments_in, segment_at, segment_count, segments_of, stage_in, stages_in, stages}
use Rattle.sq_leader.specs.LeaderValue.{StageValue, ReportValue}
use Rattle.sq_leader.specs.Marks.{is_marked, with_mark}
use Rattle.sq_leader.specs.Segments.{is_heard, have_reported}
use Rattle.sq_leader.specs.Leader.{is_last, next_stage}
use Rattle.sq_leader.specs.Calls.{Call, Hear, Next, state_after, after_calls, was_heard, EndsHeard}
use Rattle.sq_leader.proofs.Marked.{is_marked-none_marked}

-- a test of both ends of a move passes each segment, where it passes each range
module _ (p : Range → Bool) (width : ℕ) (by_ends : (range : Range) (i : ℕ) → p (segment_at width range i) ≡ p range) where
  all_in : (range : Range) (a n : ℕ) → p range ≡ true → list_all p (map (segment_at width range) (range_with_len a n)) ≡ true
  all_in range a zero passes = refl
  all_in range a (suc n) passes =
      and_from (p (segment_at width range a)) (list_all p (map (segment_at width range) (range_with_len (a + 1) n))) (by_ends range a ∙ passes) (all_in range (a + 1) n passes)

  all_segments : (ranges : List Range) → list_all p ranges ≡ true → list_all p (segments_of width ranges) ≡ true
  all_segments [] all = refl
  all_segments (range ∷ ranges) all =
      let parts = and_parts (p range) (list_all p ranges) all in
      list_all-append p (segments_in width range) (segments_of width ranges)
      ∙ and_from (list_all p (segments_in width range)) (list_all p (segments_of width ranges)) (all_in range 0 (segment_count width range) parts.0) (all_segments ranges parts.1)

passes : (p : Range → Bool) (segments : List Range) (segment : Range) → list_all p segments ≡ true → Contains segments segment → p segment ≡ true
passes p segments segment all has = ap p (sym has.2) ∙ AllPass-from_list_all p segments all has.0 segment has.1

module _ (recon : ReconValue) where
  each_below : (ranges : List Range) (most : ℕ) → stages_in recon ranges ≤ most → list_all (λ range. nat_lt (stage_in recon range) most) ranges ≡ true
  each_below [] most le = refl
  each_below (range ∷ ranges) most le =
      let bounds = split (stage_in recon range) (stages_in recon ranges) le in
      and_from (nat_lt (stage_in recon range) most) (list_all (λ other. nat_lt (stage_in recon other) most) ranges) (lt-ltb (stage_in recon range) most bounds.0) (each_below ranges most bounds.1)
    where
      split : (here rest : ℕ) → max (here + 1) rest ≤ most → (here < most) × (rest ≤ most)
      split here rest le = (omega (arith, le), omega (arith, le))

  segment_stage : IsRecon recon → (segment : Range) → Contains recon.segments segment → stage_in recon segment < stages recon
  segment_stage is segment has =
      let p : Range → Bool = λ range. nat_lt (stage_in recon range) (stages recon) in
      let all : list_all p recon.segments ≡ true = ap (list_all p) is.cut ∙ all_segments p recon.width (λ range i. refl) recon.ranges (each_below recon.ranges (stages recon) (omega arith)) in
      ltb-true (stage_in recon segment) (stages recon) (passes p recon.segments segment all has)

  -- who is marked reported in the running stage, and each segment of a stage that went has the report of its destination
  record IsTold (at : StageValue) (heard : ℕ → ℕ → Bool) : Type 0 where
    pub moves : at.recon ≡ recon
    pub now : (part : ℕ) → is_marked at.reported part ≡ true → heard part at.stage ≡ true
    pub past : (segment : Range) → Contains recon.segments segment → stage_in recon segment < at.stage → heard segment.dst (stage_in recon segment) ≡ true

  -- each segment of the running stage has it, where the stage is over
  over : (at : StageValue) (heard : ℕ → ℕ → Bool) → IsTold at heard → have_reported at ≡ true → (segment : Range) → Contains recon.segments segment → stage_in recon segment ≡ at.stage
      → heard segment.dst (stage_in recon segment) ≡ true
  over at heard told all segment has same =
      let here : StageValue = record { reported = at.reported; stage = at.stage; recon = recon } in
      let each : list_all (is_heard here) recon.segments ≡ true = ap (λ (r : ReconValue). have_reported (record { reported = at.reported; stage = at.stage; recon = r })) (sym told.moves) ∙ all in
      let marked : is_marked at.reported segment.dst ≡ true = elim (or_cases (not (stage_in recon segment == at.stage)) (is_marked at.reported segment.dst) (passes (is_heard here) recon.segments segment each has)) [
        | inl other ↦ absurd (both_ways (stage_in recon segment == at.stage) (not-true (stage_in recon segment == at.stage) other) (eq-eqb (stage_in recon segment) at.stage same))
        | inr did ↦ did
      ] in
      ap (heard segment.dst) same ∙ told.now segment.dst marked

  module _ (at : StageValue) (heard : ℕ → ℕ → Bool) (so_far : IsTold at heard) where
    -- the leader hears a report
    hears : {F : Type 0} (told : ReportValue) (f : F) (now : Bool) → (told.stage == at.stage) ≡ now
        → IsTold (state_after at (if now then Ok (record at { reported = with_mark at.reported told.part }) else Err f)) (λ part stage. ((told.part == part) && ((told.stage == stage) && (at.stage == stage))) || heard part stage)
    hears told f true same = record {
      moves = so_far.moves;
      now = λ part marked. elim (cases_eq told.part part) [
        | inl is ↦
            or_left ((told.part == part) && ((told.stage == at.stage) && (at.stage == at.stage))) (heard part at.stage)
            (and_from (told.part == part) ((told.stage == at.stage) && (at.stage == at.stage)) (eq-eqb told.part part is)
            (and_from (told.stage == at.stage) (at.stage == at.stage) same (eq-eqb at.stage at.stage refl)))
        | inr other ↦
            or_right ((told.part == part) && ((told.stage == at.stage) && (at.stage == at.stage))) (heard part at.stage)
            (so_far.now part (sym (get_or-set_other at.reported told.part part true false (λ is. other (sym is))) ∙ marked))
      ];
      past = λ segment has before. or_right ((told.part == segment.dst) && ((told.stage == stage_in recon segment) && (at.stage == stage_in recon segment))) (heard segment.dst (stage_in recon segment)) (so_far.past segment has before);
    }
    hears told f false other = record {
      moves = so_far.moves;
      now = λ part marked. or_right ((told.part == part) && ((told.stage == at.stage) && (at.stage == at.stage))) (heard part at.stage) (so_far.now part marked);
      past = λ segment has before. or_right ((told.part == segment.dst) && ((told.stage == stage_in recon segment) && (at.stage == stage_in recon segment))) (heard segment.dst (stage_in recon segment)) (so_far.past segment has before);
    }

    -- the next stage asked for
    goes_on : {F : Type 0} (f g : F) (last all : Bool) → have_reported at ≡ all → IsTold (state_after at (if last then Err f else if all then Ok (next_stage at) else Err g)) heard
    goes_on f g true all reported = so_far
    goes_on f g false false reported = so_far
    goes_on f g false true reported = record {
      moves = so_far.moves;
      now = λ part marked. absurd (true≢false (sym marked ∙ is_marked-none_marked (length at.reported) part));
      past = λ segment has before. elim (cases_lt (stage_in recon segment) at.stage) [
        | inl earlier ↦ so_far.past segment has earlier
        | inr now ↦ over at heard so_far reported segment has (omega (arith, before, now))
      ];
    }

  told_after : (parts : ℕ) (calls : List Call) → IsTold (after_calls parts recon calls) (was_heard parts recon calls)
  told_after parts [] = record {
    moves = refl;
    now = λ part marked. absurd (true≢false (sym marked ∙ is_marked-none_marked parts part));
    past = λ segment has before. absurd (omega (arith, before));
  }
  told_after parts (Hear told ∷ calls) =
      let at = after_calls parts recon calls in
      hears at (was_heard parts recon calls) (told_after parts calls) told _ (told.stage == at.stage) refl
  told_after parts (Next ∷ calls) =
      let at = after_calls parts recon calls in
      goes_on at (was_heard parts recon calls) (told_after parts calls) _ _ (is_last at) (have_reported at) refl

-- a move that can end is at its last stage, which is over
can_end : {T E : Type 0} (value : T) (fault : E) (last all : Bool) → is_ok (if last && all then Ok value else Err fault) ≡ true → (last ≡ true) × (all ≡ true)
can_end value fault true true ends = (refl, refl)
can_end value fault true false ends = absurd (true≢false (sym ends))
can_end value fault false all ends = absurd (true≢false (sym ends))

pub ends_heard : (parts : ℕ) (recon : ReconValue) (calls : List Call) → IsRecon recon → EndsHeard parts recon calls
ends_heard parts recon calls is ends segment has =
    let at = after_calls parts recon calls in
    let heard = was_heard parts recon calls in
    let told = told_after recon parts calls in
    let ended = can_end _ _ (is_last at) (have_reported at) ends in
    let last : at.stage + 1 ≡ stages recon = eqb-true (at.stage + 1) (stages at.recon) ended.0 ∙ ap stages told.moves in
    let below = segment_stage recon is segment has in
    elim (cases_lt (stage_in recon segment) at.stage) [
      | inl before ↦ told.past segment has before
      | inr now ↦ over recon at heard told ended.1 segment has (omega (arith, below, last, now))
    ]
