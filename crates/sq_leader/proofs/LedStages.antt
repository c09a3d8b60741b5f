-- Which partitions reported to the leader, and what it does then.
use Rattle.std.proofs.Common.{◌≡◌, inl, inr, ℕ, ◌+◌, ◌<◌, ◌≤◌, Bool, true, false, List, length, get_or, refl, sym, ap, ◌∙◌, subst, arith, get_or-set_same, get_or-set_other, eq-eqb, eqb-true}
use Rattle.std.specs.Prelude.{◌&&◌, ◌||◌, ◌==◌, not, nat_le, nat_lt, slice_set, slice_get, Option, Some, None, Result, Ok, Err, if◌then◌else◌, unwrap_or}
use Rattle.std.specs.Result.{is_ok, result_ok}
use Rattle.std.specs.List.{list_all}
use Rattle.std.specs.Cmp.{both_ways}
use Rattle.std.proofs.lemmas.Bool.{and_from, and_parts, lt-ltb, le-ltb, ltb-true, leb-false, or_right, true≢false, cases_eq}
use Rattle.std.proofs.lemmas.List.{length-set, length-replicate}
use Rattle.std.proofs.lemmas.List.Sums.{AllPass-from_list_all, list_all-from_AllPass}
use Rattle.std.proofs.lemmas.Option.{slice_get-get_or, slice_get_within, get_or_from_slice_get}
use Rattle.sq_moves.specs.declared.recon.Range.{Range}
use Rattle.sq_moves.specs.ReconValue.{ReconValue, stage_in, stages, of_stage, goes_into, moves_into}
use Rattle.sq_moves.specs.OpeningValue.{OpeningValue}
use Rattle.sq_moves.specs.Opening.{IsOpening}
use Rattle.sq_leader.specs.Marks.{none_marked, is_marked, with_mark, all_marked}
use Rattle.sq_leader.specs.Segments.{is_marked_complete, all_marked_complete, have_reported}
use Rattle.sq_leader.specs.LeaderValue.{IdleValue, PreparingValue, StageValue}
use Rattle.sq_leader.specs.declared.fault.PrepareFault.{PrepareFault}
use Rattle.sq_leader.specs.declared.fault.FinishFault.{FinishFault}
use Rattle.sq_leader.specs.declared.fault.NextFault.{NextFault}
use Rattle.sq_leader.specs.declared.fault.NextFault.TheVariants.{LastStage, NotFinished}
use Rattle.sq_leader.specs.declared.leader.Refused.{Refused}
use Rattle.sq_leader.specs.Leader.{answer_to_first_prepare, is_last, next_stage, answer_to_next, answer_to_finish}
use Rattle.sq_leader.proofs.Marked.{is_marked-none_marked, all_marked-by_part}
use Rattle.sq_leader.proofs.Wholes.{all_pass, each_whole}
use Rattle.sq_model.proofs.Keys.{ends_below}
use Rattle.sq_leader.specs.declared.leading.Led.TheVariants.{Next, Ended, Missing}
use Rattle.sq_leader.specs.Leading.{leading, LeadsStage, HaveReported, HasHeard, AreComplete, Leads}

-- the partitions below this number have prepared
pub record ArePrepared (parts part : ℕ) (prepared : List Bool) : Type 0 where
  pub parts_are : length prepared ≡ parts
  pub each : (k : ℕ) → k < part → is_marked prepared k ≡ true

-- once they all have, all are marked
pub all_prepared : (parts part : ℕ) (prepared : List Bool) → parts ≤ part → ArePrepared parts part prepared → all_marked prepared ≡ true
all_prepared parts part prepared past are =
    let many = are.parts_are in
    all_marked-by_part prepared ∙ all_pass (is_marked prepared) 0 (length prepared) (λ k low high. are.each k (omega (arith, many, high, past)))

-- the first of them is marked, once it said so
first_alone : (test : Bool) (value found : PreparingValue) (fault : Refused IdleValue PrepareFault) → Ok found ≡ (if test then Err fault else Ok value) → (test ≡ false) × (found ≡ value)
first_alone true value found fault is = absurd (true≢false (ap is_ok is))
first_alone false value found fault is = (refl, ap (λ answer. unwrap_or (result_ok answer) value) is)

pub first_prepared : (idle : IdleValue) (at : PreparingValue) → Ok at ≡ answer_to_first_prepare idle 0 → ArePrepared idle.parts 1 at.prepared
first_prepared idle at is =
    let marks = none_marked idle.parts in
    let went = first_alone (nat_le idle.parts 0) (record { prepared = with_mark marks 0; recon = idle.recon }) at _ is in
    let some : 0 < idle.parts = leb-false idle.parts 0 went.0 in
    let many : length marks ≡ idle.parts = length-replicate idle.parts false in
    let prepared : at.prepared ≡ with_mark marks 0 = ap (λ (p : PreparingValue). p.prepared) went.1 in
    record {
      parts_are = ap (λ (list : List Bool). length list) prepared ∙ length-set marks 0 true ∙ many;
      each = λ k low.
          ap (λ (list : List Bool). is_marked list k) prepared ∙ ap (is_marked (with_mark marks 0)) (omega (arith, low))
          ∙ get_or-set_same marks 0 true false (omega (arith, many, some));
    }

-- of the numbers below this one just those are marked that have this property
pub record AreMarked (many next : ℕ) (holds : ℕ → Bool) (marks : List Bool) : Type 0 where
  pub length_is : length marks ≡ many
  pub each : (k : ℕ) → is_marked marks k ≡ (nat_lt k next && holds k)

module _ (many : ℕ) (holds : ℕ → Bool) where
  pub none_yet : AreMarked many 0 holds (none_marked many)
  none_yet = record {
    length_is = length-replicate many false;
    each = λ k. is_marked-none_marked many k ∙ ap (λ low. low && holds k) (sym (le-ltb k 0 (omega arith)));
  }

  -- one number more changes nothing for another
  one_more : (next k : ℕ) → (k ≡ next → ⊥) → nat_lt k next ≡ nat_lt k (next + 1)
  one_more next k other =
      both_ways (nat_lt k next) (nat_lt k (next + 1))
      (λ low. let below = ltb-true k next low in lt-ltb k (next + 1) (omega arith))
      (λ low. let below = ltb-true k (next + 1) low in lt-ltb k next (omega (arith, other)))

  -- what holds of one number more is set
  pub set_next : (next : ℕ) (marks : List Bool) (b : Bool) → next < many → AreMarked many next holds marks → b ≡ holds next → AreMarked many (next + 1) holds (slice_set marks next b)
  set_next next marks b lt so_far is =
      let length_is = so_far.length_is in
      record {
        length_is = length-set marks next b ∙ length_is;
        each = λ k. elim (cases_eq k next) [
          | inl same ↦
              ap (is_marked (slice_set marks next b)) same ∙ get_or-set_same marks next b false (omega (arith, length_is, lt)) ∙ is ∙ ap holds (sym same)
              ∙ ap (λ low. low && holds k) (sym (lt-ltb k (next + 1) (omega (arith, same))))
          | inr other ↦
              get_or-set_other marks next k b false other ∙ so_far.each k ∙ ap (λ low. low && holds k) (one_more next k other)
        ];
      }

-- of the partitions below this number those have reported in the stage that may
pub record AreHeard (o : OpeningValue) (stage : ℕ) (whole : List Bool) (next : ℕ) (at : StageValue) : Type 0 where
  pub leads : LeadsStage o stage at
  pub marks : AreMarked o.old.parts next (all_marked_complete o.recon stage whole) at.reported

-- the segment of this number moves in the stage
record IsOfStage (recon : ReconValue) (stage seg : ℕ) (segment : Range) : Type 0 where
  there : slice_get recon.segments seg ≡ Some segment
  is : stage_in recon segment ≡ stage

module _ (recon : ReconValue) (stage part seg : ℕ) where
  -- it moves into its destination then
  into_dst : (segment : Range) → IsOfStage recon stage seg segment → moves_into recon stage segment.dst seg ≡ true
  into_dst segment of =
      ap (λ found. goes_into (of_stage recon stage found) segment.dst) of.there
      ∙ ap (λ now. goes_into (if now then Some segment else None) segment.dst) (eq-eqb (stage_in recon segment) stage of.is)
      ∙ eq-eqb segment.dst segment.dst refl

  -- and what moves into a partition in the stage is such a segment
  of_into : (found : Option Range) → slice_get recon.segments seg ≡ found → goes_into (of_stage recon stage found) part ≡ true → (segment : Range) × IsOfStage recon stage seg segment
  of_into None there goes = absurd (true≢false (sym goes))
  of_into (Some segment) there goes = of_now (stage_in recon segment == stage) refl goes
    where
      of_now : (now : Bool) → (stage_in recon segment == stage) ≡ now → goes_into (if now then Some segment else None) part ≡ true → (s : Range) × IsOfStage recon stage seg s
      of_now true runs goes = (segment, record { there = there; is = eqb-true (stage_in recon segment) stage runs })
      of_now false runs goes = absurd (true≢false (sym goes))

module _ (o : OpeningValue) (stage : ℕ) (whole : List Bool) (at : StageValue) (have : HaveReported o stage whole at) where
  -- a segment into a partition that reported is whole
  heard_whole : (part seg : ℕ) → is_marked at.reported part ≡ true → moves_into o.recon stage part seg ≡ true → is_marked_complete whole seg ≡ true
  heard_whole part seg marked =
      each_whole o.recon stage whole part (and_parts (nat_lt part o.old.parts) (all_marked_complete o.recon stage whole part) (sym (have.each part) ∙ marked)).1 seg

  hears : HasHeard o stage (is_marked_complete whole) at
  hears = record { leads = have.leads; heard = heard_whole }

  -- the segment moves in another stage, or its destination reported
  abbrev is_told : Range → Bool
  is_told segment = not (stage_in o.recon segment == stage) || is_marked at.reported segment.dst

  all_told : have_reported at ≡ list_all is_told o.recon.segments
  all_told = λ i. list_all (λ segment. not (stage_in (have.leads.recon_is i) segment == have.leads.stage_is i) || is_marked at.reported segment.dst) (have.leads.recon_is i).segments

  -- where each partition reported into which a segment of the stage moves, each such segment is whole
  whole_if_reported : have_reported at ≡ true → AreComplete o stage (is_marked_complete whole)
  whole_if_reported all seg segment there is =
      let segments = o.recon.segments in
      let here = get_or_from_slice_get segments seg segment segment there in
      let told : is_told segment ≡ true = ap is_told (sym here) ∙ AllPass-from_list_all is_told segments (sym all_told ∙ all) seg segment (slice_get_within segments seg segment there) in
      let marked : is_marked at.reported segment.dst ≡ true = ap (λ now. not now || is_marked at.reported segment.dst) (sym (eq-eqb (stage_in o.recon segment) stage is)) ∙ told in
      heard_whole segment.dst seg marked (into_dst o.recon stage segment.dst seg segment (record { there = there; is = is }))

  -- and where each is whole, each of those partitions reported
  reported_if_whole : IsOpening o → AreComplete o stage (is_marked_complete whole) → have_reported at ≡ true
  reported_if_whole is all =
      let segments = o.recon.segments in
      all_told ∙ list_all-from_AllPass is_told segments (λ seg d lt.
      let segment = get_or segments seg d in
      let below : segment.dst < o.old.parts = (ends_below o is seg segment (slice_get-get_or segments seg d lt)).1 in
      or_right (not (stage_in o.recon segment == stage)) (is_marked at.reported segment.dst)
      (have.each segment.dst ∙ and_from (nat_lt segment.dst o.old.parts) (all_marked_complete o.recon stage whole segment.dst) (lt-ltb segment.dst o.old.parts below) (has_each segment.dst)))
    where
      whole_or_away : (part seg : ℕ) (into : Bool) → moves_into o.recon stage part seg ≡ into → (not into || is_marked_complete whole seg) ≡ true
      whole_or_away part seg true goes =
          let (segment, of) = of_into o.recon stage part seg (slice_get o.recon.segments seg) refl goes in
          all seg segment of.there of.is
      whole_or_away part seg false goes = refl

      has_each : (part : ℕ) → all_marked_complete o.recon stage whole part ≡ true
      has_each part = all_pass (λ k. not (moves_into o.recon stage part k) || is_marked_complete whole k) 0 (length o.recon.segments) (λ k low high. whole_or_away part k (moves_into o.recon stage part k) refl)

  -- ---- what the leader answers

  -- the next stage begins with a leader to which none has reported
  next_leads : next_stage at ≡ leading o (stage + 1)
  next_leads = λ i. record { reported = none_marked (have.parts i); stage = have.leads.stage_is i + 1; recon = have.leads.recon_is i }

  went : (found : StageValue) → Ok found ≡ answer_to_next at → (have_reported at ≡ true) × (found ≡ next_stage at)
  went found is = chosen _ _ (is_last at) (have_reported at) is
    where
      chosen : {E : Type 0} (a b : E) (last all : Bool) → Ok found ≡ (if last then Err a else (if all then Ok (next_stage at) else Err b)) → (all ≡ true) × (found ≡ next_stage at)
      chosen a b true all is = absurd (true≢false (ap is_ok is))
      chosen a b false true is = (refl, ap (λ answer. unwrap_or (result_ok answer) (next_stage at)) is)
      chosen a b false false is = absurd (true≢false (ap is_ok is))

  pub goes_on : (found : StageValue) → Ok found ≡ answer_to_next at → Leads o stage (is_marked_complete whole) (Next found)
  goes_on found is =
      let (all, next) = went found is in
      (next ∙ next_leads, whole_if_reported all, at, record { hears = hears; next = sym is ∙ ap Ok (next ∙ next_leads) })

  -- it ends the move
  pub ends : (found : StageValue) → Ok found ≡ answer_to_finish at → Leads o stage (is_marked_complete whole) Ended
  ends found is =
      let (both, same) = chosen _ (is_last at && have_reported at) is in
      let (last, all) = and_parts (is_last at) (have_reported at) both in
      let counted : at.stage + 1 ≡ stages at.recon = eqb-true (at.stage + 1) (stages at.recon) last in
      (subst (λ (n : ℕ × ReconValue). n.0 + 1 ≡ stages n.1) (λ i. (have.leads.stage_is i, have.leads.recon_is i)) counted, whole_if_reported all, at, record { hears = hears; ended = sym is ∙ ap Ok same })
    where
      chosen : {E : Type 0} (a : E) (may : Bool) → Ok found ≡ (if may then Ok at else Err a) → (may ≡ true) × (found ≡ at)
      chosen a true is = (refl, ap (λ answer. unwrap_or (result_ok answer) at) is)
      chosen a false is = absurd (true≢false (ap is_ok is))

  -- a report is missing
  misses : IsOpening o → have_reported at ≡ false → Leads o stage (is_marked_complete whole) Missing
  misses is none = λ all. true≢false (sym (reported_if_whole is all) ∙ none)

  -- in the last stage, where it doesn't end the move
  pub stays_last : IsOpening o → is_last at ≡ true → (found : Refused StageValue FinishFault) → Err found ≡ answer_to_finish at → Leads o stage (is_marked_complete whole) Missing
  stays_last is last found answer = misses is (ap (λ b. b && have_reported at) (sym last) ∙ chosen _ (is_last at && have_reported at) answer)
    where
      chosen : (a : Refused StageValue FinishFault) (may : Bool) → Err found ≡ (if may then Ok at else Err a) → may ≡ false
      chosen a true is = absurd (true≢false (sym (ap is_ok is)))
      chosen a false is = refl

  -- in another one, where it doesn't continue; and the leader stays as it was
  refused : (found : Refused StageValue NextFault) → Err found ≡ answer_to_next at → (found.leader ≡ at) × (found.fault ≡ NotFinished → have_reported at ≡ false)
  refused found answer = chosen (is_last at) (have_reported at) answer
    where
      fault_of : Result StageValue (Refused StageValue NextFault) → Refused StageValue NextFault
      fault_of (Ok value) = found
      fault_of (Err fault) = fault

      chosen : (last all : Bool)
          → Err found ≡ (if last then Err (record { leader = at; fault = LastStage }) else (if all then Ok (next_stage at) else Err (record { leader = at; fault = NotFinished })))
          → (found.leader ≡ at) × (found.fault ≡ NotFinished → all ≡ false)
      chosen true all is = let same = ap fault_of is in (ap (λ (r : Refused StageValue NextFault). r.leader) same, λ unfinished. absurd (let both = sym (ap (λ (r : Refused StageValue NextFault). r.fault) same) ∙ unfinished in cc))
      chosen false true is = absurd (true≢false (sym (ap is_ok is)))
      chosen false false is = (ap (λ r. (fault_of r).leader) is, λ unfinished. refl)

  pub stays_between : IsOpening o → (found : Refused StageValue NextFault) → Err found ≡ answer_to_next at → found.fault ≡ NotFinished → Leads o stage (is_marked_complete whole) Missing
  stays_between is found answer unfinished = misses is ((refused found answer).1 unfinished)

  pub same_stage : (found : Refused StageValue NextFault) → Err found ≡ answer_to_next at → found.leader.stage ≡ stage
  same_stage found answer = ap (λ (s : StageValue). s.stage) (refused found answer).0 ∙ have.leads.stage_is
