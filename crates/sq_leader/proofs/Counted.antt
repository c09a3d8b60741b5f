-- Partitions that count as having reported: those into which no segment moves in the stage count too.
use Rattle.std.proofs.Common.{◌≡◌, inl, inr, ℕ, ◌<◌, ◌||◌, Bool, true, length, get_or, refl, sym, ap, ◌∙◌, arith}
use Rattle.std.specs.Prelude.{not, nat_lt, ◌==◌}
use Rattle.std.specs.List.{list_any, list_all, range_with_len}
use Rattle.std.proofs.lemmas.Bool.{cases_Bool, eq-eqb, eqb-true, ltb-true, and_parts, and_from, or_cases, or_left, or_right, not_from_false, not-true, false_from_ne_true, both_ways}
use Rattle.std.proofs.lemmas.List.FromFn.{length-range_with_len, get_or-range_with_len}
use Rattle.std.proofs.lemmas.List.Folds.{Any-from_list_any, list_any_at}
use Rattle.std.proofs.lemmas.List.Sums.{AllPass-from_list_all, list_all-from_AllPass}
use Rattle.sq_moves.specs.declared.recon.Range.{Range}
use Rattle.sq_moves.specs.ReconValue.{ReconValue, stage_in, moves_into}
use Rattle.sq_leader.specs.LeaderValue.{StageValue}
use Rattle.sq_leader.specs.Marks.{is_marked}
use Rattle.sq_leader.specs.Segments.{have_reported, owes_no_report}
use Rattle.sq_leader.proofs.Wholes.{all_pass, is_into-at}

abbrev no_range : Range
no_range = record { lo = 0; hi = 0; src = 0; dst = 0 }

module _ (recon : ReconValue) (stage : ℕ) (told : ℕ → Bool) where
  -- some segment moves into the partition in the stage
  abbrev has_any : ℕ → Bool
  has_any part = list_any (moves_into recon stage part) (range_with_len 0 (length recon.segments))

  -- the segment moves in another stage, or its destination reported
  abbrev is_told : Range → Bool
  is_told segment = not (stage_in recon segment == stage) || told segment.dst

  -- the partition reported, or no segment moves into it
  abbrev counts : ℕ → Bool
  counts part = told part || not (has_any part)

  -- the destination of a segment of the stage has one that moves into it
  has_any-dst : (seg : ℕ) (d : Range) → seg < length recon.segments → (stage_in recon (get_or recon.segments seg d) == stage) ≡ true
      → has_any (get_or recon.segments seg d).dst ≡ true
  has_any-dst seg d lt now =
      let count = length recon.segments in
      let dst = (get_or recon.segments seg d).dst in
      let at : get_or (range_with_len 0 count) seg 0 ≡ seg = get_or-range_with_len 0 count seg 0 lt ∙ omega arith in
      list_any_at (moves_into recon stage dst) (range_with_len 0 count) seg 0 (omega (arith, length-range_with_len 0 count, lt))
      (ap (moves_into recon stage dst) at ∙ is_into-at recon stage dst seg d lt ∙ and_from (stage_in recon (get_or recon.segments seg d) == stage) (dst == dst) now (eq-eqb dst dst refl))

  -- a partition into which a segment moves reported, where all of those did
  told_there : (part : ℕ) → list_all is_told recon.segments ≡ true → has_any part ≡ true → told part ≡ true
  told_there part all some =
      let count = length recon.segments in
      let (at, seg, within, is, goes) = Any-from_list_any (moves_into recon stage part) (range_with_len 0 count) some in
      let low : at < count = omega (arith, within, length-range_with_len 0 count) in
      let here : seg ≡ at = sym is ∙ get_or-range_with_len 0 count at seg low ∙ omega arith in
      let segment = get_or recon.segments at no_range in
      let parts = and_parts (stage_in recon segment == stage) (segment.dst == part)
      (sym (is_into-at recon stage part at no_range low) ∙ ap (moves_into recon stage part) (sym here) ∙ goes) in
      elim (or_cases (not (stage_in recon segment == stage)) (told segment.dst) (AllPass-from_list_all is_told recon.segments all at no_range low)) [
        | inl other ↦ absurd (both_ways (stage_in recon segment == stage) (not-true (stage_in recon segment == stage) other) parts.0)
        | inr did ↦ ap told (sym (eqb-true segment.dst part parts.1)) ∙ did
      ]

  -- where all of those did, each partition counts
  counted : (part : ℕ) → list_all is_told recon.segments ≡ true → counts part ≡ true
  counted part all = elim (cases_Bool (has_any part)) [
    | inl some ↦ or_left (told part) (not (has_any part)) (told_there part all some)
    | inr none ↦ or_right (told part) (not (has_any part)) (not_from_false (has_any part) none)
  ]

  -- a partition that counts reported, if a segment moves into it
  told_if_counted : (part : ℕ) → counts part ≡ true → has_any part ≡ true → told part ≡ true
  told_if_counted part does some = elim (or_cases (told part) (not (has_any part)) does) [
    | inl did ↦ did
    | inr none ↦ absurd (both_ways (has_any part) (not-true (has_any part) none) some)
  ]

  -- where each of the partitions counts, those reported into which a segment moves
  all_if_counted : (parts : ℕ) → list_all (λ segment. nat_lt segment.dst parts) recon.segments ≡ true → list_all counts (range_with_len 0 parts) ≡ true → list_all is_told recon.segments ≡ true
  all_if_counted parts exist each =
      list_all-from_AllPass is_told recon.segments (λ seg d lt.
      let segment = get_or recon.segments seg d in
      let there : segment.dst < parts = ltb-true segment.dst parts (AllPass-from_list_all (λ range. nat_lt range.dst parts) recon.segments exist seg d lt) in
      let at : get_or (range_with_len 0 parts) segment.dst 0 ≡ segment.dst = get_or-range_with_len 0 parts segment.dst 0 there ∙ omega arith in
      let does : counts segment.dst ≡ true =
      ap counts (sym at) ∙ AllPass-from_list_all counts (range_with_len 0 parts) each segment.dst 0 (omega (arith, length-range_with_len 0 parts, there)) in
      elim (cases_Bool (stage_in recon segment == stage)) [
        | inl now ↦ or_right (not (stage_in recon segment == stage)) (told segment.dst) (told_if_counted segment.dst does (has_any-dst seg d lt now))
        | inr other ↦ or_left (not (stage_in recon segment == stage)) (told segment.dst) (not_from_false (stage_in recon segment == stage) other)
      ])

  -- where each segment moves into one of the partitions, those into which one moves reported just where each of the
  -- partitions counts
  pub told-counted : (parts : ℕ) → list_all (λ segment. nat_lt segment.dst parts) recon.segments ≡ true
      → list_all (λ segment. not (stage_in recon segment == stage) || told segment.dst) recon.segments
      ≡ list_all (λ part. told part || not (list_any (moves_into recon stage part) (range_with_len 0 (length recon.segments)))) (range_with_len 0 parts)
  told-counted parts exist = elim (cases_Bool (list_all is_told recon.segments)) [
    | inl all ↦ all ∙ sym (all_pass counts 0 parts (λ part low high. counted part all))
    | inr not_all ↦
        not_all
        ∙ sym (false_from_ne_true (list_all counts (range_with_len 0 parts)) (λ each.
        both_ways (list_all is_told recon.segments) not_all (all_if_counted parts exist each)))
  ]

pub have_reported-counted : (at : StageValue) → list_all (λ segment. nat_lt segment.dst (length at.reported)) at.recon.segments ≡ true
    → have_reported at ≡ list_all (owes_no_report at) (range_with_len 0 (length at.reported))
have_reported-counted at exist = told-counted at.recon at.stage (is_marked at.reported) (length at.reported) exist
