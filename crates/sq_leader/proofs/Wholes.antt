-- The segments that move into a partition in a stage, and whether each of them is whole.
use Rattle.std.proofs.Common.{◌≡◌, inl, inr, ℕ, zero, suc, ◌+◌, ◌<◌, ◌≤◌, Bool, true, false, ◌||◌, not, List, length, get_or, refl, sym, ap, ◌∙◌, arith}
use Rattle.std.specs.Prelude.{◌==◌, ◌&&◌, if◌then◌else◌, Some, None}
use Rattle.std.specs.List.{list_all, range_with_len}
use Rattle.std.proofs.lemmas.List.FromFn.{length-range_with_len, get_or-range_with_len}
use Rattle.std.proofs.lemmas.Bool.{cases_lt, or_cases, not-true, both_ways}
use Rattle.std.proofs.lemmas.List.Folds.{list_all_at}
use Rattle.std.proofs.lemmas.List.Sums.{AllPass-from_list_all}
use Rattle.std.proofs.lemmas.Option.{slice_get-get_or, slice_get_past}
use Rattle.sq_moves.specs.declared.recon.Range.{Range}
use Rattle.sq_moves.specs.ReconValue.{ReconValue, stage_in, of_stage, goes_into, moves_into}
use Rattle.sq_leader.specs.Segments.{is_marked_complete, all_marked_complete}

-- each number passes
pub all_pass : (p : ℕ → Bool) (a n : ℕ) → ((k : ℕ) → a ≤ k → k < a + n → p k ≡ true) → list_all p (range_with_len a n) ≡ true
all_pass p a zero each = refl
all_pass p a (suc n) each =
    let here : p a ≡ true = each a (omega arith) (omega arith) in
    rw here (all_pass p (a + 1) n (λ k low high. each k (omega arith) (omega arith)))

pub one_fails : (p : ℕ → Bool) (n k : ℕ) → k < n → p k ≡ false → list_all p (range_with_len 0 n) ≡ false
one_fails p n k lt fails =
    list_all_at p (range_with_len 0 n) k 0 (omega (arith, length-range_with_len 0 n))
    (ap p (get_or-range_with_len 0 n k 0 lt) ∙ ap p (omega arith) ∙ fails)

-- a segment moves into the partition in the stage just where it is of the stage and that is its destination
goes_into-of_stage : (recon : ReconValue) (stage part : ℕ) (segment : Range) → goes_into (of_stage recon stage (Some segment)) part ≡ ((stage_in recon segment == stage) && (segment.dst == part))
goes_into-of_stage recon stage part segment = by_case (stage_in recon segment == stage)
  where
    by_case : (now : Bool) → goes_into (if now then Some segment else None) part ≡ (now && (segment.dst == part))
    by_case true = refl
    by_case false = refl

pub is_into-at : (recon : ReconValue) (stage part seg : ℕ) (d : Range) → seg < length recon.segments
    → moves_into recon stage part seg ≡ ((stage_in recon (get_or recon.segments seg d) == stage) && ((get_or recon.segments seg d).dst == part))
is_into-at recon stage part seg d lt =
    ap (λ found. goes_into (of_stage recon stage found) part) (slice_get-get_or recon.segments seg d lt) ∙ goes_into-of_stage recon stage part (get_or recon.segments seg d)

-- nothing past the last segment does
is_into-past : (recon : ReconValue) (stage part seg : ℕ) → length recon.segments ≤ seg → moves_into recon stage part seg ≡ false
is_into-past recon stage part seg past = ap (λ found. goes_into (of_stage recon stage found) part) (slice_get_past recon.segments seg past)

-- a segment is missing if it moves into the partition in the stage and isn't whole
pub is_missing-at : (recon : ReconValue) (stage part seg : ℕ) (whole : List Bool) (segment : Range) → seg < length recon.segments → segment ≡ get_or recon.segments seg segment
    → (not (moves_into recon stage part seg) || is_marked_complete whole seg) ≡ (not ((stage_in recon segment == stage) && (segment.dst == part)) || is_marked_complete whole seg)
is_missing-at recon stage part seg whole segment lt is =
    let goes : moves_into recon stage part seg ≡ ((stage_in recon segment == stage) && (segment.dst == part)) =
    is_into-at recon stage part seg segment lt ∙ ap (λ (range : Range). (stage_in recon range == stage) && (range.dst == part)) (sym is) in
    ap (λ b. not b || is_marked_complete whole seg) goes

-- one that moves elsewhere isn't
elsewhere : (now done : Bool) → (not (now && false) || done) ≡ true
elsewhere true done = refl
elsewhere false done = refl

pub moves_elsewhere : (now here done : Bool) → here ≡ false → (not (now && here) || done) ≡ true
moves_elsewhere now here done away = (λ i. not (now && away i) || done) ∙ elsewhere now done

-- where all are whole that move into the partition in the stage, each that does is whole
pub each_whole : (recon : ReconValue) (stage : ℕ) (whole : List Bool) (part : ℕ) → all_marked_complete recon stage whole part ≡ true → (seg : ℕ) → moves_into recon stage part seg ≡ true → is_marked_complete whole seg ≡ true
each_whole recon stage whole part all seg goes = elim (cases_lt seg (length recon.segments)) [
  | inl lt ↦
      let count = length recon.segments in
      let at : get_or (range_with_len 0 count) seg 0 ≡ seg = get_or-range_with_len 0 count seg 0 lt ∙ omega arith in
      let test : ℕ → Bool = λ k. not (moves_into recon stage part k) || is_marked_complete whole k in
      let here : (not (moves_into recon stage part seg) || is_marked_complete whole seg) ≡ true =
      ap test (sym at) ∙ AllPass-from_list_all test (range_with_len 0 count) all seg 0 (omega (arith, length-range_with_len 0 count, lt)) in
      elim (or_cases (not (moves_into recon stage part seg)) (is_marked_complete whole seg) here) [
        | inl away ↦ absurd (both_ways (moves_into recon stage part seg) (not-true (moves_into recon stage part seg) away) goes)
        | inr done ↦ done
      ]
  | inr past ↦ absurd (both_ways (moves_into recon stage part seg) (is_into-past recon stage part seg past) goes)
]
