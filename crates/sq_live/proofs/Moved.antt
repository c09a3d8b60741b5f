-- Which segments are complete, by marks of them, and how many.
use Rattle.std.proofs.Common.{◌≡◌, ◌⊎◌, inl, inr, ℕ, zero, suc, ◌+◌, ◌<◌, ◌≤◌, Bool, true, false, List, [], ◌∷◌, length, get_or, refl, sym, ap, ◌∙◌, true≢false, arith}
use Rattle.std.specs.Prelude.{◌&&◌, ◌||◌, cond, count_by, nat_lt, slice_get, Some}
use Rattle.std.specs.List.{list_all, range_with_len}
use Rattle.std.proofs.lemmas.Bool.{cases_Bool, cases_lt, and_parts, lt-ltb, ltb-true, or_left, or_right, or_cases}
use Rattle.std.proofs.lemmas.List.FromFn.{length-range_with_len, get_or-range_with_len}
use Rattle.std.proofs.lemmas.List.Sums.{count_by-le-length, AllPass-from_list_all}
use Rattle.std.proofs.lemmas.Option.{slice_get-get_or, slice_get_within}
use Rattle.sq_moves.specs.declared.recon.Range.{Range}
use Rattle.sq_moves.specs.ReconValue.{stage_in, stage_at, stage_found, stages}
use Rattle.sq_moves.specs.OpeningValue.{OpeningValue}
use Rattle.sq_moves.specs.Opening.{IsOpening}
use Rattle.sq_moves.proofs.Stages.{stage_below}
use Rattle.sq_leader.proofs.Wholes.{all_pass}
use Rattle.sq_model.proofs.Keys.{linked}
use Rattle.sq_node_model.specs.Gathered.{GatheredValue}
use Rattle.sq_node_model.specs.Next.{is_complete_in, IsStageDone}
use Rattle.sq_audit.proofs.Knowing.{count_first}
use Rattle.sq_live.specs.Outcome.{segment_has_moved, moved_count}
use Rattle.sq_live.specs.Judged.{MarksMoved, marked_count}

-- all are counted where all pass
all_counted : {X : Type 0} (p : X → Bool) (xs : List X) → list_all p xs ≡ true → count_by p xs ≡ length xs
all_counted p [] all = refl
all_counted p (x ∷ xs) all =
    let parts = and_parts (p x) (list_all p xs) all in
    let rest = all_counted p xs parts.1 in
    let first : count_by p (x ∷ xs) ≡ 1 + count_by p xs = count_first p x xs ∙ ap (λ b. cond b 1 0 + count_by p xs) parts.0 in
    let e : count_by p (x ∷ xs) ≡ length (x ∷ xs) = omega (arith, first, rest) in
    e

-- and fewer where one fails
one_uncounted : {X : Type 0} (p : X → Bool) (xs : List X) → list_all p xs ≡ false → count_by p xs < length xs
one_uncounted p [] none = absurd (true≢false none)
one_uncounted p (x ∷ xs) fails = elim (cases_Bool (p x)) [
  | inl here ↦
      let first : count_by p (x ∷ xs) ≡ 1 + count_by p xs = count_first p x xs ∙ ap (λ b. cond b 1 0 + count_by p xs) here in
      let rest = one_uncounted p xs (ap (λ b. b && list_all p xs) (sym here) ∙ fails) in
      let e : count_by p (x ∷ xs) < length (x ∷ xs) = omega (arith, first, rest) in
      e
  | inr here ↦
      let first : count_by p (x ∷ xs) ≡ 0 + count_by p xs = count_first p x xs ∙ ap (λ b. cond b 1 0 + count_by p xs) here in
      let most = count_by-le-length p xs in
      let e : count_by p (x ∷ xs) < length (x ∷ xs) = omega (arith, first, most) in
      e
]

-- tests of each number of a range that agree count as many
same_count : (p q : ℕ → Bool) (a n : ℕ) → ((k : ℕ) → a ≤ k → k < a + n → p k ≡ q k) → count_by p (range_with_len a n) ≡ count_by q (range_with_len a n)
same_count p q a zero each = refl
same_count p q a (suc n) each =
    let rest : count_by p (range_with_len (a + 1) n) ≡ count_by q (range_with_len (a + 1) n) = same_count p q (a + 1) n (λ k low high. each k (omega arith) (omega arith)) in
    count_first p a (range_with_len (a + 1) n)
    ∙ ap (λ b. cond b 1 0 + count_by p (range_with_len (a + 1) n)) (each a (omega arith) (omega arith))
    ∙ ap (λ n. cond (q a) 1 0 + n) rest
    ∙ sym (count_first q a (range_with_len (a + 1) n))

-- a number below another, or the same, or above it
below_or_at : (a b : ℕ) → a ≤ b → (a < b) ⊎ (a ≡ b)
below_or_at a b le = elim (cases_lt a b) [
  | inl lt ↦ inl lt
  | inr ge ↦ inr (omega (arith, le, ge))
]

module _ (o : OpeningValue) (g : GatheredValue) (is : IsOpening o) where
  -- where marks say which segments are complete, as many count
  pub marks_counted : (moved : List Bool) → MarksMoved g.statuses moved → marked_count o.recon g.stage moved ≡ moved_count o g
  marks_counted moved each = same_count _ (segment_has_moved o g) 0 (length o.recon.segments) (λ seg low high.
      let few = is.few_segments in
      ap (λ b. nat_lt (stage_at o.recon seg) g.stage || b) (each seg (omega (arith, high, few))))

  -- after the last stage, each segment counts once those of the stage are complete
  pub all_moved : g.stage + 1 ≡ stages o.recon → IsStageDone o g → moved_count o g ≡ length o.recon.segments
  all_moved last done =
      let segments = o.recon.segments in
      all_counted (segment_has_moved o g) (range_with_len 0 (length segments)) (all_pass (segment_has_moved o g) 0 (length segments) (λ seg low high.
      has seg (omega (arith, high))))
      ∙ length-range_with_len 0 (length segments)
    where
      has : (seg : ℕ) → seg < length o.recon.segments → segment_has_moved o g seg ≡ true
      has seg lt =
          let segments = o.recon.segments in
          let none : Range = record { lo = 0; hi = 0; src = 0; dst = 0 } in
          let segment = get_or segments seg none in
          let there = slice_get-get_or segments seg none lt in
          let at : stage_at o.recon seg ≡ stage_in o.recon segment = ap (stage_found o.recon) there in
          let below : stage_in o.recon segment < stages o.recon = stage_below o.recon segment.src segment.dst (linked o is seg segment there) in
          elim (below_or_at (stage_in o.recon segment) g.stage (omega (arith, below, last))) [
            | inl earlier ↦ or_left (nat_lt (stage_at o.recon seg) g.stage) (is_complete_in g seg) (ap (λ n. nat_lt n g.stage) at ∙ lt-ltb (stage_in o.recon segment) g.stage earlier)
            | inr now ↦ or_right (nat_lt (stage_at o.recon seg) g.stage) (is_complete_in g seg) (done seg segment there now)
          ]

  -- where one of the stage isn't complete, fewer count than there are
  pub one_unmoved : (IsStageDone o g → ⊥) → moved_count o g < length o.recon.segments
  one_unmoved missing = elim (cases_Bool (list_all (segment_has_moved o g) (range_with_len 0 (length o.recon.segments)))) [
    | inl all ↦ absurd (missing (λ seg segment there now. of_all seg segment there now all))
    | inr fails ↦
        let fewer = one_uncounted (segment_has_moved o g) (range_with_len 0 (length o.recon.segments)) fails in
        omega (arith, fewer, length-range_with_len 0 (length o.recon.segments))
  ]
    where
      of_all : (seg : ℕ) (segment : Range) → slice_get o.recon.segments seg ≡ Some segment → stage_in o.recon segment ≡ g.stage
          → list_all (segment_has_moved o g) (range_with_len 0 (length o.recon.segments)) ≡ true → is_complete_in g seg ≡ true
      of_all seg segment there now all =
          let count = length o.recon.segments in
          let lt = slice_get_within o.recon.segments seg segment there in
          let at : get_or (range_with_len 0 count) seg 0 ≡ seg = get_or-range_with_len 0 count seg 0 lt ∙ omega arith in
          let here : segment_has_moved o g seg ≡ true = ap (segment_has_moved o g) (sym at) ∙ AllPass-from_list_all (segment_has_moved o g) (range_with_len 0 count) all seg 0 (omega (arith, length-range_with_len 0 count, lt)) in
          elim (or_cases (nat_lt (stage_at o.recon seg) g.stage) (is_complete_in g seg) here) [
            | inl earlier ↦
                let under = ltb-true (stage_at o.recon seg) g.stage earlier in
                let same : stage_at o.recon seg ≡ g.stage = ap (stage_found o.recon) there ∙ now in
                absurd (omega (arith, under, same))
            | inr whole ↦ whole
          ]
