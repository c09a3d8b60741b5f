-- Marks of partitions, and whose they are.
use Rattle.std.proofs.Common.{◌≡◌, inl, inr, ℕ, zero, suc, ◌+◌, ◌<◌, ◌≤◌, Bool, true, false, List, [], ◌∷◌, length, refl, sym, ap, ◌∙◌, arith, get_or-set_same, get_or-set_other}
use Rattle.std.specs.Prelude.{◌==◌, ◌&&◌, nat_lt}
use Rattle.std.specs.List.{list_any, list_all, range_with_len}
use Rattle.std.proofs.lemmas.Bool.{cases_eq, cases_lt, eq-eqb, ne_eqb, lt-ltb, le-ltb}
use Rattle.std.proofs.lemmas.List.{length-set, length-replicate, get_or-replicate}
use Rattle.std.proofs.Math.Bool.{and-true}
use Rattle.std.proofs.Math.Seq.{set_out}
use Rattle.std.proofs.Math.ListN.{get_or-eq_default}
use Rattle.sq_leader.specs.Marks.{none_marked, is_marked, with_mark, all_marked, marks_after}

-- there are as many marks as partitions, whoever reported
pub length-marks_after : (parts : ℕ) (told : List ℕ) → length (marks_after parts told) ≡ parts
length-marks_after parts [] = length-replicate parts false
length-marks_after parts (part ∷ told) = length-set (marks_after parts told) part true ∙ length-marks_after parts told

-- a partition that there isn't has no mark
is_marked-past : (marks : List Bool) (part : ℕ) → length marks ≤ part → is_marked marks part ≡ false
is_marked-past marks part past = get_or-eq_default marks false past

-- nobody is marked at first
pub is_marked-none_marked : (parts part : ℕ) → is_marked (none_marked parts) part ≡ false
is_marked-none_marked parts part = elim (cases_lt part parts) [
  | inl lt ↦ get_or-replicate parts part false false lt
  | inr past ↦ is_marked-past (none_marked parts) part (omega (arith, length-replicate parts false))
]

-- whoever reported is marked, if there is such a partition
is_marked-with_mark : (marks : List Bool) (one part : ℕ) → one ≡ part → is_marked (with_mark marks one) part ≡ nat_lt part (length marks)
is_marked-with_mark marks one part same = elim (cases_lt part (length marks)) [
  | inl lt ↦
      ap (λ k. is_marked (with_mark marks one) k) (sym same) ∙ get_or-set_same marks one true false (omega (arith, lt, same))
      ∙ sym (lt-ltb part (length marks) lt)
  | inr past ↦
      ap (λ after. is_marked after part) (set_out marks one true (omega (arith, past, same))) ∙ is_marked-past marks part past
      ∙ sym (le-ltb part (length marks) past)
]

-- just those are marked that there are and that reported
pub is_marked-marks_after : (parts : ℕ) (told : List ℕ) (part : ℕ) → is_marked (marks_after parts told) part ≡ (list_any (λ one. one == part) told && nat_lt part parts)
is_marked-marks_after parts [] part = is_marked-none_marked parts part
is_marked-marks_after parts (one ∷ told) part = elim (cases_eq one part) [
  | inl same ↦
      let here : (one == part) ≡ true = eq-eqb one part same in
      rw here (is_marked-with_mark (marks_after parts told) one part same ∙ ap (nat_lt part) (length-marks_after parts told))
  | inr other ↦
      let away : (one == part) ≡ false = ne_eqb one part other in
      rw away (get_or-set_other (marks_after parts told) one part true false (λ same. other (sym same)) ∙ is_marked-marks_after parts told part)
]

-- tests of each number of a range that agree
pub same_within : (p q : ℕ → Bool) (a n : ℕ) → ((k : ℕ) → a ≤ k → k < a + n → p k ≡ q k) → list_all p (range_with_len a n) ≡ list_all q (range_with_len a n)
same_within p q a zero each = refl
same_within p q a (suc n) each =
    let here : p a ≡ q a = each a (omega arith) (omega arith) in
    let rest : list_all p (range_with_len (a + 1) n) ≡ list_all q (range_with_len (a + 1) n) =
    same_within p q (a + 1) n (λ k low high. each k (omega arith) (omega arith)) in
    rw (here, rest)

-- each partition is marked just where each number of one is
by_part : (marks : List Bool) (q : ℕ → Bool) (a : ℕ) → ((i : ℕ) → i < length marks → q (a + i) ≡ is_marked marks i) → list_all q (range_with_len a (length marks)) ≡ all_marked marks
by_part [] q a same = refl
by_part (mark ∷ marks) q a same =
    let here : q a ≡ mark = ap q (omega arith) ∙ same 0 (omega arith) in
    let rest : list_all q (range_with_len (a + 1) (length marks)) ≡ all_marked marks =
    by_part marks q (a + 1) (λ i lt. ap q (omega arith) ∙ same (suc i) (omega arith)) in
    rw (here, rest)

pub all_marked-by_part : (marks : List Bool) → all_marked marks ≡ list_all (is_marked marks) (range_with_len 0 (length marks))
all_marked-by_part marks = sym (by_part marks (is_marked marks) 0 (λ i lt. ap (is_marked marks) (omega arith)))

-- each partition is marked just where each reported
pub all_marked-marks_after : (parts : ℕ) (told : List ℕ) → all_marked (marks_after parts told) ≡ list_all (λ part. list_any (λ one. one == part) told) (range_with_len 0 parts)
all_marked-marks_after parts told =
    all_marked-by_part (marks_after parts told)
    ∙ ap (λ n. list_all (is_marked (marks_after parts told)) (range_with_len 0 n)) (length-marks_after parts told)
    ∙ same_within (is_marked (marks_after parts told)) (λ part. list_any (λ one. one == part) told) 0 parts (λ part low high.
    is_marked-marks_after parts told part ∙ ap (λ b. list_any (λ one. one == part) told && b) (lt-ltb part parts (omega arith)) ∙ and-true (list_any (λ one. one == part) told))
