-- Where a chunk ends that takes families from a list.
use Rattle.std.proofs.Common.{◌≡◌, ⊎_elim, ℕ, true, List, [], ◌++◌, length, get_or, take, drop, refl, sym, ap, subst, ◌∙◌, arith, length-drop, length-take}
use Rattle.std.specs.Prelude.{◌+◌, ◌-◌, ◌<◌, ◌≤◌, map, slice_range, unwrap_or, Some, IsTrue}
use Rattle.std.specs.Option.{option_map_or}
use Rattle.std.specs.FinMap.{get}
use Rattle.std.proofs.lemmas.Bool.{cases_lt}
use Rattle.std.proofs.lemmas.List.{get_or-take, get_or-drop, get_or_default, take-append-drop, nil_from_length}
use Rattle.std.proofs.lemmas.Option.{slice_get-get_or, slice_get_past}
use Rattle.sq_schema.specs.Family.{FamilyValue}
use Rattle.sq_store.specs.InOrder.{are_within}
use Rattle.sq_store.specs.StoreValue.{StoreValue, absent, stored_size, take_end, families_between, without_between}
use Rattle.sq_moves.specs.CutEnd.{end_of}
use Rattle.sq_store.specs.InOrder.{HoldsByRoot}
use Rattle.sq_store.specs.Listed.{roots_rise, store_of, IsRootAt, IsStart}
use Rattle.sq_store.specs.Counting.{family_size, chunk_count, root_after}
use Rattle.sq_store.proofs.Lists.{IsListed, get_at, rooted-store_of}
use Rattle.sq_store.proofs.Places.{start_at, starts_rise}
use Rattle.sq_store.proofs.Spans.{All-middle, between-store_of, without-store_of}
use Rattle.sq_store.proofs.Counts.{count_within, end_of_is}
use Rattle.sq_store.proofs.Between.{within-between, between_none, without_none}

module _ (families : List FamilyValue) (rising : roots_rise families ≡ true) where
  -- the families are in the store of the list
  pub stands : (k : ℕ) (d : FamilyValue) → k < length families → get (store_of families) (get_or families k d).root ≡ Some (get_or families k d)
  stands k d within =
      let is : IsRootAt families (get_or families k d).root k = record { within = within; here = λ e. ap (λ f. f.root) (get_or_default families k e d within) } in
      get_at families (get_or families k d).root k d rising is

  pub sized : (k : ℕ) (d : FamilyValue) → k < length families → stored_size (store_of families) (get_or families k d).root ≡ family_size (get_or families k d)
  sized k d within = ap (λ found. family_size (unwrap_or found (absent (get_or families k d).root))) (stands k d within)

-- what a chunk takes of a store, where it ends, and the families that are left
pub record IsCut (store : StoreValue) (lo hi limit end : ℕ) (taken left : List FamilyValue) : Type 0 where
  pub ends : end ≡ take_end store lo hi limit
  pub taken_is : taken ≡ families_between store lo end
  pub left_is : IsListed (without_between store lo end) left
  pub within : IsTrue (are_within lo end taken)
  pub from : lo ≤ hi → lo ≤ end
  pub upto : end ≤ hi

pub count_fits : (families : List FamilyValue) (first last limit count : ℕ) → first ≤ last → last ≤ length families → count ≡ chunk_count limit (slice_range families first last) → first + count ≤ last
count_fits families first last limit count rise within is =
    omega (arith, is, rise, within, count_within limit (slice_range families first last), length-take (last - first) (drop first families), length-drop first families)

module _ (families : List FamilyValue) (lo hi first last count : ℕ) (rising : roots_rise families ≡ true) (bounds : lo ≤ hi) (low : IsStart families lo first) (high : IsStart families hi last) (fits : first + count ≤ last) where
  end : ℕ
  end = root_after hi (slice_range families first last) count

  rise : first ≤ last
  rise = starts_rise families lo hi first last bounds low high

  -- the families from the end on start after those that are taken
  record Ends : Type 0 where
    pub starts : IsStart families end (first + count)
    pub from : lo ≤ end
    pub upto : end ≤ hi

  ends_before : first + count < last → Ends
  unfolding end
  ends_before more =
      let d = absent 0 in
      let inside : count < last - first = omega (arith, more) in
      let long : count < length (slice_range families first last) = omega (arith, inside, high.within, length-take (last - first) (drop first families), length-drop first families) in
      let family : get_or (slice_range families first last) count d ≡ get_or families (first + count) d = get_or-take (last - first) (drop first families) count d inside ∙ get_or-drop first families count d in
      let is : end ≡ (get_or families (first + count) d).root = ap (λ found. option_map_or (λ f. f.root) found hi) (slice_get-get_or (slice_range families first last) count d long ∙ ap Some family) in
      record {
        starts = subst (λ key. IsStart families key (first + count)) (sym is) (start_at families (first + count) d rising (omega (arith, more, high.within)));
        from = omega (arith, is, low.from (first + count) d (omega arith) (omega (arith, more, high.within)));
        upto = omega (arith, is, high.below (first + count) d (omega arith) more);
      }

  ends_there : last ≤ first + count → Ends
  unfolding end
  ends_there all =
      let short : length (slice_range families first last) ≤ count = omega (arith, all, rise, high.within, length-take (last - first) (drop first families), length-drop first families) in
      let is : end ≡ hi = ap (λ found. option_map_or (λ f. f.root) found hi) (slice_get_past (slice_range families first last) count short) in
      let same : first + count ≡ last = omega (arith, all, fits) in
      record {
        starts = rw (is, same) high;
        from = omega (arith, is, bounds);
        upto = omega (arith, is);
      }

  ends_here : Ends
  ends_here = ⊎_elim ends_before ends_there (cases_lt (first + count) last)

  -- a chunk takes as many families as fit from the first on
  pub cut_between : (store : StoreValue) (limit : ℕ) → store_of families ≡ store → count ≡ chunk_count limit (slice_range families first last)
      → IsCut store lo hi limit (root_after hi (slice_range families first last) count) (slice_range families first (first + count)) (take first families ++ drop (first + count) families)
  unfolding end
  cut_between store limit is counted =
      let rest = slice_range families first last in
      let all : rest ≡ families_between store lo hi = sym (between-store_of families lo hi first last rising rise low high) ∙ ap (λ s. families_between s lo hi) is in
      let sizes = All-middle families first last rise high.within (λ family. stored_size (store_of families) family.root ≡ family_size family) (λ k d from upto. sized families rising k d (omega (arith, upto, high.within))) in
      let taken : slice_range families first (first + count) ≡ families_between store lo end = sym (between-store_of families lo end first (first + count) rising (omega arith) low ends_here.starts) ∙ ap (λ s. families_between s lo end) is in
      record {
        ends = ap (root_after hi rest) counted ∙ sym (end_of_is (stored_size (store_of families)) hi limit rest sizes)
            ∙ (λ i. end_of (stored_size (is i)) hi limit (map (λ family. family.root) (all i)));
        taken_is = taken;
        left_is = subst (λ s. IsListed (without_between s lo end) (take first families ++ drop (first + count) families)) is (without-store_of families lo end first (first + count) rising (omega arith) low ends_here.starts);
        within = ap (are_within lo end) taken ∙ within-between lo end store (record { root = subst HoldsByRoot is (rooted-store_of families rising) });
        from = λ rises. ends_here.from;
        upto = ends_here.upto;
      }

-- between bounds that fall there is nothing to take
cut_nothing : (store : StoreValue) (families : List FamilyValue) (lo hi limit first : ℕ) → roots_rise families ≡ true → store_of families ≡ store → hi < lo
    → IsCut store lo hi limit hi [] (take first families ++ drop first families)
cut_nothing store families lo hi limit first rising is falls =
    let none = between_none store lo hi (omega arith) in
    let all = take-append-drop first families in
    record {
      ends = ap (λ fs. end_of (stored_size store) hi limit (map (λ family. family.root) fs)) (sym none);
      taken_is = sym none;
      left_is = record { rising = ap roots_rise all ∙ rising; same = without_none store lo hi (omega arith) ∙ sym is ∙ ap store_of (sym all) };
      within = refl;
      from = λ rises. absurd (omega arith);
      upto = omega arith;
    }

-- a chunk takes as many families as fit from the first on, and none where the bounds fall
pub is_cut : (store : StoreValue) (families : List FamilyValue) (lo hi bound limit first last count : ℕ) → roots_rise families ≡ true → store_of families ≡ store
    → IsStart families lo first → IsStart families bound last → (lo ≤ hi → bound ≡ hi) → (hi < lo → bound ≡ lo) → count ≡ chunk_count limit (slice_range families first last)
    → IsCut store lo hi limit (root_after hi (slice_range families first last) count) (slice_range families first (first + count)) (take first families ++ drop (first + count) families)
is_cut store families lo hi bound limit first last count rising is low high rises falls counted =
    ⊎_elim
    (λ (fall : hi < lo).
    let there : IsStart families lo last = subst (λ key. IsStart families key last) (falls fall) high in
    let same : last ≡ first = omega (arith, starts_rise families lo lo first last (omega arith) low there, starts_rise families lo lo last first (omega arith) there low) in
    let none : slice_range families first last ≡ [] = nil_from_length (slice_range families first last) (omega (arith, same, length-take (last - first) (drop first families))) in
    let zero_count : count ≡ 0 = counted ∙ ap (chunk_count limit) none in
    let ends : root_after hi (slice_range families first last) count ≡ hi = (λ i. root_after hi (none i) (zero_count i)) in
    let taken : slice_range families first (first + count) ≡ [] = nil_from_length (slice_range families first (first + count)) (omega (arith, zero_count, length-take (first + count - first) (drop first families))) in
    let left : take first families ++ drop (first + count) families ≡ take first families ++ drop first families = ap (λ n. take first families ++ drop n families) (omega (arith, zero_count)) in
    subst (λ end. IsCut store lo hi limit end (slice_range families first (first + count)) (take first families ++ drop (first + count) families)) (sym ends)
    (subst (λ fs. IsCut store lo hi limit hi fs (take first families ++ drop (first + count) families)) (sym taken)
    (subst (λ fs. IsCut store lo hi limit hi [] fs) (sym left) (cut_nothing store families lo hi limit first rising is fall))))
    (λ (rise : lo ≤ hi).
    let there : IsStart families hi last = subst (λ key. IsStart families key last) (rises rise) high in
    cut_between families lo hi first last count rising rise low there (count_fits families first last limit count (starts_rise families lo hi first last rise low there) there.within counted) store limit is counted)
    (cases_lt hi lo)
