-- A cut takes as many families as fit, but at least one.
use Rattle.std.proofs.Common.{◌≡◌, ⊎_elim, inl, inr, ℕ, zero, suc, true, false, List, [], ◌∷◌, length, get_or, take, drop, refl, sym, ap, subst, ◌∙◌, arith, length-take}
use Rattle.std.specs.Prelude.{◌+◌, ◌-◌, ◌<◌, ◌≤◌, ◌⊎◌, nat_le, cond, slice_range, Some, All}
use Rattle.std.specs.Option.{option_map_or}
use Rattle.std.specs.FinMap.{get}
use Rattle.std.proofs.lemmas.Bool.{lt-leb, leb-true, leb-false, cases_lt}
use Rattle.std.proofs.lemmas.List.Sums.{sum_by-cons}
use Rattle.std.proofs.lemmas.Option.{slice_get-get_or, slice_get_past}
use Rattle.sq_schema.specs.Family.{FamilyValue}
use Rattle.sq_store.specs.StoreValue.{StoreValue, absent, families_between, take_end}
use Rattle.sq_store.specs.InOrder.{families_in, HoldsByRoot}
use Rattle.sq_store.specs.Listed.{roots_rise, IsStart}
use Rattle.sq_store.specs.Counting.{family_size, fitting, chunk_count, root_after}
use Rattle.sq_store.specs.Laws.{total_size, IsFullest}
use Rattle.sq_store.proofs.Order.{first_rises, rising_upto}
use Rattle.sq_store.proofs.Lists.{IsListed, listed}
use Rattle.sq_store.proofs.Places.{starts_rise}
use Rattle.sq_store.proofs.Between.{entries-rooted}
use Rattle.sq_store.proofs.Spans.{All-middle}
use Rattle.sq_store.proofs.Cuts.{stands, count_fits, cut_between}

-- those that fit do
fitting_fits : (room : ℕ) (families : List FamilyValue) → total_size (take (fitting room families) families) ≤ room
fitting_fits room [] = omega arith
fitting_fits room (family ∷ families) =
    let size = family_size family in
    let count = fitting (room - size) families in
    let rest = fitting_fits (room - size) families in
    (elim (nat_le size room) as (λ b. nat_le size room ≡ b → total_size (take (cond b (suc count) zero) (family ∷ families)) ≤ room) [
      | true ↦ λ fits. omega (arith, rest, leb-true size room fits, sum_by-cons family_size family (take count families))
      | false ↦ λ large. omega arith
    ]) refl

-- and the next one doesn't fit with them
fitting_all : (room : ℕ) (families : List FamilyValue) (d : FamilyValue) → fitting room families < length families
    → room < total_size (take (fitting room families) families) + family_size (get_or families (fitting room families) d)
fitting_all room [] d more = absurd (omega (arith, more))
fitting_all room (family ∷ families) d more =
    let size = family_size family in
    let count = fitting (room - size) families in
    let rest = fitting_all (room - size) families d in
    (elim (nat_le size room) as (λ b. nat_le size room ≡ b → cond b (suc count) zero < suc (length families) → room < total_size (take (cond b (suc count) zero) (family ∷ families)) + family_size (get_or (family ∷ families) (cond b (suc count) zero) d)) [
      | true ↦ λ fits inside. omega (arith, rest (omega (arith, inside)), leb-true size room fits, sum_by-cons family_size family (take count families))
      | false ↦ λ large inside. omega (arith, leb-false size room large)
    ]) refl more

fitting_none : (families : List FamilyValue) → fitting 0 families ≡ 0
fitting_none [] = refl
fitting_none (family ∷ families) = ap (λ b. cond b (suc (fitting (0 - family_size family) families)) zero) (lt-leb (family_size family) 0 (omega arith))

-- what a chunk takes fits, or is one family alone
chunk_fits : (limit : ℕ) (families : List FamilyValue) → (total_size (take (chunk_count limit families) families) ≤ limit) ⊎ (length (take (chunk_count limit families) families) ≡ 1)
chunk_fits limit [] = inl (omega arith)
chunk_fits limit (family ∷ families) =
    let size = family_size family in
    let count = fitting (limit - size) families in
    ⊎_elim
    (λ (large : limit < size).
    let none : count ≡ 0 = ap (λ room. fitting room families) (omega (arith, large)) ∙ fitting_none families in
    inr (ap (λ n. suc (length (take n families))) none))
    (λ (fits : size ≤ limit). inl (omega (arith, fits, fitting_fits (limit - size) families, sum_by-cons family_size family (take count families))))
    (cases_lt limit size)

chunk_all : (limit : ℕ) (families : List FamilyValue) (d : FamilyValue) → chunk_count limit families < length families
    → limit < total_size (take (chunk_count limit families) families) + family_size (get_or families (chunk_count limit families) d)
chunk_all limit [] d more = absurd (omega (arith, more))
chunk_all limit (family ∷ families) d more =
    let room = limit - family_size family in
    omega (arith, fitting_all room families d (omega (arith, more)), sum_by-cons family_size family (take (fitting room families) families))

chunk_some : (limit : ℕ) (families : List FamilyValue) → 0 < length families → 0 < chunk_count limit families
chunk_some limit [] some = absurd (omega (arith, some))
chunk_some limit (family ∷ families) some = omega arith

-- what is taken, where the next family would go, and that each stands, make the cut the fullest
fullest_at : (store : StoreValue) (lo hi limit end : ℕ) (rest : List FamilyValue) → families_between store lo end ≡ take (chunk_count limit rest) rest → end ≡ root_after hi rest (chunk_count limit rest)
    → All (λ family. get store family.root ≡ Some family) rest → IsFullest store lo hi limit end
fullest_at store lo hi limit end rest taken ends each =
    let count = chunk_count limit rest in
    let more : end < hi → count < length rest = λ (before : end < hi).
    ⊎_elim
    (λ (inside : count < length rest). inside)
    (λ (all : length rest ≤ count). let is : end ≡ hi = ends ∙ ap (λ found. option_map_or (λ family. family.root) found hi) (slice_get_past rest count all) in absurd (omega (arith, before, is)))
    (cases_lt count (length rest)) in
    record {
      fits = subst (λ fs. (total_size fs ≤ limit) ⊎ (length fs ≡ 1)) (sym taken) (chunk_fits limit rest);
      some = λ before. omega (arith, ap length taken, length-take count rest, more before, chunk_some limit rest (omega (arith, more before)));
      next = λ before.
          let d = absent 0 in
          let family = get_or rest count d in
          let root : end ≡ family.root = ends ∙ ap (λ found. option_map_or (λ f. f.root) found hi) (slice_get-get_or rest count d (more before)) in
          (family, ap (get store) root ∙ each count d (more before), rw (ap total_size taken) (chunk_all limit rest d (more before)));
    }

take_front : (count more : ℕ) (families : List FamilyValue) → count ≤ more → take count families ≡ take count (take more families)
take_front zero more families less = refl
take_front (suc count) zero families less = absurd (omega (arith, less))
take_front (suc count) (suc more) [] less = refl
take_front (suc count) (suc more) (family ∷ families) less = ap (λ rest. family ∷ rest) (take_front count more families (omega (arith, less)))

slice_front : (families : List FamilyValue) (first last count : ℕ) → first + count ≤ last → slice_range families first (first + count) ≡ take count (slice_range families first last)
slice_front families first last count fits = ap (λ n. take n (drop first families)) (omega arith) ∙ take_front count (last - first) (drop first families) (omega (arith, fits))

start_later : (family : FamilyValue) (families : List FamilyValue) (key at : ℕ) → family.root < key → IsStart families key at → IsStart (family ∷ families) key (suc at)
start_later family families key at less is = record { within = omega (arith, is.within); below = below; from = from }
  where
    below : (k : ℕ) (d : FamilyValue) → 0 ≤ k → k < suc at → (get_or (family ∷ families) k d).root < key
    below zero d low high = less
    below (suc k) d low high = is.below k d (omega arith) (omega (arith, high))

    from : (k : ℕ) (d : FamilyValue) → suc at ≤ k → k < suc (length families) → key ≤ (get_or (family ∷ families) k d).root
    from zero d low high = absurd (omega (arith, low))
    from (suc k) d low high = is.from k d (omega (arith, low)) (omega (arith, high))

-- there is a place where the families from a root key on start
start_found : (families : List FamilyValue) (key : ℕ) → roots_rise families ≡ true → (at : ℕ) × IsStart families key at
start_found [] key rising = (0, record { within = omega arith; below = λ k d low high. absurd (omega (arith, high)); from = λ k d low high. absurd (omega (arith, high)) })
start_found (family ∷ families) key rising =
    let rest = start_found families key (first_rises family families rising).rest in
    ⊎_elim
    (λ (less : family.root < key). (suc rest.0, start_later family families key rest.0 less rest.1))
    (λ (upto : key ≤ family.root). (
      0,
      record {
        within = omega arith;
        below = λ k d low high. absurd (omega (arith, high));
        from = λ k d low high. omega (arith, upto, rising_upto (family ∷ families) 0 k d rising (omega arith) high);
      },
    ))
    (cases_lt family.root key)

pub fullest : (store : StoreValue) (lo hi limit : ℕ) → HoldsByRoot store → lo ≤ hi → (lo ≤ take_end store lo hi limit) × (take_end store lo hi limit ≤ hi) × IsFullest store lo hi limit (take_end store lo hi limit)
fullest store lo hi limit by bounds =
    let families = families_in store in
    let is : IsListed store families = listed store families (entries-rooted store (record { root = by })) in
    let low = start_found families lo is.rising in
    let high = start_found families hi is.rising in
    let rise = starts_rise families lo hi low.0 high.0 bounds low.1 high.1 in
    let rest = slice_range families low.0 high.0 in
    let count = chunk_count limit rest in
    let fits = count_fits families low.0 high.0 limit count rise high.1.within refl in
    let cut = cut_between families lo hi low.0 high.0 count is.rising bounds low.1 high.1 fits store limit (sym is.same) refl in
    let end = root_after hi rest count in
    let taken : families_between store lo end ≡ take count rest = sym cut.taken_is ∙ slice_front families low.0 high.0 count fits in
    let each = All-middle families low.0 high.0 rise high.1.within (λ family. get store family.root ≡ Some family)
    (λ k d from upto. ap (λ s. get s (get_or families k d).root) is.same ∙ stands families is.rising k d (omega (arith, upto, high.1.within))) in
    subst (λ e. (lo ≤ e) × (e ≤ hi) × IsFullest store lo hi limit e) cut.ends (cut.from bounds, cut.upto, fullest_at store lo hi limit end rest taken refl each)
