-- As many chunks are cut as are counted before a move.
use Rattle.std.proofs.Common.{◌≡◌, ℕ, zero, suc, ◌+◌, ◌-◌, ◌≤◌, max, nat_le, Bool, true, false, if◌then◌else◌, List, [], ◌∷◌, ◌++◌, map, length, take, drop, Some, refl, sym, ap, ◌∙◌, arith}
use Rattle.std.proofs.lemmas.List.{take-append-drop, length-take-le, length-append}
use Rattle.std.proofs.Math.Seq.{drop-append_seam}
use Rattle.std.specs.Prelude.{slice_range}
use Rattle.sq_schema.specs.Family.{FamilyValue}
use Rattle.sq_store.specs.StoreValue.{StoreValue, families_between, take_end}
use Rattle.sq_store.specs.InOrder.{families_in, HoldsByRoot}
use Rattle.sq_store.specs.Counting.{family_size, fitting, chunk_count, chunk_of}
use Rattle.sq_store.proofs.Counts.{count_within}
use Rattle.sq_store.proofs.Lists.{IsListed, listed}
use Rattle.sq_store.proofs.Places.{starts_rise}
use Rattle.sq_store.proofs.Between.{entries-rooted}
use Rattle.sq_store.proofs.Spans.{between-store_of}
use Rattle.sq_store.proofs.Cuts.{count_fits, cut_between}
use Rattle.sq_store.proofs.Betweens.{has_start}
use Rattle.sq_picture.specs.Cutting.{chunks_from, chunks_to_cut}
use Rattle.sq_laws.specs.Cuts.{AreCutInto}

abbrev sizes_of : List FamilyValue → List ℕ
sizes_of families = map family_size families

-- how many chunks these take; none where there are none
abbrev count_left : ℕ → List FamilyValue → ℕ
count_left limit [] = 0
count_left limit (family ∷ families) = chunks_to_cut limit (sizes_of (family ∷ families))

plus_none : (n : ℕ) → 0 + n ≡ n
plus_none n = omega arith

-- one family more, which fits or doesn't
module _ (limit room : ℕ) (family : FamilyValue) (families : List FamilyValue) where
  abbrev more : Bool → ℕ
  more fits = (if fits then 0 else 1) + chunks_from limit (Some (if fits then room - family_size family else limit - family_size family)) (sizes_of families)

  abbrev behind : Bool → ℕ
  behind fits = 1 + count_left limit (drop (if fits then suc (fitting (room - family_size family) families) else 0) (family ∷ families))

  by_room : (fits : Bool) → nat_le (family_size family) room ≡ fits
      → chunks_from limit (Some (room - family_size family)) (sizes_of families) ≡ 1 + count_left limit (drop (fitting (room - family_size family) families) families)
      → more (nat_le (family_size family) room) ≡ behind (nat_le (family_size family) room)
  by_room true fits rest = ap more fits ∙ plus_none (chunks_from limit (Some (room - family_size family)) (sizes_of families)) ∙ rest ∙ sym (ap behind fits)
  by_room false fits rest = ap more fits ∙ ap (λ n. 1 + n) (sym (plus_none (chunks_from limit (Some (limit - family_size family)) (sizes_of families)))) ∙ sym (ap behind fits)

-- a chunk with some room takes what fits, and further ones the rest
then_rest : (limit room : ℕ) (families : List FamilyValue) → chunks_from limit (Some room) (sizes_of families) ≡ 1 + count_left limit (drop (fitting room families) families)
then_rest limit room [] = refl
then_rest limit room (family ∷ families) =
    by_room limit room family families (nat_le (family_size family) room) refl (then_rest limit (room - family_size family) families)

-- what is left behind a chunk
left_is : (limit : ℕ) (all chunk left : List FamilyValue) → all ≡ chunk ++ left → chunk ≡ chunk_of limit all → left ≡ drop (chunk_count limit all) all
left_is limit all chunk left are is =
    let long : length chunk ≡ chunk_count limit all = ap length is ∙ length-take-le (chunk_count limit all) all (count_within limit all) in
    sym (drop-append_seam chunk left) ∙ ap (λ (families : List FamilyValue). drop (length chunk) families) (sym are) ∙ ap (λ n. drop n all) long

counted : (limit : ℕ) (chunks : List (List FamilyValue)) (families : List FamilyValue) → AreCutInto limit families chunks → count_left limit families ≡ length chunks
counted limit chunks [] none = ap length (sym none)
counted limit [] (family ∷ families) cut = absurd cut
counted limit (chunk ∷ chunks) (family ∷ families) cut =
    let rest : cut.0 ≡ drop (fitting (limit - family_size family) families) families = left_is limit (family ∷ families) chunk cut.0 cut.1 cut.2 in
    plus_none (chunks_from limit (Some (limit - family_size family)) (sizes_of families))
    ∙ then_rest limit (limit - family_size family) families
    ∙ ap (λ (left : List FamilyValue). 1 + count_left limit left) (sym rest)
    ∙ ap (λ n. 1 + n) (counted limit chunks cut.0 cut.3)
    ∙ one_more (length chunks)
  where
    one_more : (n : ℕ) → 1 + n ≡ suc n
    one_more n = omega arith

pub as_many : (limit : ℕ) (families : List FamilyValue) (chunks : List (List FamilyValue)) → AreCutInto limit families chunks → chunks_to_cut limit (map family_size families) ≡ max 1 (length chunks)
as_many limit [] chunks none = ap (λ (cs : List (List FamilyValue)). max 1 (length cs)) (sym none)
as_many limit (family ∷ families) [] cut = absurd cut
as_many limit (family ∷ families) (chunk ∷ chunks) cut = counted limit (chunk ∷ chunks) (family ∷ families) cut ∙ some (length chunks)
  where
    some : (n : ℕ) → suc n ≡ max 1 (suc n)
    some n = omega arith

-- there is such a list of chunks, of families that are at most so many
some_cuts : (limit most : ℕ) (families : List FamilyValue) → length families ≤ most → (chunks : List (List FamilyValue)) × AreCutInto limit families chunks
some_cuts limit most [] few = ([], refl)
some_cuts limit zero (family ∷ families) few = absurd (omega (arith, few))
some_cuts limit (suc most) (family ∷ families) few =
    let all : List FamilyValue = family ∷ families in
    let count = chunk_count limit all in
    let parts = take-append-drop count all in
    let taken = length-take-le count all (count_within limit all) in
    let long : length (take count all) + length (drop count all) ≡ length all = sym (length-append (take count all) (drop count all)) ∙ ap length parts in
    let rest = some_cuts limit most (drop count all) (omega (arith, few, long, taken)) in
    (take count all ∷ rest.0, (drop count all, sym parts, refl, rest.1))

pub there_are_some : (limit : ℕ) (families : List FamilyValue) → (chunks : List (List FamilyValue)) × AreCutInto limit families chunks
there_are_some limit families = some_cuts limit (length families) families (omega arith)

-- ---- of a store

take_front : (count more : ℕ) (families : List FamilyValue) → count ≤ more → take count (take more families) ≡ take count families
take_front zero more families less = refl
take_front (suc count) zero families less = absurd (omega (arith, less))
take_front (suc count) (suc more) [] less = refl
take_front (suc count) (suc more) (family ∷ families) less = ap (λ (rest : List FamilyValue). family ∷ rest) (take_front count more families (omega (arith, less)))

-- what a cut takes of a store is what a chunk takes of the families that are left
pub taken_is : (store : StoreValue) (lo hi limit : ℕ) → HoldsByRoot store → lo ≤ hi → families_between store lo (take_end store lo hi limit) ≡ chunk_of limit (families_between store lo hi)
taken_is store lo hi limit by bounds =
    let families = families_in store in
    let is : IsListed store families = listed store families (entries-rooted store (record { root = by })) in
    let low = has_start families lo is.rising in
    let high = has_start families hi is.rising in
    let rise = starts_rise families lo hi low.at high.at bounds low.is high.is in
    let rest = slice_range families low.at high.at in
    let count = chunk_count limit rest in
    let fits = count_fits families low.at high.at limit count rise high.is.within refl in
    let cut = cut_between families lo hi low.at high.at count is.rising bounds low.is high.is fits store limit (sym is.same) refl in
    let all : rest ≡ families_between store lo hi = sym (between-store_of families lo hi low.at high.at is.rising rise low.is high.is) ∙ ap (λ s. families_between s lo hi) (sym is.same) in
    let front : slice_range families low.at (low.at + count) ≡ take count rest =
    ap (λ n. take n (drop low.at families)) (let n : low.at + count - low.at ≡ count = omega arith in n)
    ∙ sym (take_front count (high.at - low.at) (drop low.at families) (omega (arith, fits))) in
    ap (families_between store lo) (sym cut.ends) ∙ sym cut.taken_is ∙ front ∙ ap (chunk_of limit) all
