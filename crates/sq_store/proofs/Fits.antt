-- How many families of runs fit into some room.
use Rattle.std.proofs.Common.{◌≡◌, ℕ, zero, suc, Bool, true, false, List, [], ◌∷◌, ◌++◌, length, get_or, refl, sym, ap, ◌∙◌, arith, length-append}
use Rattle.std.specs.Prelude.{◌+◌, ◌-◌, ◌<◌, max, nat_le, cond, Some}
use Rattle.std.specs.Option.{option_map_or}
use Rattle.std.proofs.lemmas.Bool.{le-leb}
use Rattle.std.proofs.lemmas.Option.{slice_get-get_or, slice_get_past}
use Rattle.std.proofs.lemmas.List.{get_or_append_left, get_or-append_right}
use Rattle.sq_schema.specs.Family.{FamilyValue}
use Rattle.sq_store.specs.Counting.{family_size, fitting, chunk_count, root_after}

-- the first of a chunk always fits: with room for it alone at least a chunk is what fits
pub chunk_fits : (limit : ℕ) (family : FamilyValue) (families : List FamilyValue) → chunk_count limit (family ∷ families) ≡ fitting (max limit (family_size family)) (family ∷ families)
chunk_fits limit family families =
    let size = family_size family in
    let room : max limit size - size ≡ limit - size = omega arith in
    sym (ap (λ b. cond b (suc (fitting (max limit size - size) families)) zero) (le-leb size (max limit size) (omega arith)) ∙ ap (λ n. suc (fitting n families)) room)

-- where not all fit, no more fit with families behind them
pub fitting_part : (room : ℕ) (families more : List FamilyValue) → fitting room families < length families → fitting room (families ++ more) ≡ fitting room families
fitting_part room [] more some = absurd (omega arith)
fitting_part room (family ∷ families) more some = by_test (nat_le (family_size family) room) (fitting_part (room - family_size family) families more) some
  where
    by_test : (b : Bool) → (fitting (room - family_size family) families < length families → fitting (room - family_size family) (families ++ more) ≡ fitting (room - family_size family) families)
        → cond b (suc (fitting (room - family_size family) families)) zero < suc (length families)
        → cond b (suc (fitting (room - family_size family) (families ++ more))) zero ≡ cond b (suc (fitting (room - family_size family) families)) zero
    by_test true rest some = ap suc (rest (omega arith))
    by_test false rest some = refl

-- the root key of a family in the middle
pub root_within : (hi : ℕ) (front middle back : List FamilyValue) (count fits : ℕ) (d : FamilyValue) → count ≡ length front → fits < length middle → root_after hi (front ++ (middle ++ back)) (count + fits) ≡ (get_or middle fits d).root
root_within hi front middle back count fits d whole inside =
    let all = front ++ (middle ++ back) in
    let long : count + fits < length all = omega (arith, length-append front (middle ++ back), length-append middle back, whole, inside) in
    let read : get_or all (count + fits) d ≡ get_or middle fits d =
    get_or-append_right front (middle ++ back) (length front) (count + fits) d refl (omega (arith, whole)) ∙ ap (λ n. get_or (middle ++ back) n d) (omega (arith, whole)) ∙ get_or_append_left middle back d fits inside in
    ap (λ found. option_map_or (λ f. f.root) found hi) (slice_get-get_or all (count + fits) d long ∙ ap Some read)

-- behind all it is the bound
pub root_behind : (hi : ℕ) (families : List FamilyValue) (count : ℕ) → count ≡ length families → root_after hi families count ≡ hi
root_behind hi families count all = ap (λ found. option_map_or (λ f. f.root) found hi) (slice_get_past families count (omega (arith, all)))
