-- Wider leaves cut a move into fewer segments.
use Rattle.std.proofs.Common.{◌≡◌, ℕ, ◌+◌, ◌-◌, ◌*◌, ◌/◌, ◌<◌, ◌≤◌, List, [], ◌∷◌, length, length-append, arith, None, refl, true, not, nat_lt, nat_le, ◌==◌, eq-eqb, if◌then◌else◌, Bool, false, Some}
use Rattle.std.proofs.Math.Nat.{lt-div-mul-add, mul-le-mul_left}
use Rattle.std.proofs.lemmas.Nat.{div_below}
use Rattle.std.proofs.lemmas.Bool.{and_from, le-leb, le-ltb}
use Rattle.sq_plan.specs.PlanValue.{PlanValue}
use Rattle.sq_moves.specs.declared.recon.TheConstants.{MAX_WIDTH}
use Rattle.sq_moves.specs.declared.recon.Range.{Range}
use Rattle.sq_moves.specs.declared.opening_fault.ReconFault.TheVariants.{PartitionsDiffer, Width, TooManySegments}
use Rattle.sq_moves.specs.ReconValue.{segment_width, segment_count, segments_in, segments_of, is_width}
use Rattle.sq_moves.specs.Moves.{moves_of}
use Rattle.sq_moves.specs.Between.{segment_limit, recon_fault}
use Rattle.sq_moves.proofs.Cuts.{length-segments_in, segment_width_some}
use Rattle.sq_moves.proofs.Made.{IsFine, fine}
use Rattle.sq_moves.proofs.Segments.{width_bounds}

-- a wider piece goes less often into a length
less_often : (d s t : ℕ) → 0 < s → s ≤ t → (d + t - 1) / t ≤ (d + s - 1) / s
less_often d s t some wider =
    let q = (d + s - 1) / s in
    let reach : d + s - 1 < q * s + s = lt-div-mul-add some in
    let wide : q * s ≤ q * t = mul-le-mul_left q wider in
    let below : (d + t - 1) / t < q + 1 = div_below (d + t - 1) t (q + 1) (omega arith) (omega arith) in
    omega arith

fewer : (narrow wide : ℕ) → 1 ≤ narrow → narrow ≤ wide → (ranges : List Range) → length (segments_of wide ranges) ≤ length (segments_of narrow ranges)
fewer narrow wide some wider [] = omega arith
fewer narrow wide some wider (range ∷ ranges) =
    let here : segment_count wide range ≤ segment_count narrow range = less_often (range.hi - range.lo) (segment_width narrow) (segment_width wide) (segment_width_some narrow some) (omega arith) in
    let there = fewer narrow wide some wider ranges in
    let widely = length-append (segments_in wide range) (segments_of wide ranges) in
    let narrowly = length-append (segments_in narrow range) (segments_of narrow ranges) in
    omega (arith, here, there, widely, narrowly, length-segments_in wide range, length-segments_in narrow range)

-- what is fine isn't refused
chosen : (a b c : Bool) → a ≡ true → b ≡ true → c ≡ false → (if not a then Some PartitionsDiffer else if not b then Some Width else if c then Some TooManySegments else None) ≡ None
chosen true true false x y z = refl
chosen true true true x y z = cc
chosen true false c x y z = cc
chosen false b c x y z = cc

taken : (old new : PlanValue) (width : ℕ) → IsFine old new width → recon_fault old new width ≡ None
taken old new width is =
    let count = length (segments_of width (moves_of old new)) in
    chosen (old.parts == new.parts) (is_width width) (nat_lt (segment_limit new.version) count) (eq-eqb old.parts new.parts is.parts) is.leaf (le-ltb (segment_limit new.version) count is.few)

-- where a width does, each wider one does
pub wider_does : (old new : PlanValue) (narrow wide : ℕ) → narrow ≤ wide → is_width wide ≡ true → recon_fault old new narrow ≡ None → recon_fault old new wide ≡ None
wider_does old new narrow wide wider leaf none =
    let is = fine old new narrow none in
    let bounds = width_bounds narrow is.leaf in
    let less = fewer narrow wide bounds.0 wider (moves_of old new) in
    taken old new wide (record { parts = is.parts; leaf = leaf; few = omega (arith, less, is.few) })

pub does_within : (old new : PlanValue) (width : ℕ) → recon_fault old new width ≡ None → (1 ≤ width) × (width ≤ MAX_WIDTH)
does_within old new width none = width_bounds width (fine old new width none).leaf

pub width_from : (width : ℕ) → 1 ≤ width → width ≤ MAX_WIDTH → is_width width ≡ true
width_from width some within = and_from (nat_le 1 width) (nat_le width MAX_WIDTH) (le-leb 1 width some) (le-leb width MAX_WIDTH within)
