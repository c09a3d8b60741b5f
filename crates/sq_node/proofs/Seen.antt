-- Flags of segments that were found complete.
use Rattle.std.proofs.Common.{◌≡◌, ℕ, ◌<◌, Bool, true, false, List, length, get_or, Some, sym, ap, ◌∙◌, subst, ⊎_elim}
use Rattle.std.specs.Prelude.{◌≢◌, slice_get, slice_set}
use Rattle.std.proofs.lemmas.Option.{slice_get-get_or}
use Rattle.sq_shared.specs.Seat.{SeatValue}
use Rattle.sq_node_model.proofs.Members.{set_stood, set_kept, set_new}
use Rattle.sq_node.specs.Settled.{SawSegmentComplete, AreSeen}
use Rattle.sq_node.proofs.Known.{AllKnowNoLess, eq_or_not, complete_seats}

-- a flag that was set now is set
pub flag_set : (complete : List Bool) (at : ℕ) → at < length complete → slice_get (slice_set complete at true) at ≡ Some true
flag_set complete at within = set_new complete at true (get_or complete at false) (slice_get-get_or complete at false within)

-- and one that was set before still is
pub flag_kept : (complete : List Bool) (at seg : ℕ) → at < length complete → slice_get complete seg ≡ Some true → slice_get (slice_set complete at true) seg ≡ Some true
flag_kept complete at seg within there =
    ⊎_elim (λ (same : seg ≡ at). ap (slice_get (slice_set complete at true)) same ∙ flag_set complete at within)
    (λ (apart : seg ≢ at). set_kept complete at seg true true there apart) (eq_or_not seg at)

-- each was found complete, where the one that was set now was
pub flag_seen : (old new : List SeatValue) (complete : List Bool) (at : ℕ) → AllKnowNoLess old new → SawSegmentComplete new at → AreSeen old complete → AreSeen new (slice_set complete at true)
flag_seen old new complete at known saw seen = λ seg set.
    ⊎_elim (λ (here : (seg ≡ at) × (true ≡ true)). subst (SawSegmentComplete new) (sym here.0) saw)
    (λ (other : (seg ≢ at) × (slice_get complete seg ≡ Some true)). complete_seats old new known seg (seen seg other.1)) (set_stood complete at seg true true set)
