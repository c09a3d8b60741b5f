-- After the last stage of a move each root key is at its owner by the new plan.
use Rattle.std.proofs.Common.{◌≡◌, ℕ, ◌<◌, true, Option, Some, None, refl, sym, ap, ◌∙◌, subst}
use Rattle.std.proofs.lemmas.Bool.{lt-ltb}
use Rattle.sq_moves.specs.ReconValue.{segment_of, is_link, stages}
use Rattle.sq_moves.specs.OpeningValue.{OpeningValue}
use Rattle.sq_moves.specs.Opening.{IsOpening}
use Rattle.sq_moves.proofs.Stages.{stage_below}
use Rattle.sq_model.specs.Place.{source, destination}
use Rattle.sq_model.specs.Staged.{owner_in}
use Rattle.sq_model.proofs.Keys.{found_in_segment, unfound_stays, linked}
use Rattle.sq_node_model.proofs.Staged.{key_stage, moved_source, staying_source}

pub owner_last : (o : OpeningValue) → IsOpening o → (i root : ℕ) → i ≡ stages o.recon → owner_in o i root ≡ destination o root
owner_last o is i root last = by (segment_of o.recon.segments root) refl
  where
    by : (at : Option ℕ) → segment_of o.recon.segments root ≡ at → owner_in o i root ≡ destination o root
    by None none = let stays = unfound_stays o is root none in staying_source o i root stays ∙ stays
    by (Some seg) found =
        let at = found_in_segment o is root seg found in
        let segment = at.0 in
        let link : is_link o.recon.ranges (source o root) (destination o root) ≡ true =
        ap (λ src. is_link o.recon.ranges src (destination o root)) at.1.source_is
        ∙ ap (is_link o.recon.ranges segment.src) at.1.destination_is
        ∙ linked o is seg segment at.1.there in
        let below = stage_below o.recon (source o root) (destination o root) link in
        moved_source o i root (lt-ltb (key_stage o root) i (subst (λ n. key_stage o root < n) (sym last) below))
