-- A move that follows another one begins with what that left: after the last stage each root key is at its owner by the new plan.
use Rattle.std.proofs.Common.{◌≡◌, ℕ, ◌+◌, ◌<◌, true, false, ◌==◌, nat_lt, if◌then◌else◌, slice_get, Option, Some, None, refl, sym, ap, ◌∙◌, subst, arith}
use Rattle.std.specs.Prelude.{length, not}
use Rattle.std.proofs.lemmas.Bool.{lt-ltb}
use Rattle.std.proofs.lemmas.Bool.Decides.{nat_tests}
use Rattle.sq_schema.specs.Table.{rows_in}
use Rattle.sq_plan.specs.PlanValue.{owner}
use Rattle.sq_store.specs.StoreValue.{StoreValue}
use Rattle.sq_moves.specs.ReconValue.{segment_of, is_link, stages}
use Rattle.sq_moves.specs.OpeningValue.{OpeningValue}
use Rattle.sq_moves.specs.Opening.{IsOpening}
use Rattle.sq_moves.proofs.Stages.{stage_below}
use Rattle.sq_model.specs.Place.{source, destination}
use Rattle.sq_model.specs.Staged.{owner_in}
use Rattle.sq_model.proofs.Keys.{found_in_segment, unfound_stays, linked}
use Rattle.sq_node_model.specs.BeganWith.{CanBegin}
use Rattle.sq_node_model.specs.Cores.{OpensWith}
use Rattle.sq_node_model.specs.Gathered.{GatheredValue}
use Rattle.sq_node_model.specs.Placed.{IsPlaced}
use Rattle.sq_node_model.specs.Next.{IsStageDone, next_began, onward_began}
use Rattle.sq_node_model.proofs.Staged.{key_stage, unmoved_source, moved_source, staying_source}
use Rattle.sq_node_model.proofs.Next.{can_next, opens_next}

none_below : (n : ℕ) → nat_lt n 0 ≡ false
none_below n = grind (arith, nat_tests)

owner_last : (o : OpeningValue) → IsOpening o → (i root : ℕ) → i ≡ stages o.recon → owner_in o i root ≡ destination o root
owner_last o is i root last = by (segment_of o.recon.segments root) refl
  where
    by : (at : Option ℕ) → segment_of o.recon.segments root ≡ at → owner_in o i root ≡ destination o root
    by None none = let stays = unfound_stays o is root none in staying_source o i root stays ∙ stays
    by (Some seg) found =
        let at = found_in_segment o is root seg found in
        let segment = at.0 in
        let link : is_link o.recon.ranges (source o root) (destination o root) ≡ true =
        ap (λ src. is_link o.recon.ranges src (destination o root)) at.1.source_is
        ∙ ap (is_link o.recon.ranges segment.src) at.1.destination_is
        ∙ linked o is seg segment at.1.there in
        let below = stage_below o.recon (source o root) (destination o root) link in
        moved_source o i root (lt-ltb (key_stage o root) i (subst (λ n. key_stage o root < n) (sym last) below))

pub can_onward : (o next : OpeningValue) (g : GatheredValue) → IsOpening o → IsPlaced o g → IsStageDone o g → next.table ≡ o.table
    → CanBegin next (onward_began o g)
can_onward o next g is placed done rows =
    let c = can_next o is g placed done in
    record {
      keyed = λ root family e. c.keyed root family e;
      base = λ root family e. c.base root family e ∙ sym (ap (λ table. rows_in table root) rows);
      opening = λ root opened. c.opening root (subst (λ table. not (length (rows_in table root) == 0) ≡ true) rows opened);
      named = λ root family e position. c.named root family e position;
      told = λ receipt has commit. c.told receipt has commit;
      aborted = λ receipt has aborts. c.aborted receipt has aborts;
    }

pub opens_onward : (o next : OpeningValue) (g : GatheredValue) (q : ℕ) (store : StoreValue) → IsOpening o → IsPlaced o g → IsStageDone o g
    → g.stage + 1 ≡ stages o.recon → next.old ≡ o.new → slice_get g.stores q ≡ Some store → OpensWith next (onward_began o g) q store
opens_onward o next g q store is placed done last onward there root =
    let same : owner_in o (g.stage + 1) root ≡ owner_in next 0 root =
    owner_last o is (g.stage + 1) root last
    ∙ ap (λ plan. owner plan root) (sym onward)
    ∙ sym (unmoved_source next 0 root (none_below (key_stage next root))) in
    opens_next o is g placed done q store there root
    ∙ ap (λ k. if k == q then (next_began o g).families root else None) same
