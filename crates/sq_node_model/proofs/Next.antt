-- Once the segments of a stage are complete, nothing is under way, each family is where the next stage has its source, and so the next stage can begin with what was gathered.
use Rattle.std.proofs.Common.{◌≡◌, ⊎_elim, ℕ, ◌+◌, true, false, ◌==◌, ◌&&◌, nat_le, nat_lt, if◌then◌else◌, List, [], ◌∷◌, ◌++◌, reverse, take, drop, slice_get, find, Contains, Option, Some, None, refl, sym, ap, ap₂, ◌∙◌, subst, true≢false, arith}
use Rattle.std.specs.Prelude.{is_some, option_and_then, unwrap_or}
use Rattle.std.specs.FinMap.{get}
use Rattle.std.proofs.lemmas.Bool.{cases_Bool, and_parts, and_from, eqb-true, eq-eqb, ltb-true, lt-ltb}
use Rattle.std.proofs.lemmas.Bool.Decides.{nat_tests}
use Rattle.std.proofs.lemmas.List.{reverse-append, take-append-drop}
use Rattle.std.proofs.lemmas.List.Elements.{Contains-append_left}
use Rattle.std.proofs.lemmas.Option.{slice_get_within}
use Rattle.sq_schema.specs.Family.{FamilyValue}
use Rattle.sq_moves.specs.Status.{covering}
use Rattle.sq_moves.proofs.Covering.{covering_is}
use Rattle.sq_model.proofs.Statuses.{all_complete}
use Rattle.sq_store.specs.StoreValue.{StoreValue, absent}
use Rattle.sq_store.specs.declared.chunk.Note.{Note}
use Rattle.sq_store.specs.ChunkValue.{ChunkValue, covers}
use Rattle.sq_moves.specs.declared.recon.Range.{Range}
use Rattle.sq_moves.specs.ReconValue.{segment_of, leaf_of, stage_on}
use Rattle.sq_moves.specs.OpeningValue.{OpeningValue}
use Rattle.sq_moves.specs.Opening.{IsOpening}
use Rattle.sq_shared.specs.declared.view.View.{View}
use Rattle.sq_model.specs.Place.{At, source, destination, moves, loaded_place, extent_of, is_within}
use Rattle.sq_model.specs.Links.{is_about, has_last, reached}
use Rattle.sq_model.specs.Orderly.{Tiles}
use Rattle.sq_model.proofs.Lists.{any_in, list_any-Contains, flat_map_in, slice_get-Contains}
use Rattle.sq_model.proofs.Keys.{IsIn, found_in_segment, under, above_within, unfound_stays}
use Rattle.sq_model.proofs.Tiles.{tile, last_reached, covers_of, covered_is}
use Rattle.sq_model.proofs.Apart.{covers_extent}
use Rattle.sq_model.specs.Staged.{owner_in}
use Rattle.sq_node_model.specs.Stages.{runs_in, is_on_link_in, cut_place_in}
use Rattle.sq_node_model.specs.BeganWith.{given_family, CanBegin}
use Rattle.sq_node_model.specs.Receipts.{IsReplyIn}
use Rattle.sq_node_model.specs.NodeHolds.{NodeHolds}
use Rattle.sq_node_model.specs.Cores.{staged_core, OpensWith, IsUnused}
use Rattle.sq_node_model.specs.declared.spot.Spot.{Spot}
use Rattle.sq_node_model.specs.declared.spot.Spot.TheVariants.{Store, Chunk}
use Rattle.sq_node_model.specs.Gathered.{GatheredLink, GatheredValue}
use Rattle.sq_node_model.specs.Spots.{gathered_status, cut_notes, loaded_notes, loaded_count, loads_of, gathered_place, family_at_spot, StandsAt}
use Rattle.sq_node_model.specs.Placed.{FitTogether, HasNone, IsPlaced}
use Rattle.sq_node_model.specs.Next.{IsStageDone, next_began}
use Rattle.sq_node_model.proofs.Made.{node_with}
use Rattle.sq_node_model.proofs.Began.{given_is}
use Rattle.sq_node_model.proofs.Members.{Contains-reverse, Contains-unreversed}
use Rattle.sq_node_model.proofs.Keys.{moved_from}
use Rattle.sq_node_model.proofs.Staged.{on_link_goes, link_runs, moved_source, staying_source}
use Rattle.sq_node_model.proofs.CoreNew.{core_new}
use Rattle.sq_node_model.proofs.Lists.{Contains-flat_map, some_found, none_found}

front_in : {X : Type 0} (n : ℕ) (xs : List X) (x : X) → Contains (take n xs) x → Contains xs x
front_in n xs x has = subst (λ list. Contains list x) (take-append-drop n xs) (Contains-append_left (take n xs) (drop n xs) x has)

-- the older of tiling notes tile
tiles_behind : (o : OpeningValue) (newer older : List Note) → Tiles o (newer ++ older) → Tiles o older
tiles_behind o [] older tiles = tiles
tiles_behind o (note ∷ newer) older tiles = tiles_behind o newer older tiles.1

below_next : (n m : ℕ) → n ≡ m → nat_lt n (m + 1) ≡ true
below_next n m same = grind (arith, nat_tests)

same_side : (n m : ℕ) → (n == m) ≡ false → nat_lt n (m + 1) ≡ nat_lt n m
same_side n m apart = grind (arith, nat_tests)

-- a note that covers a root key goes along a link of the stage, as the key does
record IsMovingNote (o : OpeningValue) (i root : ℕ) (note : Note) : Type 0 where
  src : ℕ
  dst : ℕ
  on : is_on_link_in o i src dst note.seg ≡ true
  within : is_within (extent_of o note.seg note.node) root ≡ true
  goes_to : note.dst ≡ dst

-- a store opens with the families that the next stage begins with, where each of its families is its partition's in that stage
pub opens_owned : (o : OpeningValue) (g : GatheredValue) (q : ℕ) (store : StoreValue) → slice_get g.stores q ≡ Some store
    → ((root : ℕ) (family : FamilyValue) → get store root ≡ Some family → owner_in o (g.stage + 1) root ≡ q) → OpensWith o (next_began o g) q store
opens_owned o g q store there owned root =
    ⊎_elim
    (λ here.
    let same = eqb-true (owner_in o (g.stage + 1) root) q here in
    sym (ap (λ b. if b then family_at_spot g (Store (owner_in o (g.stage + 1) root)) root else None) here
    ∙ ap (λ k. family_at_spot g (Store k) root) same
    ∙ ap (option_and_then (λ (store : StoreValue). get store root)) there))
    (λ away. none (get store root) refl away ∙ sym (ap (λ b. if b then family_at_spot g (Store (owner_in o (g.stage + 1) root)) root else None) away))
    (cases_Bool (owner_in o (g.stage + 1) root == q))
  where
    none : (found : Option FamilyValue) → get store root ≡ found → (owner_in o (g.stage + 1) root == q) ≡ false → get store root ≡ None
    none None e away = e
    none (Some family) e away = absurd (true≢false (sym (eq-eqb (owner_in o (g.stage + 1) root) q (owned root family e)) ∙ away))

module _ (o : OpeningValue) (is : IsOpening o) (g : GatheredValue) (fit : FitTogether o g) where
  moving_note : (root : ℕ) (note : Note) → Contains (cut_notes g) note → covers note root ≡ true → IsMovingNote o g.stage root note
  moving_note root note has covered =
      let found = flat_map_in (λ (link : GatheredLink). link.notes) g.links note has in
      let link = found.0 in
      let placed = fit.links (found.1).0 link (slice_get-Contains g.links link found.1) in
      let about = placed.about note found.2 in
      record {
        src = link.src;
        dst = link.dst;
        on = about.segment;
        within = covers_extent o (reverse link.notes) note root (tile o (reverse link.notes) placed.tiles note (Contains-reverse link.notes note found.2)) covered;
        goes_to = about.goes_to;
      }

  loaded_is_cut : (note : Note) → Contains (loaded_notes g) note → Contains (cut_notes g) note
  loaded_is_cut note has =
      let found = flat_map_in loads_of g.links note has in
      let link = found.0 in
      Contains-flat_map (λ (link : GatheredLink). link.notes) g.links link note found.1 (front_in (loaded_count link) link.notes note found.2)

  loads_tile : (link : GatheredLink) → Tiles o (reverse link.notes) → Tiles o (reverse (loads_of link))
  loads_tile link tiles =
      let n = loaded_count link in
      tiles_behind o (reverse (drop n link.notes)) (reverse (take n link.notes))
      (subst (Tiles o) (ap reverse (sym (take-append-drop n link.notes)) ∙ reverse-append (take n link.notes) (drop n link.notes)) tiles)

  module _ (done : IsStageDone o g) where
    -- each key of a segment of the stage was loaded
    covered_by : (root seg : ℕ) (segment : Range) → segment_of o.recon.segments root ≡ Some seg → IsIn o root seg segment → runs_in o g.stage segment.src segment.dst ≡ true
        → (note : Note) × Contains (loaded_notes g) note × (covers note root ≡ true)
    covered_by root seg segment found at runs =
        let status = gathered_status g seg in
        let leaf = leaf_of o.recon.width segment root in
        let n = covering status leaf in
        let whole = all_complete status (fit.grown seg) (done seg segment at.there (eqb-true (stage_on o.recon segment.src segment.dst) g.stage runs)) in
        let last = fit.complete seg n (whole leaf at.leaf) in
        let keys = extent_of o seg n in
        let within : is_within keys root ≡ true = above_within o is root seg n segment at (covering_is status (fit.grown seg) leaf at.leaf).above in
        let bounds = and_parts (nat_le keys.lo root) (nat_lt root keys.hi) within in
        let high = ltb-true root keys.hi bounds.1 in
        let some = any_in (λ (note : Note). is_about seg n note && note.last) (loaded_notes g) last in
        let from = flat_map_in loads_of g.links some.0 some.1 in
        let link = from.0 in
        let loads = loads_of link in
        let tiles = loads_tile link (fit.links (from.1).0 link (slice_get-Contains g.links link from.1)).tiles in
        let ended : has_last seg n (reverse loads) ≡ true = list_any-Contains (λ (note : Note). is_about seg n note && note.last) (reverse loads) some.0 (Contains-reverse loads some.0 from.2) some.2 in
        let ends = last_reached o (reverse loads) tiles seg n ended in
        let any = covered_is o (reverse loads) tiles seg n root ∙ and_from (nat_le keys.lo root) (nat_lt root (reached o seg n (reverse loads))) bounds.0 (lt-ltb root (reached o seg n (reverse loads)) (omega (arith, high, ends))) in
        let one = any_in (covers_of seg n root) (reverse loads) any in (
          one.0,
          Contains-flat_map loads_of g.links link one.0 from.1 (Contains-unreversed loads one.0 one.1),
          (and_parts (is_about seg n one.0) (covers one.0 root) one.2).1,
        )

    -- where the next stage has its source, the notes place a root key
    next_place : (root : ℕ) → gathered_place o g root ≡ At (owner_in o (g.stage + 1) root)
    next_place root = by (segment_of o.recon.segments root) refl
      where
        uncovered : ((note : Note) → IsMovingNote o g.stage root note → ⊥) → owner_in o g.stage root ≡ owner_in o (g.stage + 1) root → gathered_place o g root ≡ At (owner_in o (g.stage + 1) root)
        uncovered none same =
            ap₂ (λ cut loaded. loaded_place (cut_place_in o g.stage root cut) loaded)
            (none_found (λ note. covers note root) (cut_notes g) (λ note has covered. none note (moving_note root note has covered)))
            (none_found (λ note. covers note root) (loaded_notes g) (λ note has covered. none note (moving_note root note (loaded_is_cut note has) covered)))
            ∙ ap At same

        by : (at : Option ℕ) → segment_of o.recon.segments root ≡ at → gathered_place o g root ≡ At (owner_in o (g.stage + 1) root)
        by None none =
            let stays = unfound_stays o is root none in
            uncovered (λ note m. absurd (let e = sym none ∙ (under o is root note.seg note.node m.within).found in cc))
            (staying_source o g.stage root stays ∙ sym (staying_source o (g.stage + 1) root stays))
        by (Some seg) found =
            let at = found_in_segment o is root seg found in
            let segment = at.0 in
            let pair : stage_on o.recon (source o root) (destination o root) ≡ stage_on o.recon segment.src segment.dst =
            (λ i. stage_on o.recon (at.1.source_is i) (at.1.destination_is i)) in
            ⊎_elim
            (λ runs.
            let now = eqb-true (stage_on o.recon segment.src segment.dst) g.stage runs in
            let has = covered_by root seg segment found at.1 runs in
            let first = some_found (λ note. covers note root) (loaded_notes g) has.0 has.1 has.2 in
            let m = moving_note root first.one (loaded_is_cut first.one first.among) first.passes in
            let to = (moved_from o is g.stage root first.one.seg first.one.node m.src m.dst m.within m.on).destination_is in
            ap (loaded_place (cut_place_in o g.stage root (find (λ note. covers note root) (cut_notes g)))) first.found
            ∙ ap At (m.goes_to ∙ sym to ∙ sym (moved_source o (g.stage + 1) root (below_next (stage_on o.recon (source o root) (destination o root)) g.stage (pair ∙ now)))))
            (λ other.
            let side = same_side (stage_on o.recon (source o root) (destination o root)) g.stage (ap (λ n. n == g.stage) pair ∙ other) in
            uncovered
            (λ note m.
            let same : note.seg ≡ seg = let e = sym (under o is root note.seg note.node m.within).found ∙ found in cc in
            let goes = on_link_goes o g.stage m.src m.dst note.seg m.on in
            let range : goes.segment ≡ segment = let e = sym goes.there ∙ subst (λ k. slice_get o.recon.segments k ≡ Some segment) (sym same) at.1.there in cc in
            true≢false (sym (link_runs o g.stage m.src m.dst note.seg m.on) ∙ (λ i. runs_in o g.stage (sym goes.source i) (sym goes.destination i)) ∙ (λ i. runs_in o g.stage (range i).src (range i).dst) ∙ other))
            (ap (λ b. if moves o root && b then destination o root else source o root) (sym side)))
            (cases_Bool (runs_in o g.stage segment.src segment.dst))

    -- nothing is under way, and each family is at the next stage's source
    pub stands_fit : (spot : Spot) (root : ℕ) (family : FamilyValue) → StandsAt g spot root family → spot ≡ Store (owner_in o (g.stage + 1) root)
    stands_fit (Store part) root family stands =
        let at = sym (fit.placed (Store part) root family stands) ∙ next_place root in
        let same : part ≡ owner_in o (g.stage + 1) root = let e = at in cc in
        ap Store same
    stands_fit (Chunk i j) root family stands =
        let at = fit.placed (Chunk i j) root family stands in
        absurd (let e = sym at.2 ∙ next_place root in cc)

module _ (o : OpeningValue) (is : IsOpening o) (g : GatheredValue) (p : IsPlaced o g) (done : IsStageDone o g) where
  pub stands_next : (spot : Spot) (root : ℕ) (family : FamilyValue) → StandsAt g spot root family → spot ≡ Store (owner_in o (g.stage + 1) root)
  stands_next = stands_fit o is g p.fit done

  -- a root key without a family begins the next stage without one
  none_given : (root : ℕ) → HasNone g root → given_family (next_began o g) root ≡ absent root
  none_given root none = by ((next_began o g).families root) refl
    where
      by : (found : Option FamilyValue) → (next_began o g).families root ≡ found → given_family (next_began o g) root ≡ absent root
      by (Some family) e = absurd (none (Store (owner_in o (g.stage + 1) root)) family e)
      by None e = ap (λ found. unwrap_or found (absent root)) e

  pub can_next : CanBegin o (next_began o g)
  can_next = record {
    keyed = λ root family e. p.fit.keyed (Store (owner_in o (g.stage + 1) root)) root family e;
    base = λ root family e. p.base (Store (owner_in o (g.stage + 1) root)) root family e;
    opening = λ root opened.
        let stands = p.opening root opened in
        ap is_some (subst (λ spot. StandsAt g spot root stands.1) (stands_next stands.0 root stands.1 stands.2) stands.2);
    named = λ root family e position. p.named (Store (owner_in o (g.stage + 1) root)) root family e position;
    told = λ receipt has commit.
        let t = p.told receipt has commit in
        (t.1, subst (λ spot. StandsAt g spot receipt.txn.root t.1) (stands_next t.0 receipt.txn.root t.1 t.2) t.2, t.3);
    aborted = λ receipt has aborts.
        ⊎_elim
        (λ (some : (spot : Spot) × (family : FamilyValue) × StandsAt g spot receipt.txn.root family × IsReplyIn family receipt).
        let there = subst (λ spot. StandsAt g spot receipt.txn.root some.1) (stands_next some.0 receipt.txn.root some.1 some.2) some.2 in
        subst (λ (one : FamilyValue). IsReplyIn one receipt) (sym (given_is (next_began o g) receipt.txn.root some.1 there)) some.3)
        (λ (none : HasNone g receipt.txn.root × IsReplyIn (absent receipt.txn.root) receipt).
        subst (λ (one : FamilyValue). IsReplyIn one receipt) (sym (none_given receipt.txn.root none.0)) none.1)
        (p.aborted receipt has aborts);
  }

  pub opens_next : (q : ℕ) (store : StoreValue) → slice_get g.stores q ≡ Some store → OpensWith o (next_began o g) q store
  opens_next q store there =
      opens_owned o g q store there (λ root family stored.
      let at = stands_next (Store q) root family (ap (option_and_then (λ (store : StoreValue). get store root)) there ∙ stored) in
      let same : owner_in o (g.stage + 1) root ≡ q = let e = at in cc in
      same)

  -- the nodes that the next stage opens with hold
  pub holds_next : (q : ℕ) (store : StoreValue) (views : ℕ → View) (sent received : ℕ → List ChunkValue) → slice_get g.stores q ≡ Some store → IsUnused views sent received
      → NodeHolds o (next_began o g) (node_with (staged_core o (g.stage + 1) q store) views sent received [])
  holds_next q store views sent received there unused =
      let within = slice_get_within g.stores q store there in
      let count = p.fit.parts.all_stores in
      core_new o (next_began o g) can_next q store (omega (arith, within, count)) (opens_next q store there) views sent received unused
