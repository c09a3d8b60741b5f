-- Each family is its root key's and starts from the opening rows, and each opening root has one.
use Rattle.std.proofs.Common.{◌≡◌, inl, inr, ⊎_elim, ℕ, true, List, [], take, slice_get, find, Option, Some, None, refl, sym, ap, ap₂, ◌∙◌, subst, true≢false, append-nil, arith}
use Rattle.std.specs.Prelude.{is_some, unwrap_or}
use Rattle.std.proofs.lemmas.Bool.{cases_Bool}
use Rattle.std.proofs.lemmas.List.{take-append-le}
use Rattle.std.proofs.lemmas.Option.{slice_get_within}
use Rattle.sq_schema.specs.Effect.{replay_rows, reply}
use Rattle.sq_schema.specs.Family.{FamilyValue}
use Rattle.sq_store.specs.StoreValue.{absent, family_in}
use Rattle.sq_store.specs.declared.chunk.Note.{Note}
use Rattle.sq_store.specs.ChunkValue.{ChunkValue, covers}
use Rattle.sq_moves.specs.OpeningValue.{OpeningValue}
use Rattle.sq_moves.specs.Opening.{IsOpening}
use Rattle.sq_model.proofs.Lists.{found_in, not_found, Contains-slice_get}
use Rattle.sq_model.specs.Staged.{owner_in}
use Rattle.sq_node_model.proofs.Staged.{source_below}
use Rattle.sq_node_model.specs.BeganWith.{BeganWith, is_given, given_family, CanBegin}
use Rattle.sq_node_model.specs.NodeValue.{NodeValue, ReceiptValue}
use Rattle.sq_node_model.specs.Chunks.{cut_to, HasCut, HasLoaded, IsCovered}
use Rattle.sq_node_model.specs.OutHolds.{IsWholeChunk}
use Rattle.sq_node_model.specs.FamiliesHold.{IsHome, IsCarried, IsOf, GrowsFrom, brought}
use Rattle.sq_node_model.specs.Receipts.{IsToldBy}
use Rattle.sq_node_model.specs.declared.spot.Spot.{Spot}
use Rattle.sq_node_model.specs.declared.spot.Spot.TheVariants.{Store, Chunk}
use Rattle.sq_node_model.specs.Gathered.{GatheredValue, Gathers}
use Rattle.sq_node_model.specs.Spots.{cut_notes, StandsAt}
use Rattle.sq_node_model.specs.Placed.{AllStand, KeepBases, GoOn}
use Rattle.sq_node_model.proofs.Members.{slice_get-front}
use Rattle.sq_node_model.proofs.FamiliesAnswered.{not_given, grows_itself}
use Rattle.sq_node_model.proofs.Began.{grows_on, given_is, given_base}
use Rattle.sq_node_model.proofs.Lists.{stands_at}
use Rattle.sq_node_model.proofs.Ends.{out}
use Rattle.sq_node_model.proofs.Cuts.{IsCutAt, cut_at, loaded_at, has_cut}
use Rattle.sq_node_model.proofs.Once.{cut_note}
use Rattle.sq_node_model.proofs.Stands.{IsUnderWay, in_store, in_chunk, stands_in_store, stands_in_chunk, whereabouts}
use Rattle.sq_node_model.proofs.Places.{cut_among}

some_is : {X : Type 0} (found : Option X) → is_some found ≡ true → (x : X) × (found ≡ Some x)
some_is None e = absurd (true≢false (sym e))
some_is (Some x) e = (x, refl)

-- the family that a chunk has is somewhere, perhaps with a longer log
pub record IsCarriedOn (g : GatheredValue) (root : ℕ) (family : FamilyValue) : Type 0 where
  pub spot : Spot
  pub now : FamilyValue
  pub stands : StandsAt g spot root now
  pub grows : GrowsFrom family now

-- what receipts say of a family they say of it when it has continued
pub told_on : (first family : FamilyValue) (receipt : ReceiptValue) → GrowsFrom first family → IsToldBy first receipt → IsToldBy family receipt
told_on first family receipt grows t =
    let more = grows.log.0 in
    let within = slice_get_within first.log receipt.position receipt.txn t.there in
    record {
      there = ap (λ log. slice_get log receipt.position) grows.log.1 ∙ slice_get-front first.log more receipt.position receipt.txn t.there;
      told =
          t.told
          ∙ ap₂ (λ base log. reply (replay_rows base log) receipt.txn) (sym grows.base)
          (sym (ap (take receipt.position) grows.log.1 ∙ take-append-le receipt.position first.log more (omega (arith, within))));
    }

module _ (o : OpeningValue) (began : BeganWith) (is : IsOpening o) (nodes : List NodeValue) (g : GatheredValue) (gathers : Gathers o began nodes g) where
  pub whole : (chunk : ChunkValue) → IsCutAt o began nodes g chunk → IsWholeChunk began chunk
  whole chunk c = (out o began nodes c.link c.ends).chunks chunk (Contains-slice_get (cut_to c.ends.from c.link.dst) c.number chunk c.at)

  pub keyed : (spot : Spot) (root : ℕ) (family : FamilyValue) → StandsAt g spot root family → IsOf root family
  keyed (Store part) root family stands =
      let here = in_store o began nodes g gathers part root family stands in
      (gathers.holds part here.node here.there).families.keyed root family (inl here.stored)
  keyed (Chunk i j) root family stands =
      let way = in_chunk o began nodes g gathers i j root family stands in
      way.cut.ends.from_holds.families.keyed root family (inr (way.chunk, has_cut o began is nodes g gathers way.chunk way.cut, way.carried))

  -- what a chunk brings continues what the root key was given, also where that is nothing
  pub brought_grown : (chunk : ChunkValue) (c : IsCutAt o began nodes g chunk) (root : ℕ) → covers chunk.note root ≡ true → GrowsFrom (given_family began root) (brought chunk root)
  brought_grown chunk c root covered = here (family_in chunk.families root) refl
    where
      here : (found : Option FamilyValue) → family_in chunk.families root ≡ found → GrowsFrom (given_family began root) (brought chunk root)
      here (Some family) e =
          subst (GrowsFrom (given_family began root)) (sym (ap (λ found. unwrap_or found (absent root)) e))
          (c.ends.from_holds.families.cut_grown root chunk family (has_cut o began is nodes g gathers chunk c) e)
      here None e =
          elim (cases_Bool (is_given began root)) [
            | inl given ↦ absurd (true≢false (sym (sym (ap is_some e) ∙ (whole chunk c).given root covered given)))
            | inr none ↦
                subst (GrowsFrom (given_family began root)) (not_given began root none ∙ sym (ap (λ found. unwrap_or found (absent root)) e)) (grows_itself (given_family began root))
          ]

  -- each family that stands continues what its root key was given
  pub grown_at : (spot : Spot) (root : ℕ) (family : FamilyValue) → StandsAt g spot root family → GrowsFrom (given_family began root) family
  grown_at (Store part) root family stands =
      let here = in_store o began nodes g gathers part root family stands in
      let holds = gathers.holds part here.node here.there in
      ⊎_elim
      (λ home. holds.families.home_grown root family home here.stored)
      (λ (covered : IsCovered (HasLoaded here.node) root).
      let chunk = covered.0 in
      grows_on (given_family began root) (brought chunk root) family
      (brought_grown chunk (loaded_at o began is nodes g gathers part here.node chunk here.there covered.1).0 root covered.2)
      (holds.families.grown root chunk family covered.1 covered.2 here.stored))
      (holds.store.stored root family here.stored)
  grown_at (Chunk i j) root family stands =
      let way = in_chunk o began nodes g gathers i j root family stands in
      way.cut.ends.from_holds.families.cut_grown root way.chunk family (has_cut o began is nodes g gathers way.chunk way.cut) way.carried

  pub base : CanBegin o began → KeepBases o g
  base can spot root family stands = (grown_at spot root family stands).base ∙ given_base o began can root

  -- the family that a chunk has stands where the chunk was loaded, or in the chunk
  pub carried_on : (chunk : ChunkValue) (c : IsCutAt o began nodes g chunk) (root : ℕ) (family : FamilyValue) → covers chunk.note root ≡ true → IsCarried chunk root family → IsCarriedOn g root family
  carried_on chunk c root family covered has =
      ⊎_elim
      (λ (loaded : HasLoaded c.ends.to chunk).
      let here = c.ends.to_holds.store.came root chunk family loaded has in
      record {
        spot = Store c.link.dst;
        now = here.0;
        stands = stands_in_store o began nodes g gathers c.link.dst root c.ends.to here.0 c.ends.to_there here.1;
        grows = subst (λ first. GrowsFrom first here.0) (ap (λ found. unwrap_or found (absent root)) has) (c.ends.to_holds.families.grown root chunk here.0 loaded covered here.1);
      })
      (λ (way : IsUnderWay o began nodes g chunk c). record {
        spot = Chunk c.place way.place;
        now = family;
        stands = stands_in_chunk o began nodes g gathers chunk c way root family has;
        grows = record { base = refl; log = ([], sym (append-nil family.log)) };
      })
      (whereabouts o began nodes g gathers chunk c)

  -- a root key that was given a family and that no chunk covers has its family at home
  stays : (root : ℕ) → is_given began root ≡ true → find (λ note. covers note root) (cut_notes g) ≡ None → (spot : Spot) × (family : FamilyValue) × StandsAt g spot root family
  stays root given none =
      let p = owner_in o began.stage root in
      let below = source_below o began.stage is root in
      let count = gathers.count in
      let at = stands_at nodes p (omega (arith, below, count)) in
      let node = at.0 in
      let home : IsHome o began.stage node.part (HasCut node) root = record {
        owned = sym (gathers.parts p node at.1);
        uncut = λ chunk has.
            let c = cut_at o began is nodes g gathers p node chunk at.1 has in
            not_found (λ note. covers note root) (cut_notes g) none chunk.note (cut_among o began is nodes g gathers chunk c.0);
      } in
      let here = (gathers.holds p node at.1).store.home root home given in
      (Store p, here.0, stands_in_store o began nodes g gathers p root node here.0 at.1 here.1)

  pub all_given : (root : ℕ) → is_given began root ≡ true → (spot : Spot) × (family : FamilyValue) × StandsAt g spot root family
  all_given root given = here (find (λ note. covers note root) (cut_notes g)) refl
    where
      here : (found : Option Note) → find (λ note. covers note root) (cut_notes g) ≡ found → (spot : Spot) × (family : FamilyValue) × StandsAt g spot root family
      here None e = stays root given e
      here (Some note) e =
          let found = found_in (λ note. covers note root) (cut_notes g) note e in
          let noted = cut_note o began is nodes g gathers note found.0 in
          let covered = subst (λ (n : Note). covers n root ≡ true) (sym noted.same) found.1 in
          let has = some_is (family_in (noted.chunk).families root) ((whole noted.chunk noted.cut).given root covered given) in
          let on = carried_on noted.chunk noted.cut root has.0 covered has.1 in
          (on.spot, on.now, on.stands)

  pub opening : CanBegin o began → AllStand o g
  opening can root opened = all_given root (can.opening root opened)

  -- what was given stands, perhaps with a longer log
  pub go_on : GoOn began g
  go_on root first e =
      let found = all_given root (ap is_some e) in
      (found.0, found.1, found.2, subst (λ one. GrowsFrom one found.1) (given_is began root first e) (grown_at found.0 root found.1 found.2))
