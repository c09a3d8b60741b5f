-- Which families are at which spots: those of the nodes' stores, and those of the chunks that were cut and not loaded.
use Rattle.std.proofs.Common.{◌≡◌, ◌⊎◌, inl, inr, ⊎_elim, ℕ, ◌+◌, List, length, slice_get, Option, Some, refl, sym, ap, ◌∙◌, subst}
use Rattle.std.specs.Prelude.{option_and_then}
use Rattle.std.specs.FinMap.{get}
use Rattle.std.proofs.lemmas.Option.{option_and_then_some}
use Rattle.sq_schema.specs.Family.{FamilyValue}
use Rattle.sq_store.specs.StoreValue.{StoreValue, family_in}
use Rattle.sq_store.specs.ChunkValue.{ChunkValue}
use Rattle.sq_moves.specs.OpeningValue.{OpeningValue}
use Rattle.sq_model.proofs.Lists.{Contains-slice_get}
use Rattle.sq_node_model.specs.BeganWith.{BeganWith}
use Rattle.sq_node_model.specs.NodeValue.{NodeValue}
use Rattle.sq_node_model.specs.Chunks.{loaded_from, HasLoaded}
use Rattle.sq_node_model.specs.FamiliesHold.{IsStored, IsCarried}
use Rattle.sq_node_model.specs.declared.spot.Spot.TheVariants.{Store, Chunk}
use Rattle.sq_node_model.specs.Gathered.{GatheredLink, GatheredValue, Gathers}
use Rattle.sq_node_model.specs.Spots.{chunk_in, StandsAt}
use Rattle.sq_node_model.proofs.Lists.{map_at, at_map, append_at, after_append}
use Rattle.sq_node_model.proofs.Ends.{ends}
use Rattle.sq_node_model.proofs.Cuts.{IsCutAt}

pub of_some : {X Y : Type 0} (f : X → Option Y) (found : Option X) (y : Y) → option_and_then f found ≡ Some y → (x : X) × (found ≡ Some x) × (f x ≡ Some y)
of_some f found y at = option_and_then_some f found y at (λ x there e. (x, there, e))

-- the node of a partition has the family
pub record IsInStore (nodes : List NodeValue) (part root : ℕ) (family : FamilyValue) : Type 0 where
  pub node : NodeValue
  pub there : slice_get nodes part ≡ Some node
  pub stored : IsStored node.store root family

-- a chunk of a link has the family, at this place of those that are under way
pub record IsInChunk (o : OpeningValue) (began : BeganWith) (nodes : List NodeValue) (g : GatheredValue) (i j root : ℕ) (family : FamilyValue) : Type 0 where
  pub chunk : ChunkValue
  pub cut : IsCutAt o began nodes g chunk
  pub place : cut.place ≡ i
  pub number : length (loaded_from cut.ends.to cut.link.src) + j ≡ cut.number
  pub here : chunk_in g i j ≡ Some chunk
  pub carried : IsCarried chunk root family

-- the chunk is under way, at a place of its link
pub record IsUnderWay (o : OpeningValue) (began : BeganWith) (nodes : List NodeValue) (g : GatheredValue) (chunk : ChunkValue) (c : IsCutAt o began nodes g chunk) : Type 0 where
  pub place : ℕ
  pub here : slice_get c.link.under_way place ≡ Some chunk

module _ (o : OpeningValue) (began : BeganWith) (nodes : List NodeValue) (g : GatheredValue) (gathers : Gathers o began nodes g) where
  pub in_store : (part root : ℕ) (family : FamilyValue) → StandsAt g (Store part) root family → IsInStore nodes part root family
  in_store part root family stands =
      let found = of_some (λ (store : StoreValue). get store root) (slice_get g.stores part) family stands in
      let at = map_at (λ (node : NodeValue). node.store) nodes part found.0 (subst (λ stores. slice_get stores part ≡ Some found.0) gathers.stores found.1) in
      record { node = at.0; there = at.1; stored = subst (λ store. IsStored store root family) (sym at.2) found.2 }

  pub stands_in_store : (part root : ℕ) (node : NodeValue) (family : FamilyValue) → slice_get nodes part ≡ Some node → IsStored node.store root family → StandsAt g (Store part) root family
  stands_in_store part root node family there stored =
      ap (option_and_then (λ (store : StoreValue). get store root))
      (ap (λ stores. slice_get stores part) gathers.stores ∙ at_map (λ (node : NodeValue). node.store) nodes part node there)
      ∙ stored

  pub in_chunk : (i j root : ℕ) (family : FamilyValue) → StandsAt g (Chunk i j) root family → IsInChunk o began nodes g i j root family
  in_chunk i j root family stands =
      let found = of_some (λ (chunk : ChunkValue). family_in chunk.families root) (chunk_in g i j) family stands in
      let at = of_some (λ (link : GatheredLink). slice_get link.under_way j) (slice_get g.links i) found.0 found.1 in
      let link = at.0 in
      let e = ends o began nodes g gathers i link at.1 in
      let loaded = loaded_from e.to link.src in
      record {
        chunk = found.0;
        cut = record {
          place = i;
          link = link;
          there = at.1;
          ends = e;
          number = length loaded + j;
          at = ap (λ list. slice_get list (length loaded + j)) e.cut ∙ after_append loaded link.under_way j found.0 at.2;
        };
        place = refl;
        number = refl;
        here = found.1;
        carried = found.2;
      }

  pub stands_in_chunk : (chunk : ChunkValue) (c : IsCutAt o began nodes g chunk) (way : IsUnderWay o began nodes g chunk c)
      (root : ℕ) (family : FamilyValue) → IsCarried chunk root family → StandsAt g (Chunk c.place way.place) root family
  stands_in_chunk chunk c way root family carried =
      ap (option_and_then (λ (chunk : ChunkValue). family_in chunk.families root))
      (ap (option_and_then (λ (link : GatheredLink). slice_get link.under_way way.place)) c.there ∙ way.here)
      ∙ carried

  -- each chunk is loaded or under way
  pub whereabouts : (chunk : ChunkValue) (c : IsCutAt o began nodes g chunk) → HasLoaded c.ends.to chunk ⊎ IsUnderWay o began nodes g chunk c
  whereabouts chunk c =
      let loaded = loaded_from c.ends.to c.link.src in
      ⊎_elim
      (λ there. inl (c.link.src, Contains-slice_get loaded c.number chunk there))
      (λ later. inr (record { place = later.0; here = later.1 }))
      (append_at loaded c.link.under_way c.number chunk (subst (λ list. slice_get list c.number ≡ Some chunk) c.ends.cut c.at))
