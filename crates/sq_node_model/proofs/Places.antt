-- Each family stands where the notes place its root key, and none stands twice.
use Rattle.std.proofs.Common.{◌≡◌, ⊎_elim, ℕ, ◌<◌, true, List, length, get_or, slice_get, find, Contains, Some, sym, ap, ap₂, ◌∙◌, subst, true≢false, arith}
use Rattle.std.proofs.lemmas.Option.{same_Some, slice_get-get_or}
use Rattle.sq_schema.specs.Family.{FamilyValue}
use Rattle.sq_store.specs.declared.chunk.Note.{Note}
use Rattle.sq_store.specs.ChunkValue.{ChunkValue, covers}
use Rattle.sq_moves.specs.OpeningValue.{OpeningValue}
use Rattle.sq_moves.specs.Opening.{IsOpening}
use Rattle.sq_model.specs.Place.{Place, At, Under_way, loaded_place}
use Rattle.sq_model.proofs.Lists.{Contains-slice_get}
use Rattle.sq_model.specs.Staged.{owner_in}
use Rattle.sq_node_model.specs.Stages.{cut_place_in}
use Rattle.sq_node_model.specs.BeganWith.{BeganWith}
use Rattle.sq_node_model.specs.NodeValue.{NodeValue}
use Rattle.sq_node_model.specs.Chunks.{loaded_from, HasCut, HasLoaded, IsCovered}
use Rattle.sq_node_model.specs.FamiliesHold.{IsHome}
use Rattle.sq_node_model.specs.declared.spot.Spot.{Spot}
use Rattle.sq_node_model.specs.declared.spot.Spot.TheVariants.{Store, Chunk}
use Rattle.sq_node_model.specs.Gathered.{GatheredLink, GatheredValue, Gathers}
use Rattle.sq_node_model.specs.Spots.{cut_notes, loaded_notes, loads_of, gathered_place, StandsAt, IsSpotOf}
use Rattle.sq_node_model.specs.Placed.{StandOnce}
use Rattle.sq_node_model.proofs.Members.{slice_get-front}
use Rattle.sq_node_model.proofs.Lists.{Contains-flat_map, at_map, some_found, none_found}
use Rattle.sq_node_model.proofs.Ends.{notes_of, loads_are}
use Rattle.sq_node_model.proofs.Cuts.{IsCutAt, loaded_at, has_cut, noted_at, to_is, moved, carried}
use Rattle.sq_node_model.proofs.Once.{IsNoted, cut_note, loaded_note, are_one}
use Rattle.sq_node_model.proofs.Stands.{IsInChunk, in_store, in_chunk}

module _ (o : OpeningValue) (began : BeganWith) (is : IsOpening o) (nodes : List NodeValue) (g : GatheredValue) (gathers : Gathers o began nodes g) where
  -- a chunk's note is among all
  pub cut_among : (chunk : ChunkValue) → IsCutAt o began nodes g chunk → Contains (cut_notes g) chunk.note
  cut_among chunk c =
      Contains-flat_map (λ (link : GatheredLink). link.notes) g.links c.link chunk.note (Contains-slice_get g.links c.place c.link c.there)
      (Contains-slice_get c.link.notes c.number chunk.note (noted_at o began is nodes g gathers chunk c))

  -- and the place of a loaded one is among the loaded ones
  pub loaded_among : (chunk : ChunkValue) (c : IsCutAt o began nodes g chunk) → c.number < length (loaded_from c.ends.to c.link.src) → Contains (loaded_notes g) chunk.note
  loaded_among chunk c before =
      let loaded = loaded_from c.ends.to c.link.src in
      let at = slice_get-get_or loaded c.number chunk before in
      let here = slice_get-front loaded c.link.under_way c.number (get_or loaded c.number chunk) at in
      let same : get_or loaded c.number chunk ≡ chunk =
      same_Some (get_or loaded c.number chunk) chunk (sym here ∙ sym (ap (λ list. slice_get list c.number) c.ends.cut) ∙ c.at) in
      let noted = at_map (λ (c : ChunkValue). c.note) loaded c.number chunk (at ∙ ap Some same) in
      Contains-flat_map loads_of g.links c.link chunk.note (Contains-slice_get g.links c.place c.link c.there)
      (subst (λ notes. Contains notes chunk.note) (sym (loads_are o began nodes c.link c.ends)) (Contains-slice_get (notes_of loaded) c.number chunk.note noted))

  -- no chunk covers a root key that is at home
  pub home_uncut : (q : ℕ) (node : NodeValue) (root : ℕ) → slice_get nodes q ≡ Some node → IsHome o began.stage node.part (HasCut node) root
      → (chunk : ChunkValue) → IsCutAt o began nodes g chunk → covers chunk.note root ≡ true → ⊥
  home_uncut q node root at home chunk c covered =
      let from : c.link.src ≡ q = sym (moved o began is nodes g gathers chunk c root covered).source_is ∙ home.owned ∙ gathers.parts q node at in
      let same : c.ends.from ≡ node = same_Some c.ends.from node (sym (subst (λ p. slice_get nodes p ≡ Some c.ends.from) from c.ends.from_there) ∙ at) in
      true≢false (sym covered ∙ home.uncut chunk (subst (λ n. HasCut n chunk) same (has_cut o began is nodes g gathers chunk c)))

  home_uncovered : (q : ℕ) (node : NodeValue) (root : ℕ) → slice_get nodes q ≡ Some node → IsHome o began.stage node.part (HasCut node) root
      → (note : Note) → IsNoted o began nodes g note → covers note root ≡ true → ⊥
  home_uncovered q node root at home note noted covered =
      home_uncut q node root at home noted.chunk noted.cut (subst (λ (n : Note). covers n root ≡ true) (sym noted.same) covered)

  home_placed : (q : ℕ) (node : NodeValue) (root : ℕ) → slice_get nodes q ≡ Some node → IsHome o began.stage node.part (HasCut node) root → gathered_place o g root ≡ At q
  home_placed q node root at home =
      let none_cut = none_found (λ note. covers note root) (cut_notes g) (λ note has covered. home_uncovered q node root at home note (cut_note o began is nodes g gathers note has) covered) in
      let none_loaded = none_found (λ note. covers note root) (loaded_notes g)
      (λ note has covered. home_uncovered q node root at home note (loaded_note o began is nodes g gathers note has).noted covered) in
      ap₂ (λ cut loaded. loaded_place (cut_place_in o g.stage root cut) loaded) none_cut none_loaded ∙ ap At (ap (λ i. owner_in o i root) gathers.stage ∙ home.owned ∙ gathers.parts q node at)

  loaded_placed : (q : ℕ) (node : NodeValue) (root : ℕ) → slice_get nodes q ≡ Some node → IsCovered (HasLoaded node) root → gathered_place o g root ≡ At q
  loaded_placed q node root at covered =
      let chunk = covered.0 in
      let here = loaded_at o began is nodes g gathers q node chunk at covered.1 in
      let found = some_found (λ note. covers note root) (loaded_notes g) chunk.note (loaded_among chunk here.0 here.2) covered.2 in
      let noted = (loaded_note o began is nodes g gathers found.one found.among).noted in
      let there = moved o began is nodes g gathers noted.chunk noted.cut root (subst (λ (n : Note). covers n root ≡ true) (sym noted.same) found.passes) in
      let to : found.one.dst ≡ q =
      ap (λ (n : Note). n.dst) (sym noted.same) ∙ to_is o began is nodes g gathers noted.chunk noted.cut ∙ sym there.destination_is ∙ (moved o began is nodes g gathers chunk here.0 root covered.2).destination_is ∙ here.1 in
      ap (loaded_place (cut_place_in o g.stage root (find (λ note. covers note root) (cut_notes g)))) found.found ∙ ap At to

  way_placed : (i j root : ℕ) (family : FamilyValue) (way : IsInChunk o began nodes g i j root family) → gathered_place o g root ≡ Under_way way.chunk.note
  way_placed i j root family way =
      let covered = carried o began is nodes g gathers way.chunk way.cut root family way.carried in
      let found = some_found (λ note. covers note root) (cut_notes g) way.chunk.note (cut_among way.chunk way.cut) covered in
      let noted = cut_note o began is nodes g gathers found.one found.among in
      let one = are_one o began is nodes g gathers root noted.chunk way.chunk noted.cut way.cut (subst (λ (n : Note). covers n root ≡ true) (sym noted.same) found.passes) covered in
      let none = none_found (λ note. covers note root) (loaded_notes g)
      (λ note has covers_it.
      let load = loaded_note o began is nodes g gathers note has in
      let other = load.noted in
      let same = are_one o began is nodes g gathers root other.chunk way.chunk other.cut way.cut (subst (λ (n : Note). covers n root ≡ true) (sym other.same) covers_it) covered in
      let number = same.number in
      let before = load.among in
      let loaded = ap (λ (list : List ChunkValue). length list) same.loaded in
      let past = way.number in
      omega (arith, number, before, loaded, past)) in
      ap₂ (λ cut loaded. loaded_place (cut_place_in o g.stage root cut) loaded) (found.found ∙ ap Some (sym noted.same ∙ ap (λ (c : ChunkValue). c.note) one.same)) none

  pub placed : (spot : Spot) (root : ℕ) (family : FamilyValue) → StandsAt g spot root family → IsSpotOf g spot (gathered_place o g root)
  placed (Store part) root family stands =
      let here = in_store o began nodes g gathers part root family stands in
      ⊎_elim (λ home. home_placed part here.node root here.there home) (λ covered. loaded_placed part here.node root here.there covered)
      ((gathers.holds part here.node here.there).store.stored root family here.stored)
  placed (Chunk i j) root family stands =
      let way = in_chunk o began nodes g gathers i j root family stands in
      (way.chunk, way.here, way_placed i j root family way)

  one_way : (i j k l root : ℕ) (family again : FamilyValue) → IsInChunk o began nodes g i j root family → IsInChunk o began nodes g k l root again → Chunk i j ≡ Chunk k l
  one_way i j k l root family again one other =
      let same = are_one o began is nodes g gathers root one.chunk other.chunk one.cut other.cut
      (carried o began is nodes g gathers one.chunk one.cut root family one.carried) (carried o began is nodes g gathers other.chunk other.cut root again other.carried) in
      let number = same.number in
      let loaded = ap (λ (list : List ChunkValue). length list) same.loaded in
      let here = one.number in
      let there = other.number in
      ap₂ Chunk (sym one.place ∙ same.place ∙ other.place) (omega (arith, number, loaded, here, there))

  not_both : (part : ℕ) (note : Note) (place : Place) → place ≡ At part → place ≡ Under_way note → ⊥
  not_both part note place at under = absurd (let e = sym at ∙ under in cc)

  pub once : StandOnce g
  once (Store p) (Store q) root family again one other =
      let here = placed (Store p) root family one in
      let there = placed (Store q) root again other in
      let same : p ≡ q = let e = sym here ∙ there in cc in
      ap Store same
  once (Store p) (Chunk i j) root family again one other =
      let there = placed (Chunk i j) root again other in
      absurd (not_both p there.0.note (gathered_place o g root) (placed (Store p) root family one) there.2)
  once (Chunk i j) (Store q) root family again one other =
      let here = placed (Chunk i j) root family one in
      absurd (not_both q here.0.note (gathered_place o g root) (placed (Store q) root again other) here.2)
  once (Chunk i j) (Chunk k l) root family again one other =
      one_way i j k l root family again (in_chunk o began nodes g gathers i j root family one) (in_chunk o began nodes g gathers k l root again other)
