-- Each receipt of an abort has the reply of its position, or its root key has no rows.
use Rattle.std.proofs.Common.{◌≡◌, ◌⊎◌, inl, inr, ⊎_elim, ℕ, true, false, List, slice_get, find, Contains, Option, Some, None, refl, sym, ap, ◌∙◌, subst, true≢false}
use Rattle.std.specs.Prelude.{is_some}
use Rattle.std.specs.List.{flat_map}
use Rattle.std.proofs.lemmas.Bool.{cases_Bool}
use Rattle.std.proofs.lemmas.List.Elements.{Contains-append_cases}
use Rattle.sq_schema.specs.Family.{FamilyValue}
use Rattle.sq_store.specs.StoreValue.{absent, family_in}
use Rattle.sq_store.specs.declared.chunk.Note.{Note}
use Rattle.sq_store.specs.ChunkValue.{ChunkValue, covers}
use Rattle.sq_moves.specs.OpeningValue.{OpeningValue}
use Rattle.sq_moves.specs.Opening.{IsOpening}
use Rattle.sq_model.specs.Place.{Place, At, Under_way, cut_place, loaded_place}
use Rattle.sq_model.proofs.Lists.{found_in, slice_get-Contains, flat_map_in}
use Rattle.sq_model.specs.Staged.{owner_in}
use Rattle.sq_node_model.specs.BeganWith.{BeganWith, is_given, given_family, CanBegin}
use Rattle.sq_node_model.specs.NodeValue.{NodeValue, ReceiptValue}
use Rattle.sq_node_model.specs.Chunks.{HasCut, HasLoaded}
use Rattle.sq_node_model.specs.FamiliesHold.{IsCarried, IsStoredOrCut, CameWithout}
use Rattle.sq_node_model.specs.Receipts.{is_commit, IsReplyIn}
use Rattle.sq_node_model.specs.declared.spot.Spot.{Spot}
use Rattle.sq_node_model.specs.declared.spot.Spot.TheVariants.{Store, Chunk}
use Rattle.sq_node_model.specs.Gathered.{GatheredValue, Gathers}
use Rattle.sq_node_model.specs.Spots.{cut_notes, loaded_notes, gathered_place, family_at_spot, StandsAt}
use Rattle.sq_node_model.specs.Placed.{HasNone, AreAborted}
use Rattle.sq_node_model.proofs.FamiliesAnswered.{not_given}
use Rattle.sq_node_model.proofs.Told.{reply_on}
use Rattle.sq_node_model.proofs.Cuts.{cut_at, loaded_at, carried}
use Rattle.sq_node_model.proofs.Once.{IsNoted, cut_note, are_one}
use Rattle.sq_node_model.proofs.Stands.{in_chunk, stands_in_store}
use Rattle.sq_node_model.proofs.Places.{placed}
use Rattle.sq_node_model.proofs.Families.{whole, carried_on, grown_at, all_given}

-- a root key that is under way was cut with the note, and loaded with none
way_cut : (owner : ℕ) (note : Note) (cut loaded : Option Note) → loaded_place (cut_place owner cut) loaded ≡ Under_way note → cut ≡ Some note
way_cut owner note cut (Some last) e = absurd cc
way_cut owner note None None e = absurd cc
way_cut owner note (Some first) None e = let same : first ≡ note = cc in ap Some same

module _ (o : OpeningValue) (began : BeganWith) (is : IsOpening o) (nodes : List NodeValue) (g : GatheredValue) (gathers : Gathers o began nodes g) where
  -- the root key has a family
  abbrev Stands : ℕ → Type 0
  Stands root = (spot : Spot) × (family : FamilyValue) × StandsAt g spot root family

  -- no store but that of the place has a family of the root key
  store_only : (p root : ℕ) → gathered_place o g root ≡ At p → family_at_spot g (Store p) root ≡ None → HasNone g root
  store_only p root here none (Store q) family stands =
      let at = placed o began is nodes g gathers (Store q) root family stands in
      let same : q ≡ p = let e = sym at ∙ here in cc in
      let found = subst (λ k. family_at_spot g (Store k) root ≡ Some family) same stands in
      absurd (let e = sym none ∙ found in cc)
  store_only p root here none (Chunk i j) family stands =
      let at = placed o began is nodes g gathers (Chunk i j) root family stands in
      absurd (let e = sym here ∙ at.2 in cc)

  -- nor has any chunk but that of the note
  chunk_only : (note : Note) (root : ℕ) → gathered_place o g root ≡ Under_way note → (noted : IsNoted o began nodes g note) → covers noted.chunk.note root ≡ true
      → family_in noted.chunk.families root ≡ None → HasNone g root
  chunk_only note root way noted covered none (Store q) family stands =
      let at = placed o began is nodes g gathers (Store q) root family stands in
      absurd (let e = sym way ∙ at in cc)
  chunk_only note root way noted covered none (Chunk i j) family stands =
      let there = in_chunk o began nodes g gathers i j root family stands in
      let same = are_one o began is nodes g gathers root there.chunk noted.chunk there.cut noted.cut
      (carried o began is nodes g gathers there.chunk there.cut root family there.carried) covered in
      let found = ap (λ (c : ChunkValue). family_in c.families root) (sym same.same) ∙ there.carried in
      absurd (let e = sym none ∙ found in cc)

  -- a root key has a family, or none
  stands_or_not : (root : ℕ) → Stands root ⊎ HasNone g root
  stands_or_not root = at (gathered_place o g root) refl
    where
      in_store : (p : ℕ) → gathered_place o g root ≡ At p → (found : Option FamilyValue) → family_at_spot g (Store p) root ≡ found → Stands root ⊎ HasNone g root
      in_store p here (Some family) e = inl (Store p, family, e)
      in_store p here None e = inr (store_only p root here e)

      in_way : (note : Note) → gathered_place o g root ≡ Under_way note → (noted : IsNoted o began nodes g note) → covers noted.chunk.note root ≡ true
          → (found : Option FamilyValue) → family_in noted.chunk.families root ≡ found → Stands root ⊎ HasNone g root
      in_way note way noted covered (Some family) e =
          let on = carried_on o began is nodes g gathers noted.chunk noted.cut root family covered e in
          inl (on.spot, on.now, on.stands)
      in_way note way noted covered None e = inr (chunk_only note root way noted covered e)

      at : (place : Place) → gathered_place o g root ≡ place → Stands root ⊎ HasNone g root
      at (At p) e = in_store p e (family_at_spot g (Store p) root) refl
      at (Under_way note) e =
          let first = way_cut (owner_in o g.stage root) note (find (λ note. covers note root) (cut_notes g)) (find (λ note. covers note root) (loaded_notes g)) e in
          let found = found_in (λ note. covers note root) (cut_notes g) note first in
          let noted = cut_note o began is nodes g gathers note found.0 in
          let covered = subst (λ (n : Note). covers n root ≡ true) (sym noted.same) found.1 in
          in_way note e noted covered (family_in noted.chunk.families root) refl

  -- what became of a receipt
  abbrev Aborts : ReceiptValue → Type 0
  Aborts receipt =
      ((spot : Spot) × (family : FamilyValue) × StandsAt g spot receipt.txn.root family × IsReplyIn family receipt)
      ⊎ (HasNone g receipt.txn.root × IsReplyIn (absent receipt.txn.root) receipt)

  -- a reply on what the root key was given
  given_aborts : (receipt : ReceiptValue) → IsReplyIn (given_family began receipt.txn.root) receipt → Aborts receipt
  given_aborts receipt told =
      ⊎_elim
      (λ (some : Stands receipt.txn.root).
      inl (some.0, some.1, some.2, reply_on (given_family began receipt.txn.root) some.1 receipt (grown_at o began is nodes g gathers some.0 receipt.txn.root some.1 some.2) told))
      (λ none. inr (none, subst (λ (one : FamilyValue). IsReplyIn one receipt) (not_given began receipt.txn.root (not_stood receipt.txn.root none)) told))
      (stands_or_not receipt.txn.root)
    where
      not_stood : (root : ℕ) → HasNone g root → is_given began root ≡ false
      not_stood root none =
          elim (cases_Bool (is_given began root)) [
            | inl given ↦ let some = all_given o began is nodes g gathers root given in absurd (none some.0 some.1 some.2)
            | inr e ↦ e
          ]

  -- a root key that came without a family was given none
  without_given : (q : ℕ) (node : NodeValue) (root : ℕ) → slice_get nodes q ≡ Some node → CameWithout began (HasLoaded node) root → is_given began root ≡ false
  without_given q node root at without =
      ⊎_elim
      (λ none. ap is_some none)
      (λ (came : (chunk : ChunkValue) × HasLoaded node chunk × (covers chunk.note root ≡ true) × (family_in chunk.families root ≡ None)).
      let c = loaded_at o began is nodes g gathers q node came.0 at came.1 in
      elim (cases_Bool (is_given began root)) [
        | inl given ↦ absurd (true≢false (sym ((whole o began is nodes g gathers came.0 c.0).given root came.2 given) ∙ ap is_some came.3))
        | inr e ↦ e
      ])
      without

  node_aborts : (receipt : ReceiptValue) → Contains (flat_map (λ (node : NodeValue). node.receipts) nodes) receipt → is_commit receipt.reply ≡ false → Aborts receipt
  node_aborts receipt has aborts =
      let found = flat_map_in (λ (node : NodeValue). node.receipts) nodes receipt has in
      let node = found.0 in
      let q = (found.1).0 in
      let at = slice_get-Contains nodes node found.1 in
      ⊎_elim
      (λ (kept : (family : FamilyValue) × IsStoredOrCut (HasCut node) node.store receipt.txn.root family × IsReplyIn family receipt).
      inl (⊎_elim
      (λ stored. (Store q, kept.0, stands_in_store o began nodes g gathers q receipt.txn.root node kept.0 at stored, kept.2))
      (λ (went : (chunk : ChunkValue) × HasCut node chunk × IsCarried chunk receipt.txn.root kept.0).
      let c = cut_at o began is nodes g gathers q node went.0 at went.1 in
      let on = carried_on o began is nodes g gathers went.0 c.0 receipt.txn.root kept.0 (carried o began is nodes g gathers went.0 c.0 receipt.txn.root kept.0 went.2) went.2 in
      (on.spot, on.now, on.stands, reply_on kept.0 on.now receipt on.grows kept.2))
      kept.1))
      (λ (none : CameWithout began (HasLoaded node) receipt.txn.root × IsReplyIn (absent receipt.txn.root) receipt).
      given_aborts receipt
      (subst (λ (one : FamilyValue). IsReplyIn one receipt) (sym (not_given began receipt.txn.root (without_given q node receipt.txn.root at none.0))) none.1))
      ((gathers.holds q node at).receipts.aborted receipt found.2 aborts)

  pub aborted : CanBegin o began → AreAborted g
  aborted can receipt has aborts =
      ⊎_elim
      (λ past. given_aborts receipt (can.aborted receipt past aborts))
      (λ here. node_aborts receipt here aborts)
      (Contains-append_cases began.receipts (flat_map (λ (node : NodeValue). node.receipts) nodes) receipt (subst (λ receipts. Contains receipts receipt) gathers.receipts has))
