-- The committed receipts of all nodes name each log position of each family once, and say what was done there.
use Rattle.std.proofs.Common.{◌≡◌, inl, inr, ⊎_elim, ℕ, ◌+◌, ◌≤◌, Bool, true, ◌&&◌, nat_le, nat_lt, List, length, slice_get, Contains, Option, Some, None, refl, sym, ap, ap₂, ◌∙◌, subst, arith}
use Rattle.std.specs.Prelude.{◌≢◌, unwrap_or}
use Rattle.std.specs.List.{flat_map}
use Rattle.std.proofs.lemmas.Bool.Decides.{nat_tests}
use Rattle.std.proofs.lemmas.List.{length-append}
use Rattle.std.proofs.lemmas.List.Elements.{Contains-append_cases}
use Rattle.sq_schema.specs.TxnValue.{TxnValue}
use Rattle.sq_schema.specs.Family.{FamilyValue}
use Rattle.sq_store.specs.StoreValue.{absent, family_in}
use Rattle.sq_store.specs.ChunkValue.{ChunkValue, covers}
use Rattle.sq_moves.specs.OpeningValue.{OpeningValue}
use Rattle.sq_moves.specs.Opening.{IsOpening}
use Rattle.sq_model.proofs.Lists.{slice_get-Contains, flat_map_in}
use Rattle.sq_model.specs.Staged.{owner_in}
use Rattle.sq_shared.specs.View.{one_if}
use Rattle.sq_node_model.specs.BeganWith.{BeganWith, given_family, CanBegin}
use Rattle.sq_node_model.specs.NodeValue.{NodeValue, ReceiptValue}
use Rattle.sq_node_model.specs.Chunks.{HasCut, HasLoaded, IsCovered}
use Rattle.sq_node_model.specs.FamiliesHold.{IsHome, IsCarried, IsStoredOrCut, GrowsFrom, brought}
use Rattle.sq_node_model.specs.Receipts.{is_commit, times_named, IsToldBy}
use Rattle.sq_node_model.specs.declared.spot.Spot.{Spot}
use Rattle.sq_node_model.specs.declared.spot.Spot.TheVariants.{Store, Chunk}
use Rattle.sq_node_model.specs.Gathered.{GatheredValue, Gathers}
use Rattle.sq_node_model.specs.Spots.{StandsAt}
use Rattle.sq_node_model.specs.Placed.{NameEach, AreTold}
use Rattle.sq_node_model.proofs.Facts.{cut_carried}
use Rattle.sq_node_model.proofs.Named.{unnamed}
use Rattle.sq_node_model.proofs.Told.{none_before}
use Rattle.sq_node_model.proofs.Began.{past_named}
use Rattle.sq_node_model.proofs.NamedAcross.{named_both, one_names, two_name}
use Rattle.sq_node_model.proofs.Cuts.{IsCutAt, cut_at, loaded_at, has_cut, moved, carried}
use Rattle.sq_node_model.proofs.Once.{are_one}
use Rattle.sq_node_model.proofs.Stands.{IsInStore, IsInChunk, in_store, in_chunk, stands_in_store}
use Rattle.sq_node_model.proofs.Places.{once}
use Rattle.sq_node_model.proofs.Families.{told_on, carried_on, brought_grown, grown_at, go_on}

-- the positions that were named before a family was moved, and those that were named after
split_named : (first all position : ℕ) → first ≤ all → one_if (nat_lt position first) + one_if (nat_le first position && nat_lt position all) ≡ one_if (nat_lt position all)
split_named first all position low = grind (arith, nat_tests)

-- the same, past the part that was given
split_between : (given first all position : ℕ) → given ≤ first → first ≤ all
    → one_if (nat_le given position && nat_lt position first) + one_if (nat_le first position && nat_lt position all) ≡ one_if (nat_le given position && nat_lt position all)
split_between given first all position low high = grind (arith, nat_tests)

grown_length : (first family : FamilyValue) → GrowsFrom first family → length first.log ≤ length family.log
grown_length first family grows =
    let all = ap (λ (log : List TxnValue). length log) grows.log.1 ∙ length-append first.log grows.log.0 in
    omega (arith, all)

module _ (o : OpeningValue) (began : BeganWith) (is : IsOpening o) (nodes : List NodeValue) (g : GatheredValue) (gathers : Gathers o began nodes g) where
  -- a node that keeps no family of a root key names no position of it
  silent : (q : ℕ) (node : NodeValue) (root position : ℕ) → slice_get nodes q ≡ Some node
      → ((family : FamilyValue) → IsStoredOrCut (HasCut node) node.store root family → ⊥) → times_named root position node.receipts ≡ 0
  silent q node root position at none =
      unnamed root position node.receipts
      (λ receipt has commit same.
      let told = (gathers.holds q node at).receipts.told receipt has commit in
      none told.0 (subst (λ k. IsStoredOrCut (HasCut node) node.store k told.0) same told.1))

  -- which one is that doesn't own the root key, and at which it has no family
  other_silent : (q : ℕ) (node : NodeValue) (root position : ℕ) → slice_get nodes q ≡ Some node
      → (spot : Spot) (family : FamilyValue) → StandsAt g spot root family → spot ≢ Store q → owner_in o began.stage root ≢ q → times_named root position node.receipts ≡ 0
  other_silent q node root position at spot family stands elsewhere owned =
      silent q node root position at
      (λ kept_one kept.
      ⊎_elim
      (λ stored. elsewhere (once o began is nodes g gathers spot (Store q) root family kept_one stands (stands_in_store o began nodes g gathers q root node kept_one at stored)))
      (λ (went : (chunk : ChunkValue) × HasCut node chunk × IsCarried chunk root kept_one).
      owned ((cut_carried o is node (gathers.holds q node at) went.0 root kept_one went.1 went.2).0 ∙ gathers.parts q node at))
      kept)

  -- the receipts of the nodes
  abbrev theirs : List ReceiptValue
  theirs = flat_map (λ (node : NodeValue). node.receipts) nodes

  -- the positions past what the root key was given
  abbrev is_past_given : ℕ → ℕ → FamilyValue → Bool
  is_past_given root position family = nat_le (length (given_family began root).log) position && nat_lt position (length family.log)

  all_named : (root position : ℕ) → times_named root position g.receipts ≡ times_named root position began.receipts + times_named root position theirs
  all_named root position = ap (times_named root position) gathers.receipts ∙ named_both root position (λ (node : NodeValue). node.receipts) began.receipts theirs

  -- where the nodes name the positions past what was given, all are named
  whole_log : (root position : ℕ) (spot : Spot) (family : FamilyValue) → CanBegin o began → StandsAt g spot root family → times_named root position theirs ≡ one_if (is_past_given root position family)
      → times_named root position g.receipts ≡ one_if (nat_lt position (length family.log))
  whole_log root position spot family can stands rest =
      all_named root position
      ∙ ap₂ (λ a b. a + b) (past_named o began can root position) rest
      ∙ split_named (length (given_family began root).log) (length family.log) position (grown_length (given_family began root) family (grown_at o began is nodes g gathers spot root family stands))

  -- a family that its owner keeps is named there alone
  named_once : (p : ℕ) (node : NodeValue) (root position : ℕ) (family : FamilyValue) → slice_get nodes p ≡ Some node → owner_in o began.stage root ≡ p → IsStoredOrCut (HasCut node) node.store root family
      → (spot : Spot) → StandsAt g spot root family → ((q : ℕ) → q ≢ p → spot ≢ Store q)
      → times_named root position theirs ≡ one_if (is_past_given root position family)
  named_once p node root position family at owned kept spot stands elsewhere =
      one_names root position (λ (node : NodeValue). node.receipts) nodes p node at
      (λ q other at' apart. other_silent q other root position at' spot family stands (elsewhere q apart) (λ e. apart (sym e ∙ owned)))
      ∙ (gathers.holds p node at).receipts.named_home root family kept (owned ∙ sym (gathers.parts p node at)) position

  home_named : (p root position : ℕ) (family : FamilyValue) (here : IsInStore nodes p root family) → StandsAt g (Store p) root family
      → IsHome o began.stage here.node.part (HasCut here.node) root → times_named root position theirs ≡ one_if (is_past_given root position family)
  home_named p root position family here stands home =
      named_once p here.node root position family here.there (home.owned ∙ gathers.parts p here.node here.there) (inl here.stored) (Store p) stands (λ q apart same. apart (let e = same in cc))

  way_named : (i j root position : ℕ) (family : FamilyValue) (way : IsInChunk o began nodes g i j root family)
      → StandsAt g (Chunk i j) root family → times_named root position theirs ≡ one_if (is_past_given root position family)
  way_named i j root position family way stands =
      let covered = carried o began is nodes g gathers way.chunk way.cut root family way.carried in
      named_once way.cut.link.src way.cut.ends.from root position family way.cut.ends.from_there
      (moved o began is nodes g gathers way.chunk way.cut root covered).source_is
      (inr (way.chunk, has_cut o began is nodes g gathers way.chunk way.cut, way.carried))
      (Chunk i j) stands (λ q apart same. absurd (let e = same in cc))

  module _ (p root position : ℕ) (family : FamilyValue) (here : IsInStore nodes p root family) (stands : StandsAt g (Store p) root family)
      (chunk : ChunkValue) (c : IsCutAt o began nodes g chunk) (covered : covers chunk.note root ≡ true) (to : c.link.dst ≡ p) where
    owner_is : owner_in o began.stage root ≡ c.link.src
    owner_is = (moved o began is nodes g gathers chunk c root covered).source_is

    away : c.link.src ≢ p
    away = λ e. (moved o began is nodes g gathers chunk c root covered).moves (e ∙ sym to)

    -- where a loaded chunk has no family of a root key, its source keeps none
    none_kept : family_in chunk.families root ≡ None → (other : FamilyValue) → IsStoredOrCut (HasCut c.ends.from) c.ends.from.store root other → ⊥
    none_kept none other kept =
        ⊎_elim
        (λ stored.
        let same = once o began is nodes g gathers (Store c.link.src) (Store p) root other family (stands_in_store o began nodes g gathers c.link.src root c.ends.from other c.ends.from_there stored) stands in
        away (let e = same in cc))
        (λ (went : (chunk : ChunkValue) × HasCut c.ends.from chunk × IsCarried chunk root other).
        let d = cut_at o began is nodes g gathers c.link.src c.ends.from went.0 c.ends.from_there went.1 in
        let same = are_one o began is nodes g gathers root went.0 chunk d.0 c (carried o began is nodes g gathers went.0 d.0 root other went.2) covered in
        absurd (let e = sym none ∙ ap (λ (c : ChunkValue). family_in c.families root) (sym same.same) ∙ went.2 in cc))
        kept

    -- the source names what a loaded chunk brought
    named_before : times_named root position c.ends.from.receipts ≡ one_if (is_past_given root position (brought chunk root))
    named_before = at (family_in chunk.families root) refl
      where
        at : (found : Option FamilyValue) → family_in chunk.families root ≡ found → times_named root position c.ends.from.receipts ≡ one_if (is_past_given root position (brought chunk root))
        at (Some first) e =
            c.ends.from_holds.receipts.named_home root first (inr (chunk, has_cut o began is nodes g gathers chunk c, e)) (owner_is ∙ sym c.ends.from_part) position
            ∙ sym (ap (λ found. one_if (is_past_given root position (unwrap_or found (absent root)))) e)
        at None e =
            silent c.link.src c.ends.from root position c.ends.from_there (none_kept e)
            ∙ sym (none_before (length (given_family began root).log) position)
            ∙ sym (ap (λ found. one_if (is_past_given root position (unwrap_or found (absent root)))) e)

    -- and the destination names the rest
    loaded_named : HasLoaded here.node chunk → times_named root position theirs ≡ one_if (is_past_given root position family)
    loaded_named has =
        let holds = gathers.holds p here.node here.there in
        let high = grown_length (brought chunk root) family (holds.families.grown root chunk family has covered here.stored) in
        let low = grown_length (given_family began root) (brought chunk root) (brought_grown o began is nodes g gathers chunk c root covered) in
        two_name root position (λ (node : NodeValue). node.receipts) nodes c.link.src p c.ends.from here.node c.ends.from_there here.there away
        (λ q other at one two. other_silent q other root position at (Store p) family stands (λ same. two (let e = same in cc)) (λ e. one (sym e ∙ owner_is)))
        ∙ ap₂ (λ a b. a + b) named_before (holds.receipts.named_came root chunk family has covered here.stored position)
        ∙ split_between (length (given_family began root).log) (length (brought chunk root).log) (length family.log) position low high

  theirs_named : (spot : Spot) (root : ℕ) (family : FamilyValue) → StandsAt g spot root family → (position : ℕ) → times_named root position theirs ≡ one_if (is_past_given root position family)
  theirs_named (Store p) root family stands position =
      let here = in_store o began nodes g gathers p root family stands in
      ⊎_elim
      (λ home. home_named p root position family here stands home)
      (λ (covered : IsCovered (HasLoaded here.node) root).
      let c = loaded_at o began is nodes g gathers p here.node covered.0 here.there covered.1 in
      loaded_named p root position family here stands covered.0 c.0 covered.2 c.1 covered.1)
      ((gathers.holds p here.node here.there).store.stored root family here.stored)
  theirs_named (Chunk i j) root family stands position = way_named i j root position family (in_chunk o began nodes g gathers i j root family stands) stands

  pub named : CanBegin o began → NameEach g
  named can spot root family stands position = whole_log root position spot family can stands (theirs_named spot root family stands position)

  -- what a node wrote
  node_told : (receipt : ReceiptValue) → Contains theirs receipt → is_commit receipt.reply ≡ true → (spot : Spot) × (family : FamilyValue) × StandsAt g spot receipt.txn.root family × IsToldBy family receipt
  node_told receipt has commit =
      let found = flat_map_in (λ (node : NodeValue). node.receipts) nodes receipt has in
      let node = found.0 in
      let q = (found.1).0 in
      let at = slice_get-Contains nodes node found.1 in
      let t = (gathers.holds q node at).receipts.told receipt found.2 commit in
      ⊎_elim
      (λ stored. (Store q, t.0, stands_in_store o began nodes g gathers q receipt.txn.root node t.0 at stored, t.2))
      (λ (went : (chunk : ChunkValue) × HasCut node chunk × IsCarried chunk receipt.txn.root t.0).
      let c = cut_at o began is nodes g gathers q node went.0 at went.1 in
      let on = carried_on o began is nodes g gathers went.0 c.0 receipt.txn.root t.0 (carried o began is nodes g gathers went.0 c.0 receipt.txn.root t.0 went.2) went.2 in
      (on.spot, on.now, on.stands, told_on t.0 on.now receipt on.grows t.2))
      t.1

  pub told : CanBegin o began → AreTold g
  told can receipt has commit =
      ⊎_elim
      (λ past.
      let t = can.told receipt past commit in
      let on = go_on o began is nodes g gathers receipt.txn.root t.0 t.1 in
      (on.0, on.1, on.2, told_on t.0 on.1 receipt on.3 t.2))
      (λ here. node_told receipt here commit)
      (Contains-append_cases began.receipts theirs receipt (subst (λ receipts. Contains receipts receipt) gathers.receipts has))
