-- The families of a partition once a chunk of them was cut.
use Rattle.std.proofs.Common.{◌≡◌, inl, inr, ⊎_elim, ℕ, Bool, true, false, if◌then◌else◌, List, Option, Some, None, refl, sym, ap, ◌∙◌, subst}
use Rattle.std.specs.Prelude.{◌≢◌, is_some}
use Rattle.std.specs.FinMap.{get}
use Rattle.std.proofs.lemmas.Bool.{cases_Bool}
use Rattle.sq_schema.specs.Family.{FamilyValue}
use Rattle.sq_store.specs.StoreValue.{StoreValue, family_in, families_between, without_between}
use Rattle.sq_store.proofs.Between.{IsRooted, family_in-between, within-between, get-without}
use Rattle.sq_store.specs.ChunkValue.{ChunkValue, covers, are_within}
use Rattle.sq_moves.specs.OpeningValue.{OpeningValue}
use Rattle.sq_model.specs.Staged.{owner_in}
use Rattle.sq_node_model.specs.BeganWith.{BeganWith}
use Rattle.sq_node_model.specs.NodeValue.{ReceiptValue}
use Rattle.sq_node_model.specs.Chunks.{IsCovered}
use Rattle.sq_node_model.specs.Receipts.{IsReplyIn}
use Rattle.sq_node_model.specs.OutHolds.{IsWholeChunk}
use Rattle.sq_node_model.specs.FamiliesHold.{IsHome, IsStored, IsCarried, IsStoredOrCut, StoreHolds, FamiliesHold, ReceiptsHold}
use Rattle.sq_node_model.proofs.OneMore.{IsOneMore}

-- where each stored family is its root key's, the store is kept by root key
pub rooted_store : {began : BeganWith} (o : OpeningValue) (part : ℕ) (cut loaded : ChunkValue → Type 0) (store : StoreValue) → FamiliesHold o began part cut loaded store → IsRooted store
rooted_store o part cut loaded store f = record { root = λ key family e. (f.keyed key family (inl e)).same_root }

-- the right one is found where a test holds, or where it doesn't, and the test says so
read_where : {X : Type 0} (test : Bool) (found stands : Option X) (x : X) → found ≡ (if test then stands else None) → found ≡ Some x → (stands ≡ Some x) × (test ≡ true)
read_where true found stands x is has = (sym is ∙ has, refl)
read_where false found stands x is has = absurd cc

read_elsewhere : {X : Type 0} (test : Bool) (found stands : Option X) (x : X) → found ≡ (if test then None else stands) → found ≡ Some x → (stands ≡ Some x) × (test ≡ false)
read_elsewhere true found stands x is has = absurd cc
read_elsewhere false found stands x is has = (sym is ∙ has, refl)

module _ {began : BeganWith} (o : OpeningValue) (part : ℕ) (cut now loaded : ChunkValue → Type 0) (store : StoreValue) (chunk : ChunkValue)
    (m : IsOneMore cut now chunk) (taken : chunk.families ≡ families_between store chunk.note.lo chunk.note.hi)
    (home : (root : ℕ) → covers chunk.note root ≡ true → IsHome o began.stage part cut root) (away : (root : ℕ) → IsCovered loaded root → owner_in o began.stage root ≢ part)
    (carried_loaded : (other : ChunkValue) (root : ℕ) (family : FamilyValue) → loaded other → IsCarried other root family → covers other.note root ≡ true)
    (s : StoreHolds o began part cut loaded store) (f : FamiliesHold o began part cut loaded store) where
  abbrev left : StoreValue
  left = without_between store chunk.note.lo chunk.note.hi

  is_left : (root : ℕ) → get left root ≡ (if covers chunk.note root then None else get store root)
  is_left root = get-without chunk.note.lo chunk.note.hi store root

  is_taken : (root : ℕ) → family_in chunk.families root ≡ (if covers chunk.note root then get store root else None)
  is_taken root = ap (λ families. family_in families root) taken ∙ family_in-between chunk.note.lo chunk.note.hi store root (rooted_store o part cut loaded store f)

  carried_stored : (root : ℕ) (family : FamilyValue) → IsCarried chunk root family → IsStored store root family × (covers chunk.note root ≡ true)
  carried_stored root family has = read_where (covers chunk.note root) (family_in chunk.families root) (get store root) family (is_taken root) has

  stored_carried : (root : ℕ) (family : FamilyValue) → IsStored store root family → covers chunk.note root ≡ true → IsCarried chunk root family
  stored_carried root family has e = is_taken root ∙ ap (λ c. if c then get store root else None) e ∙ has

  stored_before : (root : ℕ) (family : FamilyValue) → IsStored left root family → IsStored store root family × (covers chunk.note root ≡ false)
  stored_before root family has = read_elsewhere (covers chunk.note root) (get left root) (get store root) family (is_left root) has

  stored_after : (root : ℕ) (family : FamilyValue) → IsStored store root family → covers chunk.note root ≡ false → IsStored left root family
  stored_after root family has e = is_left root ∙ ap (λ c. if c then None else get store root) e ∙ has

  home_before : (root : ℕ) → IsHome o began.stage part now root → IsHome o began.stage part cut root
  home_before root h = record { owned = h.owned; uncut = λ other has. h.uncut other (m.more other has) }

  home_after : (root : ℕ) → IsHome o began.stage part cut root → covers chunk.note root ≡ false → IsHome o began.stage part now root
  home_after root h e = record {
    owned = h.owned;
    uncut = λ other has. ⊎_elim (λ old. h.uncut other old) (λ new. subst (λ (c : ChunkValue). covers c.note root ≡ false) new e) (m.only other has);
  }

  kept_before : (root : ℕ) (family : FamilyValue) → IsStoredOrCut now left root family → IsStoredOrCut cut store root family
  kept_before root family kept =
      ⊎_elim
      (λ stored. inl (stored_before root family stored).0)
      (λ went.
      ⊎_elim
      (λ old. inr (went.0, old, went.2))
      (λ new. inl (carried_stored root family (subst (λ c. IsCarried c root family) (sym new) went.2)).0)
      (m.only went.0 went.1))
      kept

  kept_after : (root : ℕ) (family : FamilyValue) → IsStoredOrCut cut store root family → IsStoredOrCut now left root family
  kept_after root family kept =
      ⊎_elim
      (λ stored.
      ⊎_elim
      (λ e. inr (chunk, m.new, stored_carried root family stored e))
      (λ e. inl (stored_after root family stored e))
      (cases_Bool (covers chunk.note root)))
      (λ went. inr (went.0, m.more went.0 went.1, went.2))
      kept

  -- a key that was loaded isn't among those that were cut
  uncovered : (root : ℕ) → IsCovered loaded root → covers chunk.note root ≡ false
  uncovered root covered =
      elim (cases_Bool (covers chunk.note root)) [
        | inl e ↦ absurd (away root covered (home root e).owned)
        | inr e ↦ e
      ]

  pub store_cut : StoreHolds o began part now loaded left
  store_cut = record {
    stored = λ root family has.
        let b = stored_before root family has in
        ⊎_elim (λ at_home. inl (home_after root at_home b.1)) (λ covered. inr covered) (s.stored root family b.0);
    home = λ root at_home opened.
        let found = s.home root (home_before root at_home) opened in
        (found.0, stored_after root found.0 found.1 (at_home.uncut chunk m.new));
    came = λ root other family has carried.
        let found = s.came root other family has carried in
        (found.0, stored_after root found.0 found.1 (uncovered root (other, has, carried_loaded other root family has carried)));
  }

  pub families_cut : FamiliesHold o began part now loaded left
  families_cut = record {
    keyed = λ root family kept. f.keyed root family (kept_before root family kept);
    home_grown = λ root family at_home has. f.home_grown root family (home_before root at_home) (stored_before root family has).0;
    cut_grown = λ root other family has carried.
        ⊎_elim
        (λ old. f.cut_grown root other family old carried)
        (λ new.
        let b = carried_stored root family (subst (λ c. IsCarried c root family) (sym new) carried) in
        f.home_grown root family (home root b.1) b.0)
        (m.only other has);
    grown = λ root other family has covered stored. f.grown root other family has covered (stored_before root family stored).0;
  }

  pub receipts_cut : (receipts : List ReceiptValue) → ReceiptsHold o began part cut loaded store receipts → ReceiptsHold o began part now loaded left receipts
  receipts_cut receipts r = record {
    named_home = λ root family kept owned position. r.named_home root family (kept_before root family kept) owned position;
    named_came = λ root other family has covered stored position. r.named_came root other family has covered (stored_before root family stored).0 position;
    told = λ receipt has commit. let t = r.told receipt has commit in (t.0, kept_after receipt.txn.root t.0 t.1, t.2);
    aborted = λ receipt has aborts.
        ⊎_elim
        (λ (old : (family : FamilyValue) × IsStoredOrCut cut store receipt.txn.root family × IsReplyIn family receipt). inl (old.0, kept_after receipt.txn.root old.0 old.1, old.2))
        (λ none. inr none)
        (r.aborted receipt has aborts);
  }

  -- the chunk has the families of its keys
  pub whole_cut : IsWholeChunk began chunk
  whole_cut = record {
    rising = subst (λ families. are_within chunk.note.lo chunk.note.hi families ≡ true) (sym taken) (within-between chunk.note.lo chunk.note.hi store (rooted_store o part cut loaded store f));
    given = λ root covered opened.
        let found = s.home root (home root covered) opened in
        ap is_some (stored_carried root found.0 found.1 covered);
  }
