-- The families of a partition once a chunk of them was loaded.
use Rattle.std.proofs.Common.{◌≡◌, ◌⊎◌, inl, inr, ⊎_elim, ℕ, true, ◌&&◌, nat_le, nat_lt, if◌then◌else◌, List, [], length, Option, Some, None, refl, sym, ap, ◌∙◌, subst}
use Rattle.std.specs.Prelude.{◌≢◌, is_some, unwrap_or}
use Rattle.std.specs.FinMap.{get}
use Rattle.std.proofs.lemmas.List.{append-nil}
use Rattle.sq_schema.specs.Family.{FamilyValue}
use Rattle.sq_store.specs.StoreValue.{StoreValue, absent, family_in, with_families}
use Rattle.sq_store.proofs.Rising.{get-with_families}
use Rattle.sq_store.specs.ChunkValue.{ChunkValue, covers, are_within}
use Rattle.sq_moves.specs.OpeningValue.{OpeningValue}
use Rattle.sq_model.specs.Staged.{owner_in}
use Rattle.sq_shared.specs.View.{one_if}
use Rattle.sq_node_model.specs.BeganWith.{BeganWith}
use Rattle.sq_node_model.specs.NodeValue.{ReceiptValue}
use Rattle.sq_node_model.specs.Chunks.{IsCovered}
use Rattle.sq_node_model.specs.Receipts.{times_named, IsReplyIn}
use Rattle.sq_node_model.specs.FamiliesHold.{IsStored, IsStoredOrCut, IsCarried, IsOf, GrowsFrom, brought, CameWithout, StoreHolds, FamiliesHold, ReceiptsHold}
use Rattle.sq_node_model.proofs.OneMore.{IsOneMore}
use Rattle.sq_node_model.proofs.Carried.{carried_covered}
use Rattle.sq_node_model.proofs.Named.{unnamed, none_between}

module _ {began : BeganWith} (o : OpeningValue) (part : ℕ) (cut loaded now : ChunkValue → Type 0) (store : StoreValue) (chunk : ChunkValue)
    (m : IsOneMore loaded now chunk) (rising : are_within chunk.note.lo chunk.note.hi chunk.families ≡ true) (own : (root : ℕ) (family : FamilyValue) → IsCarried chunk root family → IsOf root family)
    (fresh : (root : ℕ) → covers chunk.note root ≡ true → IsCovered loaded root → ⊥) (away : (root : ℕ) → IsCovered now root → owner_in o began.stage root ≢ part)
    (carried_cut : (other : ChunkValue) (root : ℕ) (family : FamilyValue) → cut other → IsCarried other root family → owner_in o began.stage root ≡ part)
    (s : StoreHolds o began part cut loaded store) (f : FamiliesHold o began part cut loaded store) where
  abbrev more : StoreValue
  more = with_families store chunk.families

  is_more : (root : ℕ) → get more root ≡ (if is_some (family_in chunk.families root) then family_in chunk.families root else get store root)
  is_more root = get-with_families chunk.note.lo chunk.note.hi chunk.families store root rising

  covered : (root : ℕ) (family : FamilyValue) → IsCarried chunk root family → covers chunk.note root ≡ true
  covered root family has = carried_covered chunk root family rising has

  -- a key of the chunk isn't the partition's own, and had no family here
  not_own : (root : ℕ) → covers chunk.note root ≡ true → owner_in o began.stage root ≢ part
  not_own root e = away root (chunk, m.new, e)

  not_stored : (root : ℕ) (family : FamilyValue) → covers chunk.note root ≡ true → IsStored store root family → ⊥
  not_stored root family e stored =
      ⊎_elim (λ at_home. not_own root e at_home.owned) (λ before. fresh root e before) (s.stored root family stored)

  carried_stored : (root : ℕ) (family : FamilyValue) → IsCarried chunk root family → IsStored more root family
  carried_stored root family has = is_more root ∙ (λ i. if is_some (has i) then has i else get store root)

  -- a family is here now that the chunk brought, or one that was here
  stored_before : (root : ℕ) (family : FamilyValue) → IsStored more root family → IsCarried chunk root family ⊎ ((family_in chunk.families root ≡ None) × IsStored store root family)
  stored_before root family has = here (family_in chunk.families root) refl
    where
      here : (found : Option FamilyValue) → family_in chunk.families root ≡ found → IsCarried chunk root family ⊎ ((family_in chunk.families root ≡ None) × IsStored store root family)
      here (Some other) e = inl (e ∙ (sym (is_more root ∙ (λ i. if is_some (e i) then e i else get store root)) ∙ has))
      here None e = inr (e, sym (is_more root ∙ (λ i. if is_some (e i) then e i else get store root)) ∙ has)

  stored_after : (root : ℕ) (family : FamilyValue) → IsStored store root family → IsStored more root family
  stored_after root family stored = here (family_in chunk.families root) refl
    where
      here : (found : Option FamilyValue) → family_in chunk.families root ≡ found → IsStored more root family
      here (Some other) e = absurd (not_stored root family (covered root other e) stored)
      here None e = is_more root ∙ (λ i. if is_some (e i) then e i else get store root) ∙ stored

  -- where the key isn't the chunk's
  stored_other : (root : ℕ) (family : FamilyValue) → IsStored more root family → (covers chunk.note root ≡ true → ⊥) → IsStored store root family
  stored_other root family has apart = ⊎_elim (λ carried. absurd (apart (covered root family carried))) (λ old. old.1) (stored_before root family has)

  own_apart : (root : ℕ) → owner_in o began.stage root ≡ part → covers chunk.note root ≡ true → ⊥
  own_apart root owned e = not_own root e owned

  pub store_loaded : StoreHolds o began part cut now more
  store_loaded = record {
    stored = λ root family has.
        ⊎_elim
        (λ carried. inr (chunk, m.new, covered root family carried))
        (λ old. ⊎_elim (λ at_home. inl at_home) (λ before. inr (before.0, m.more before.0 before.1, before.2)) (s.stored root family old.1))
        (stored_before root family has);
    home = λ root at_home opened. let found = s.home root at_home opened in (found.0, stored_after root found.0 found.1);
    came = λ root other family has carried.
        ⊎_elim
        (λ old. let found = s.came root other family old carried in (found.0, stored_after root found.0 found.1))
        (λ new. (family, carried_stored root family (subst (λ c. IsCarried c root family) (sym new) carried)))
        (m.only other has);
  }

  -- what was brought and is in the store is what it was
  brought_is : (root : ℕ) (family : FamilyValue) → IsCarried chunk root family → brought chunk root ≡ family
  brought_is root family carried = ap (λ found. unwrap_or found (absent root)) carried

  brought_now : (root : ℕ) (family : FamilyValue) → covers chunk.note root ≡ true → IsStored more root family → IsCarried chunk root family
  brought_now root family e has = ⊎_elim (λ carried. carried) (λ old. absurd (not_stored root family e old.1)) (stored_before root family has)

  grows_itself : (family : FamilyValue) → GrowsFrom family family
  grows_itself family = record { base = refl; log = ([], sym (append-nil family.log)) }

  pub families_loaded : FamiliesHold o began part cut now more
  families_loaded = record {
    keyed = λ root family kept.
        ⊎_elim
        (λ stored. ⊎_elim (λ carried. own root family carried) (λ old. f.keyed root family (inl old.1)) (stored_before root family stored))
        (λ went. f.keyed root family (inr went))
        kept;
    home_grown = λ root family at_home has. f.home_grown root family at_home (stored_other root family has (own_apart root at_home.owned));
    cut_grown = f.cut_grown;
    grown = λ root other family has e stored.
        ⊎_elim
        (λ old. f.grown root other family old e (stored_other root family stored (λ here. fresh root here (other, old, e))))
        (λ new.
        subst (λ c. GrowsFrom (brought c root) family) new
        (let carried = brought_now root family (subst (λ (c : ChunkValue). covers c.note root ≡ true) (sym new) e) stored in
        subst (λ first. GrowsFrom first family) (sym (brought_is root family carried)) (grows_itself family)))
        (m.only other has);
  }

  -- nothing is named of a key that wasn't here
  none_named : (receipts : List ReceiptValue) → ReceiptsHold o began part cut loaded store receipts → (root : ℕ) → covers chunk.note root ≡ true → (position : ℕ) → times_named root position receipts ≡ 0
  none_named receipts r root e position =
      unnamed root position receipts (λ receipt has commit of_root.
      let t = r.told receipt has commit in
      ⊎_elim
      (λ stored. not_stored root t.0 e (subst (λ k. IsStored store k t.0) of_root stored))
      (λ went. own_apart root (carried_cut went.0 root t.0 went.1 (subst (λ k. IsCarried went.0 k t.0) of_root went.2)) e)
      t.1)

  without_now : (root : ℕ) → CameWithout began loaded root → CameWithout began now root
  without_now root without =
      ⊎_elim
      (λ none. inl none)
      (λ (came : (other : ChunkValue) × loaded other × (covers other.note root ≡ true) × (family_in other.families root ≡ None)). inr (came.0, m.more came.0 came.1, came.2, came.3))
      without

  pub receipts_loaded : (receipts : List ReceiptValue) → ReceiptsHold o began part cut loaded store receipts → ReceiptsHold o began part cut now more receipts
  receipts_loaded receipts r = record {
    named_home = λ root family kept owned position.
        ⊎_elim
        (λ stored. r.named_home root family (inl (stored_other root family stored (own_apart root owned))) owned position)
        (λ went. r.named_home root family (inr went) owned position)
        kept;
    named_came = λ root other family has e stored position.
        ⊎_elim
        (λ old. r.named_came root other family old e (stored_other root family stored (λ here. fresh root here (other, old, e))) position)
        (λ new.
        let here = subst (λ (c : ChunkValue). covers c.note root ≡ true) (sym new) e in
        let carried = brought_now root family here stored in
        none_named receipts r root here position
        ∙ sym (ap (λ c. one_if (nat_le (length (brought c root).log) position && nat_lt position (length family.log))) (sym new)
        ∙ ap (λ first. one_if (nat_le (length first.log) position && nat_lt position (length family.log))) (brought_is root family carried)
        ∙ none_between (length family.log) position))
        (m.only other has);
    told = λ receipt has commit.
        let t = r.told receipt has commit in
        (t.0, ⊎_elim (λ stored. inl (stored_after receipt.txn.root t.0 stored)) (λ went. inr went) t.1, t.2);
    aborted = λ receipt has aborts.
        ⊎_elim
        (λ (old : (family : FamilyValue) × IsStoredOrCut cut store receipt.txn.root family × IsReplyIn family receipt).
        inl (old.0, ⊎_elim (λ stored. inl (stored_after receipt.txn.root old.0 stored)) (λ went. inr went) old.1, old.2))
        (λ (none : CameWithout began loaded receipt.txn.root × IsReplyIn (absent receipt.txn.root) receipt). inr (without_now receipt.txn.root none.0, none.1))
        (r.aborted receipt has aborts);
  }
