-- The families of a partition once a transaction was answered at it.
use Rattle.std.proofs.Common.{◌≡◌, ◌⊎◌, inl, inr, ⊎_elim, ℕ, suc, ◌+◌, ◌≤◌, true, false, ◌==◌, ◌&&◌, nat_le, nat_lt, if◌then◌else◌, List, [], ◌∷◌, ◌++◌, length, take, Option, Some, None, refl, sym, ap, ◌∙◌, subst, true≢false, append_assoc, append-nil, length-append, arith}
use Rattle.std.specs.Prelude.{◌≢◌, not, is_some, unwrap_or}
use Rattle.std.specs.Cmp.{unsigned_tied, nat_cmp_total}
use Rattle.std.specs.FinMap.{get, insert, get-insert}
use Rattle.std.proofs.lemmas.Bool.{cases_Bool, ne_eqb, eq-eqb}
use Rattle.std.proofs.lemmas.Bool.Decides.{eqb_tells}
use Rattle.std.proofs.lemmas.List.Elements.{All-nil, All-push, Contains-push_cases}
use Rattle.std.proofs.Math.Seq.{take-append_seam}
use Rattle.sq_schema.specs.TxnValue.{TxnValue}
use Rattle.sq_schema.specs.declared.txn.Reply.{Reply}
use Rattle.sq_schema.specs.Effect.{RowList, replay_rows, reply}
use Rattle.sq_schema.specs.Family.{FamilyValue, logged}
use Rattle.sq_store.specs.StoreValue.{StoreValue, absent, family_at, family_in, store_reply}
use Rattle.sq_store.proofs.Applies.{found_family, absent_family}
use Rattle.sq_store.specs.ChunkValue.{ChunkValue, covers}
use Rattle.sq_moves.specs.OpeningValue.{OpeningValue}
use Rattle.sq_model.specs.Tables.{opening_rows}
use Rattle.sq_model.specs.Staged.{owner_in}
use Rattle.sq_shared.specs.View.{one_if}
use Rattle.sq_node_model.specs.BeganWith.{BeganWith, is_given, given_family, is_opened}
use Rattle.sq_node_model.specs.NodeValue.{ReceiptValue}
use Rattle.sq_node_model.specs.Steps.{receipt_of}
use Rattle.sq_node_model.specs.Chunks.{IsCovered}
use Rattle.sq_node_model.specs.Receipts.{is_commit, names, times_named, IsToldBy, IsReplyIn}
use Rattle.sq_node_model.specs.FamiliesHold.{IsHome, IsStored, IsCarried, IsStoredOrCut, IsOf, GrowsFrom, brought, CameWithout, IsAbortHere, StoreHolds, FamiliesHold, ReceiptsHold}
use Rattle.sq_node_model.proofs.Named.{unnamed, named_more}
use Rattle.sq_node_model.proofs.Told.{told_more, told_new, reply_on, one_more_position, none_before}

-- a root key that was given no family
pub not_given : (began : BeganWith) (root : ℕ) → is_given began root ≡ false → given_family began root ≡ absent root
not_given began root none = here (began.families root) refl none
  where
    here : (found : Option FamilyValue) → began.families root ≡ found → is_some (began.families root) ≡ false → given_family began root ≡ absent root
    here (Some family) e none = absurd (true≢false (sym (ap is_some e) ∙ none))
    here None e none = ap (λ found. unwrap_or found (absent root)) e

-- a family continues itself
pub grows_itself : (family : FamilyValue) → GrowsFrom family family
grows_itself family = record { base = refl; log = ([], sym (append-nil family.log)) }

-- a root key without opening rows
pub not_opened : (o : OpeningValue) (root : ℕ) → is_opened o root ≡ false → opening_rows o root ≡ []
not_opened o root none = here (opening_rows o root) none
  where
    here : (rows : RowList) → not (length rows == 0) ≡ false → rows ≡ []
    here [] e = refl
    here (row ∷ rows) e = absurd (true≢false (sym (ap not (ne_eqb (suc (length rows)) 0 (λ z. omega (arith, z)))) ∙ e))

-- a value is none if it isn't some
none_is : {X : Type 0} (found : Option X) → is_some found ≡ false → found ≡ None
none_is None e = refl
none_is (Some x) e = absurd (true≢false e)

module _ {began : BeganWith} (o : OpeningValue) (part : ℕ) (cut loaded : ChunkValue → Type 0) (store : StoreValue) (txn : TxnValue)
    (here : IsHome o began.stage part cut txn.root ⊎ IsCovered loaded txn.root) (away : (root : ℕ) → IsCovered loaded root → owner_in o began.stage root ≢ part)
    (carried_cut : (other : ChunkValue) (root : ℕ) (family : FamilyValue) → cut other → IsCarried other root family → (owner_in o began.stage root ≡ part) × (covers other.note root ≡ true))
    (s : StoreHolds o began part cut loaded store) (f : FamiliesHold o began part cut loaded store) where
  abbrev was : FamilyValue
  was = family_at store txn.root

  abbrev new : FamilyValue
  new = logged was txn

  abbrev more : StoreValue
  more = insert store txn.root new

  is_more : (root : ℕ) → get more root ≡ (if root == txn.root then Some new else get store root)
  is_more root = get-insert nat_cmp_total store txn.root new root ∙ ap (λ b. if b then Some new else get store root) (unsigned_tied root txn.root)

  stored_now : (root : ℕ) (family : FamilyValue) → IsStored more root family → ((root ≡ txn.root) × (new ≡ family)) ⊎ ((root ≢ txn.root) × IsStored store root family)
  stored_now root family has =
      ⊎_elim
      (λ e. inl (e.1, let found = sym (is_more root ∙ ap (λ b. if b then Some new else get store root) e.0) ∙ has in cc))
      (λ e. inr (e.1, sym (is_more root ∙ ap (λ b. if b then Some new else get store root) e.0) ∙ has))
      (eqb_tells root txn.root)

  stored_new : (root : ℕ) → root ≡ txn.root → IsStored more root new
  stored_new root same = is_more root ∙ ap (λ b. if b then Some new else get store root) (eq-eqb root txn.root same)

  stored_other : (root : ℕ) (family : FamilyValue) → root ≢ txn.root → IsStored store root family → IsStored more root family
  stored_other root family apart has = is_more root ∙ ap (λ b. if b then Some new else get store root) (ne_eqb root txn.root apart) ∙ has

  stored_some : (root : ℕ) (family : FamilyValue) → IsStored store root family → (now : FamilyValue) × IsStored more root now
  stored_some root family has =
      ⊎_elim (λ e. (new, stored_new root e.1)) (λ e. (family, stored_other root family e.1 has)) (eqb_tells root txn.root)

  -- the family was there before, or is an empty one
  stood : IsStored store txn.root was ⊎ ((get store txn.root ≡ None) × (was ≡ absent txn.root))
  stood = by (get store txn.root) refl
    where
      by : (found : Option FamilyValue) → get store txn.root ≡ found → IsStored store txn.root was ⊎ ((get store txn.root ≡ None) × (was ≡ absent txn.root))
      by (Some family) e = inl (e ∙ ap Some (sym (found_family store txn.root family e)))
      by None e = inr (e, absent_family store txn.root e)

  not_stored : (family : FamilyValue) → get store txn.root ≡ None → IsStored store txn.root family → ⊥
  not_stored family none has = let e = sym none ∙ has in cc

  -- no chunk that was cut has the root key
  not_carried : (other : ChunkValue) (family : FamilyValue) → cut other → IsCarried other txn.root family → ⊥
  not_carried other family has carried =
      let c = carried_cut other txn.root family has carried in
      ⊎_elim
      (λ at_home. true≢false (sym c.1 ∙ at_home.uncut other has))
      (λ covered. away txn.root covered c.0)
      here

  was_of : IsOf txn.root was
  was_of =
      ⊎_elim
      (λ has. f.keyed txn.root was (inl has))
      (λ none. subst (IsOf txn.root) (sym none.1) (record { same_root = refl; own_log = All-nil (λ (other : TxnValue). other.root ≡ txn.root) }))
      stood

  pub store_answered : StoreHolds o began part cut loaded more
  store_answered = record {
    stored = λ root family has.
        ⊎_elim
        (λ same. subst (λ k. IsHome o began.stage part cut k ⊎ IsCovered loaded k) (sym same.0) here)
        (λ old. s.stored root family old.1)
        (stored_now root family has);
    home = λ root at_home opened. let found = s.home root at_home opened in stored_some root found.0 found.1;
    came = λ root other family has carried. let found = s.came root other family has carried in stored_some root found.0 found.1;
  }

  -- a root key at home without a family was given none
  not_given_here : get store txn.root ≡ None → IsHome o began.stage part cut txn.root → is_given began txn.root ≡ false
  not_given_here none at_home =
      elim (cases_Bool (is_given began txn.root)) [
        | inl given ↦ let found = s.home txn.root at_home given in absurd (not_stored found.0 none found.1)
        | inr e ↦ e
      ]

  -- the family continues what the root key was given, also where that is nothing
  home_was_grown : IsHome o began.stage part cut txn.root → GrowsFrom (given_family began txn.root) was
  home_was_grown at_home =
      ⊎_elim
      (λ has. f.home_grown txn.root was at_home has)
      (λ none.
      subst (λ first. GrowsFrom first was)
      (none.1 ∙ sym (not_given began txn.root (not_given_here none.0 at_home)))
      (grows_itself was))
      stood

  home_here : owner_in o began.stage txn.root ≡ part → IsHome o began.stage part cut txn.root
  home_here owned = ⊎_elim (λ at_home. at_home) (λ covered. absurd (away txn.root covered owned)) here

  -- the family continues what was brought, also where that is nothing
  was_grown : (other : ChunkValue) → loaded other → covers other.note txn.root ≡ true → GrowsFrom (brought other txn.root) was
  was_grown other has covered =
      ⊎_elim
      (λ stored. f.grown txn.root other was has covered stored)
      (λ none. subst (GrowsFrom (brought other txn.root)) (sym none.1) (nothing none.0 (family_in other.families txn.root) refl))
      stood
    where
      nothing : get store txn.root ≡ None → (found : Option FamilyValue) → family_in other.families txn.root ≡ found → GrowsFrom (brought other txn.root) (absent txn.root)
      nothing none (Some family) e = let found = s.came txn.root other family has e in absurd (not_stored found.0 none found.1)
      nothing none None e =
          subst (λ first. GrowsFrom first (absent txn.root)) (sym (ap (λ found. unwrap_or found (absent txn.root)) e))
          (record { base = refl; log = ([], refl) })

  new_grown : (first : FamilyValue) → GrowsFrom first was → GrowsFrom first new
  new_grown first g = record {
    base = g.base;
    log = (g.log.0 ++ txn ∷ [], ap (λ log. log ++ txn ∷ []) g.log.1 ∙ append_assoc first.log g.log.0 (txn ∷ []));
  }

  pub families_answered : FamiliesHold o began part cut loaded more
  families_answered = record {
    keyed = λ root family kept.
        ⊎_elim
        (λ stored.
        ⊎_elim
        (λ same.
        subst (IsOf root) same.1
        (subst (λ k. IsOf k new) (sym same.0)
        (record { same_root = was_of.same_root; own_log = All-push (λ (other : TxnValue). other.root ≡ txn.root) was.log txn was_of.own_log refl })))
        (λ old. f.keyed root family (inl old.1))
        (stored_now root family stored))
        (λ went. f.keyed root family (inr went))
        kept;
    home_grown = λ root family at_home has.
        ⊎_elim
        (λ same.
        subst (λ now. GrowsFrom (given_family began root) now) same.1
        (subst (λ k. GrowsFrom (given_family began k) new) (sym same.0)
        (new_grown (given_family began txn.root) (home_was_grown (subst (IsHome o began.stage part cut) same.0 at_home)))))
        (λ old. f.home_grown root family at_home old.1)
        (stored_now root family has);
    cut_grown = f.cut_grown;
    grown = λ root other family has covered stored.
        ⊎_elim
        (λ same.
        subst (λ now. GrowsFrom (brought other root) now) same.1
        (subst (λ k. GrowsFrom (brought other k) new) (sym same.0)
        (new_grown (brought other txn.root) (was_grown other has (subst (λ k. covers other.note k ≡ true) same.0 covered)))))
        (λ old. f.grown root other family has covered old.1)
        (stored_now root family stored);
  }

  -- a root key without a family here came without one
  came_without : get store txn.root ≡ None → CameWithout began loaded txn.root
  came_without none =
      ⊎_elim
      (λ at_home. inl (none_is (began.families txn.root) (not_given_here none at_home)))
      (λ (covered : IsCovered loaded txn.root).
      let chunk = covered.0 in
      inr (chunk, covered.1, covered.2, nothing chunk covered.1 (family_in chunk.families txn.root) refl))
      here
    where
      nothing : (other : ChunkValue) → loaded other → (found : Option FamilyValue) → family_in other.families txn.root ≡ found → family_in other.families txn.root ≡ None
      nothing other has (Some family) e = let found = s.came txn.root other family has e in absurd (not_stored found.0 none found.1)
      nothing other has None e = e

  -- the reply is that of the next position of the log
  reply_here : (given : Reply) → given ≡ store_reply store txn → IsReplyIn was (receipt_of store txn given)
  reply_here given is = record {
    within = omega arith;
    told =
        is ∙ ap (λ log. reply (replay_rows was.base log) txn)
        (sym (ap (take (length was.log)) (sym (append-nil was.log)) ∙ take-append_seam was.log []));
  }

  abort_here : (given : Reply) → given ≡ store_reply store txn → IsAbortHere began cut loaded store (receipt_of store txn given)
  abort_here given is =
      ⊎_elim
      (λ has. inl (was, inl has, reply_here given is))
      (λ none. inr (came_without none.0, subst (λ (one : FamilyValue). IsReplyIn one (receipt_of store txn given)) none.1 (reply_here given is)))
      stood

  -- a transaction that aborted leaves a receipt and nothing else
  pub receipts_aborted : (receipts : List ReceiptValue) → ReceiptsHold o began part cut loaded store receipts → (given : Reply) → is_commit given ≡ false → given ≡ store_reply store txn
      → ReceiptsHold o began part cut loaded store (receipts ++ receipt_of store txn given ∷ [])
  receipts_aborted receipts r given aborts is = record {
    named_home = λ root family kept owned position. same root position ∙ r.named_home root family kept owned position;
    named_came = λ root chunk family has covered stored position. same root position ∙ r.named_came root chunk family has covered stored position;
    told = λ other has commit.
        ⊎_elim
        (λ old. r.told other old commit)
        (λ new. absurd (true≢false (sym commit ∙ ap (λ (one : ReceiptValue). is_commit one.reply) (sym new) ∙ aborts)))
        (Contains-push_cases receipts (receipt_of store txn given) other has);
    aborted = λ other has aborted.
        ⊎_elim
        (λ old. r.aborted other old aborted)
        (λ new. subst (IsAbortHere began cut loaded store) new (abort_here given is))
        (Contains-push_cases receipts (receipt_of store txn given) other has);
  }
    where
      same : (root position : ℕ) → times_named root position (receipts ++ receipt_of store txn given ∷ []) ≡ times_named root position receipts
      same root position =
          let none : one_if (names root position (receipt_of store txn given)) ≡ 0 = ap (λ b. one_if (b && ((txn.root == root) && (length was.log == position)))) aborts in
          named_more root position receipts (receipt_of store txn given)
          ∙ (let e : times_named root position receipts + one_if (names root position (receipt_of store txn given)) ≡ times_named root position receipts = omega (arith, none) in e)

  module _ (receipts : List ReceiptValue) (r : ReceiptsHold o began part cut loaded store receipts) (given : Reply) (commits : is_commit given ≡ true) (is : given ≡ store_reply store txn) where
    abbrev receipt : ReceiptValue
    receipt = receipt_of store txn given

    -- the new receipt names the next position of the root key's log, and no other
    times_here : (position : ℕ) → times_named txn.root position (receipts ++ receipt ∷ []) ≡ times_named txn.root position receipts + one_if (length was.log == position)
    times_here position =
        named_more txn.root position receipts receipt
        ∙ ap (λ b. times_named txn.root position receipts + one_if b)
        ((λ i. commits i && (eq-eqb txn.root txn.root refl i && (length was.log == position))))

    times_other : (root position : ℕ) → root ≢ txn.root → times_named root position (receipts ++ receipt ∷ []) ≡ times_named root position receipts
    times_other root position apart =
        let none : one_if (names root position receipt) ≡ 0 =
        (λ i. one_if (commits i && (ne_eqb txn.root root (λ e. apart (sym e)) i && (length was.log == position)))) in
        named_more root position receipts receipt
        ∙ (let e : times_named root position receipts + one_if (names root position receipt) ≡ times_named root position receipts = omega (arith, none) in e)

    -- where it had no family no position was named
    none_named : get store txn.root ≡ None → (position : ℕ) → times_named txn.root position receipts ≡ 0
    none_named none position =
        unnamed txn.root position receipts (λ other has commit of_root.
        let t = r.told other has commit in
        ⊎_elim
        (λ stored. not_stored t.0 none (subst (λ k. IsStored store k t.0) of_root stored))
        (λ went. not_carried went.0 t.0 went.1 (subst (λ k. IsCarried went.0 k t.0) of_root went.2))
        t.1)

    empty_log : was ≡ absent txn.root → length was.log ≡ 0
    empty_log none = ap (λ (family : FamilyValue). length family.log) none

    length_new : length new.log ≡ length was.log + 1
    length_new = length-append was.log (txn ∷ [])

    named_here : (first position : ℕ) → first ≤ length was.log → times_named txn.root position receipts ≡ one_if (nat_le first position && nat_lt position (length was.log))
        → times_named txn.root position (receipts ++ receipt ∷ []) ≡ one_if (nat_le first position && nat_lt position (length new.log))
    named_here first position low before =
        times_here position
        ∙ ap (λ n. n + one_if (length was.log == position)) before
        ∙ one_more_position first (length was.log) position low
        ∙ ap (λ n. one_if (nat_le first position && nat_lt position n)) (sym length_new)

    home_before : owner_in o began.stage txn.root ≡ part → (position : ℕ)
        → times_named txn.root position receipts ≡ one_if (nat_le (length (given_family began txn.root).log) position && nat_lt position (length was.log))
    home_before owned position =
        ⊎_elim
        (λ has. r.named_home txn.root was (inl has) owned position)
        (λ none.
        none_named none.0 position
        ∙ sym (ap (λ n. one_if (nat_le (length (given_family began txn.root).log) position && nat_lt position n)) (empty_log none.1)
        ∙ none_before (length (given_family began txn.root).log) position))
        stood

    came_before : (other : ChunkValue) → loaded other → covers other.note txn.root ≡ true → (position : ℕ)
        → times_named txn.root position receipts ≡ one_if (nat_le (length (brought other txn.root).log) position && nat_lt position (length was.log))
    came_before other has covered position =
        ⊎_elim
        (λ stored. r.named_came txn.root other was has covered stored position)
        (λ none.
        none_named none.0 position
        ∙ sym (ap (λ n. one_if (nat_le (length (brought other txn.root).log) position && nat_lt position n)) (empty_log none.1)
        ∙ none_before (length (brought other txn.root).log) position))
        stood

    first_below : (first : FamilyValue) → GrowsFrom first was → length first.log ≤ length was.log
    first_below first g = let sum = ap length g.log.1 ∙ length-append first.log g.log.0 in omega (arith, sum)

    told_now : (other : ReceiptValue) → (family : FamilyValue) → IsStoredOrCut cut store other.txn.root family → IsToldBy family other → (now : FamilyValue) × IsStoredOrCut cut more other.txn.root now × IsToldBy now other
    told_now other family kept t =
        ⊎_elim
        (λ stored.
        ⊎_elim
        (λ e.
        let is_was : family ≡ was = sym (found_family store txn.root family (subst (λ k. IsStored store k family) e.1 stored)) in
        (new, inl (stored_new other.txn.root e.1), told_more was txn other (subst (λ one. IsToldBy one other) is_was t)))
        (λ e. (family, inl (stored_other other.txn.root family e.1 stored), t))
        (eqb_tells other.txn.root txn.root))
        (λ went. (family, inr went, t))
        kept

    reply_now : (other : ReceiptValue) → (family : FamilyValue) → IsStoredOrCut cut store other.txn.root family → IsReplyIn family other → (now : FamilyValue) × IsStoredOrCut cut more other.txn.root now × IsReplyIn now other
    reply_now other family kept t =
        ⊎_elim
        (λ stored.
        ⊎_elim
        (λ e.
        let is_was : family ≡ was = sym (found_family store txn.root family (subst (λ k. IsStored store k family) e.1 stored)) in
        (new, inl (stored_new other.txn.root e.1), reply_on was new other (new_grown was (grows_itself was)) (subst (λ one. IsReplyIn one other) is_was t)))
        (λ e. (family, inl (stored_other other.txn.root family e.1 stored), t))
        (eqb_tells other.txn.root txn.root))
        (λ went. (family, inr went, t))
        kept

    pub receipts_answered : ReceiptsHold o began part cut loaded more (receipts ++ receipt ∷ [])
    receipts_answered = record {
      named_home = λ root family kept owned position.
          ⊎_elim
          (λ stored.
          ⊎_elim
          (λ same.
          let owned_here : owner_in o began.stage txn.root ≡ part = ap (owner_in o began.stage) (sym same.0) ∙ owned in
          ap (λ k. times_named k position (receipts ++ receipt ∷ [])) same.0
          ∙ named_here (length (given_family began txn.root).log) position (first_below (given_family began txn.root) (home_was_grown (home_here owned_here))) (home_before owned_here position)
          ∙ ap (λ k. one_if (nat_le (length (given_family began k).log) position && nat_lt position (length new.log))) (sym same.0)
          ∙ ap (λ (now : FamilyValue). one_if (nat_le (length (given_family began root).log) position && nat_lt position (length now.log))) same.1)
          (λ old. times_other root position old.0 ∙ r.named_home root family (inl old.1) owned position)
          (stored_now root family stored))
          (λ went.
          times_other root position (λ same. not_carried went.0 family went.1 (subst (λ k. IsCarried went.0 k family) same went.2))
          ∙ r.named_home root family (inr went) owned position)
          kept;
      named_came = λ root other family has covered stored position.
          ⊎_elim
          (λ same.
          let at = subst (λ k. covers other.note k ≡ true) same.0 covered in
          ap (λ k. times_named k position (receipts ++ receipt ∷ [])) same.0
          ∙ named_here (length (brought other txn.root).log) position (first_below (brought other txn.root) (was_grown other has at)) (came_before other has at position)
          ∙ ap (λ k. one_if (nat_le (length (brought other k).log) position && nat_lt position (length new.log))) (sym same.0)
          ∙ ap (λ (now : FamilyValue). one_if (nat_le (length (brought other root).log) position && nat_lt position (length now.log))) same.1)
          (λ old. times_other root position old.0 ∙ r.named_came root other family has covered old.1 position)
          (stored_now root family stored);
      told = λ other has commit.
          ⊎_elim
          (λ old. let t = r.told other old commit in told_now other t.0 t.1 t.2)
          (λ one.
          subst (λ (any : ReceiptValue). (now : FamilyValue) × IsStoredOrCut cut more any.txn.root now × IsToldBy now any) one
          (new, inl (stored_new txn.root refl), told_new was receipt refl is))
          (Contains-push_cases receipts receipt other has);
      aborted = λ other has aborts.
          ⊎_elim
          (λ old.
          ⊎_elim
          (λ (kept : (family : FamilyValue) × IsStoredOrCut cut store other.txn.root family × IsReplyIn family other). inl (reply_now other kept.0 kept.1 kept.2))
          (λ none. inr none)
          (r.aborted other old aborts))
          (λ one. absurd (true≢false (sym commits ∙ ap (λ (any : ReceiptValue). is_commit any.reply) one ∙ aborts)))
          (Contains-push_cases receipts receipt other has);
    }
