-- The log that receipts tell is the family's own, if what was gathered is placed.
use Rattle.std.proofs.Common.{◌≡◌, ℕ, ◌<◌, ◌==◌, ◌&&◌, true, List, length, slice_get, Contains, Some, sym, ap, ◌∙◌, subst, arith, eqb-true}
use Rattle.std.proofs.lemmas.Bool.{and_parts}
use Rattle.std.proofs.lemmas.List.{take_all}
use Rattle.std.proofs.lemmas.Option.{slice_get_within}
use Rattle.sq_gather.specs.Prelude.{TxnValue, FamilyValue, OpeningValue, opening_rows, ReceiptValue, is_commit, names, Spot, GatheredValue, StandsAt, family_at_spot, IsPlaced}
use Rattle.sq_gather.proofs.Prelude.{Contains-slice_get, kept_in}
use Rattle.sq_audit.specs.declared.job.Job.{Job}
use Rattle.sq_audit.specs.Answers.{ArePosted, IsToldLog, LogsArePosted, is_named, receipts_of}
use Rattle.sq_audit.proofs.Each.{some_same}
use Rattle.sq_audit.proofs.Lists.{counted}
use Rattle.sq_audit.proofs.Walks.{one_below}
use Rattle.sq_audit.proofs.Retold.{taken_same}

module _ (o : OpeningValue) (g : GatheredValue) (placed : IsPlaced o g) (spot : Spot) (root : ℕ) (family : FamilyValue) (stands : StandsAt g spot root family) where
  -- a committed receipt of the root key has its transaction in the log
  own_entry : (r : ReceiptValue) → Contains g.receipts r → is_commit r.reply ≡ true → r.txn.root ≡ root → slice_get family.log r.position ≡ Some r.txn
  own_entry r has commits own =
      let told = placed.told r has commits in
      let there : StandsAt g told.0 root told.1 = subst (λ k. StandsAt g told.0 k told.1) own told.2 in
      let at = placed.once told.0 spot root told.1 family there stands in
      let one : told.1 ≡ family = some_same (sym there ∙ ap (λ (s : Spot). family_at_spot g s root) at ∙ stands) in
      ap (λ (f : FamilyValue). slice_get f.log r.position) (sym one) ∙ told.3.there

  pub true_log : (log : List TxnValue) → length log ≡ length family.log → IsToldLog (opening_rows o family.root) g.receipts family.root log → log ≡ family.log
  true_log log long tells =
      sym (take_all (length log) log (omega arith))
      ∙ taken_same (length log) log family.log (omega arith) (omega (arith, long)) same
      ∙ take_all (length log) family.log (omega (arith, long))
    where
      same : (q : ℕ) → q < length log → slice_get log q ≡ slice_get family.log q
      same q low =
          let group = receipts_of family.root g.receipts in
          let once = tells.named q ∙ one_below q (length log) low in
          let some = counted (is_named q) group (omega (arith, once)) in
          let r = some.one in
          let parts = and_parts (is_commit r.reply) (r.position == q) some.passes in
          let here = eqb-true r.position q parts.1 in
          let has = Contains-slice_get group some.place r some.there in
          let kept = kept_in (λ (x : ReceiptValue). x.txn.root == family.root) g.receipts r has in
          let own : r.txn.root ≡ root = eqb-true r.txn.root family.root kept.1 ∙ (placed.fit.keyed spot root family stands).same_root in
          ap (slice_get log) (sym here) ∙ (tells.known r has).there parts.0 ∙ sym (own_entry r kept.0 parts.0 own) ∙ ap (slice_get family.log) here

  -- each transaction of the log is that of a receipt
  pub from_receipt : (position : ℕ) (txn : TxnValue) → slice_get family.log position ≡ Some txn → (receipt : ReceiptValue) × Contains g.receipts receipt × (receipt.txn ≡ txn)
  from_receipt position txn there =
      let once = placed.named spot root family stands position ∙ one_below position (length family.log) (slice_get_within family.log position txn there) in
      let some = counted (names root position) g.receipts (omega (arith, once)) in
      let r = some.one in
      let parts = and_parts (is_commit r.reply) ((r.txn.root == root) && (r.position == position)) some.passes in
      let place = and_parts (r.txn.root == root) (r.position == position) parts.1 in
      let has = Contains-slice_get g.receipts some.place r some.there in
      let entry = own_entry r has parts.0 (eqb-true r.txn.root root place.0) in
      (r, has, some_same (sym entry ∙ ap (slice_get family.log) (eqb-true r.position position place.1) ∙ there))

-- where the transactions of receipts were posted, so were those of logs
pub logs_posted : (o : OpeningValue) (g : GatheredValue) (jobs : List Job) → IsPlaced o g → ArePosted jobs g.receipts → LogsArePosted g jobs
logs_posted o g jobs placed posted spot root position family txn stands there =
    let from = from_receipt o g placed spot root family stands position txn there in
    let job = posted from.0 from.1 in
    (job.0, job.1, job.2 ∙ from.2)
