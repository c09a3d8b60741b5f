-- What a stage that was found sound adds to a run: the logs of its families, and the receipts that name them.
use Rattle.std.proofs.Common.{◌≡◌, ⊎_elim, inl, inr, ℕ, ◌+◌, ◌≤◌, ◌==◌, true, false, List, [], length, slice_get, Contains, Option, Some, None, refl, sym, ap, ap₂, ◌∙◌, subst, arith, true≢false}
use Rattle.std.specs.Prelude.{◌&&◌, not, count_by, unwrap_or}
use Rattle.std.proofs.lemmas.Bool.{cases_Bool, and_parts, eqb-true, lt-ltb, not-false}
use Rattle.std.proofs.lemmas.List.{nil_from_length}
use Rattle.std.proofs.lemmas.Option.{same_Some, slice_get_within}
use Rattle.sq_schema.specs.TxnValue.{TxnValue}
use Rattle.sq_schema.specs.Effect.{RowList, replay_rows}
use Rattle.sq_schema.specs.Family.{FamilyValue, rows_of}
use Rattle.sq_schema.specs.Table.{TableValue, rows_in}
use Rattle.sq_store.specs.StoreValue.{StoreValue, absent}
use Rattle.sq_moves.specs.OpeningValue.{OpeningValue}
use Rattle.sq_moves.specs.Opening.{IsOpening}
use Rattle.sq_shared.specs.View.{one_if}
use Rattle.sq_model.specs.Staged.{owner_in}
use Rattle.sq_model.proofs.Lists.{Contains-slice_get}
use Rattle.sq_node_model.specs.NodeValue.{ReceiptValue}
use Rattle.sq_node_model.specs.Receipts.{is_commit, names, IsToldBy, IsReplyIn}
use Rattle.sq_node_model.specs.declared.spot.Spot.{Spot}
use Rattle.sq_node_model.specs.declared.spot.Spot.TheVariants.{Store}
use Rattle.sq_node_model.specs.Gathered.{GatheredValue}
use Rattle.sq_node_model.specs.Spots.{family_at_spot, StandsAt}
use Rattle.sq_node_model.specs.Placed.{IsPlaced, HasNone}
use Rattle.sq_node_model.specs.Next.{IsStageDone}
use Rattle.sq_node_model.specs.Folded.{folded_opening, IsFolded}
use Rattle.sq_node_model.proofs.Folded.{rowless_opening}
use Rattle.sq_node_model.proofs.Next.{stands_next}
use Rattle.sq_audit.specs.declared.job.Job.{Job}
use Rattle.sq_audit.specs.Answers.{IsAnswerTo, is_of}
use Rattle.sq_audit.specs.Sound.{IsSoundRun}
use Rattle.sq_audit.proofs.Each.{same_of}
use Rattle.sq_audit.proofs.Lists.{counted}
use Rattle.sq_audit.proofs.Parts.{counted_once, at_most_once}
use Rattle.sq_live.specs.WholeRun.{stored_family}
use Rattle.sq_live.proofs.Ofs.{of_from, of_same, of_parts}

-- a transaction of a log is a job's, and a receipt of a commit names it at its position
pub record IsLogged (g : GatheredValue) (taken : List Job) (root position : ℕ) (txn : TxnValue) : Type 0 where
  pub job : Job
  pub among : Contains taken job
  pub is : job.txn ≡ txn
  pub root_is : txn.root ≡ root
  pub place : ℕ
  pub receipt : ReceiptValue
  pub there : slice_get g.receipts place ≡ Some receipt
  pub of : is_of txn receipt ≡ true
  pub commit : is_commit receipt.reply ≡ true
  pub at : receipt.position ≡ position

-- the receipt of a commit, and of an abort, that its family's log determines
answer_told : (family : FamilyValue) (receipt : ReceiptValue) → IsToldBy family receipt → IsAnswerTo family receipt
answer_told family receipt told =
    let below = slice_get_within family.log receipt.position receipt.txn told.there in
    record { within = omega (arith, below); told = told.told; there = λ commits. told.there }

answer_aborted : (family : FamilyValue) (receipt : ReceiptValue) → is_commit receipt.reply ≡ false → IsReplyIn family receipt → IsAnswerTo family receipt
answer_aborted family receipt aborts told = record { within = told.within; told = told.told; there = λ commits. absurd (true≢false (sym commits ∙ aborts)) }

no_rows : (rows : RowList) → not (length rows == 0) ≡ false → rows ≡ []
no_rows rows none = nil_from_length rows (eqb-true (length rows) 0 (not-false (length rows == 0) none))

module _ (o : OpeningValue) (is : IsOpening o) (table : TableValue) where
  module _ (g : GatheredValue) (taken : List Job) (sound : IsSoundRun (folded_opening o table) g taken) (placed : IsPlaced (folded_opening o table) g) (done : IsStageDone (folded_opening o table) g) where
    -- the family of a root key at its owner after the stage
    abbrev owner_then : ℕ → ℕ
    owner_then root = owner_in o (g.stage + 1) root

    abbrev pub stored_then : ℕ → FamilyValue
    stored_then root = stored_family g (owner_in o (g.stage + 1) root) root

    at_owner : (spot : Spot) (root : ℕ) (family : FamilyValue) → StandsAt g spot root family → StandsAt g (Store (owner_then root)) root family
    at_owner spot root family stands =
        subst (λ (s : Spot). StandsAt g s root family) (stands_next (folded_opening o table) (rowless_opening o table is) g placed done spot root family stands) stands

    -- a family that stands anywhere is that one
    stored_is : (spot : Spot) (root : ℕ) (family : FamilyValue) → StandsAt g spot root family → stored_then root ≡ family
    stored_is spot root family stands = ap (λ (found : Option FamilyValue). unwrap_or found (absent root)) (at_owner spot root family stands)

    -- and where none stands it is an empty one
    none_stored : (root : ℕ) → HasNone g root → stored_then root ≡ absent root
    none_stored root none = by (family_at_spot g (Store (owner_then root)) root) refl
      where
        by : (found : Option FamilyValue) → family_at_spot g (Store (owner_then root)) root ≡ found → stored_then root ≡ absent root
        by None missing = ap (λ (found : Option FamilyValue). unwrap_or found (absent root)) missing
        by (Some other) stands = absurd (none (Store (owner_then root)) other stands)

    -- what is opened stands, and so where nothing stands there are no rows
    no_rows_without : (rows : RowList) (root : ℕ) → (not (length rows == 0) ≡ true → (spot : Spot) × (family : FamilyValue) × StandsAt g spot root family)
        → family_at_spot g (Store (owner_then root)) root ≡ None → rows ≡ []
    no_rows_without rows root stands none = elim (cases_Bool (not (length rows == 0))) [
      | inl opened ↦
          let there = stands opened in
          absurd (let e = sym none ∙ at_owner there.0 root there.1 there.2 in cc)
      | inr fails ↦ no_rows rows fails
    ]

    -- it starts from the rows of the table
    pub base_then : (root : ℕ) → (stored_then root).base ≡ rows_in table root
    base_then root = by (family_at_spot g (Store (owner_then root)) root) refl
      where
        by : (found : Option FamilyValue) → family_at_spot g (Store (owner_then root)) root ≡ found → (stored_then root).base ≡ rows_in table root
        by None missing =
            ap (λ (found : Option FamilyValue). (unwrap_or found (absent root)).base) missing
            ∙ sym (no_rows_without (rows_in table root) root (placed.opening root) missing)
        by (Some family) stands =
            ap (λ (found : Option FamilyValue). (unwrap_or found (absent root)).base) stands ∙ placed.base (Store (owner_then root)) root family stands

    pub rows_then : (root : ℕ) → rows_of (stored_then root) ≡ replay_rows (rows_in table root) (stored_then root).log
    rows_then root = ap (λ (rows : RowList). replay_rows rows (stored_then root).log) (base_then root)

    -- a fold of the stage has the rows of these families
    pub folded_rows : (new : TableValue) (stores : List StoreValue) → IsFolded (folded_opening o table) g new stores → (root : ℕ) → rows_in new root ≡ rows_of (stored_then root)
    folded_rows new stores folded root = by (family_at_spot g (Store (owner_then root)) root) refl
      where
        by : (found : Option FamilyValue) → family_at_spot g (Store (owner_then root)) root ≡ found → rows_in new root ≡ rows_of (stored_then root)
        by None missing =
            no_rows_without (rows_in new root) root (folded.opened root) missing
            ∙ sym (ap (λ (found : Option FamilyValue). rows_of (unwrap_or found (absent root))) missing)
        by (Some family) stands =
            folded.rows (Store (owner_then root)) root family stands
            ∙ sym (ap (λ (found : Option FamilyValue). rows_of (unwrap_or found (absent root))) stands)

    -- each receipt is the right answer, on that family
    answer_then : (receipt : ReceiptValue) → Contains g.receipts receipt → IsAnswerTo (stored_then receipt.txn.root) receipt
    answer_then receipt has = elim (cases_Bool (is_commit receipt.reply)) [
      | inl commits ↦
          let told = placed.told receipt has commits in
          at_stored told.0 told.1 told.2 (answer_told told.1 receipt told.3)
      | inr aborts ↦
          ⊎_elim
          (λ (some : (spot : Spot) × (family : FamilyValue) × StandsAt g spot receipt.txn.root family × IsReplyIn family receipt).
          at_stored some.0 some.1 some.2 (answer_aborted some.1 receipt aborts some.3))
          (λ (none : HasNone g receipt.txn.root × IsReplyIn (absent receipt.txn.root) receipt).
          subst (λ (f : FamilyValue). IsAnswerTo f receipt) (sym (none_stored receipt.txn.root none.0)) (answer_aborted (absent receipt.txn.root) receipt aborts none.1))
          (placed.aborted receipt has aborts)
    ]
      where
        at_stored : (spot : Spot) (family : FamilyValue) → StandsAt g spot receipt.txn.root family → IsAnswerTo family receipt → IsAnswerTo (stored_then receipt.txn.root) receipt
        at_stored spot family stands answer = subst (λ (f : FamilyValue). IsAnswerTo f receipt) (sym (stored_is spot receipt.txn.root family stands)) answer

    -- and its transaction is that of a job
    pub told_then : (receipt : ReceiptValue) → Contains g.receipts receipt → (job : Job) × Contains taken job × (job.txn ≡ receipt.txn) × IsAnswerTo (stored_then receipt.txn.root) receipt
    told_then receipt has =
        let (job, among, is) = sound.known.posted receipt has in
        (job, among, is, answer_then receipt has)

    -- and each transaction of its log has a receipt
    pub logged : (root position : ℕ) (txn : TxnValue) → slice_get (stored_then root).log position ≡ Some txn → IsLogged g taken root position txn
    logged root position txn at = by (family_at_spot g (Store (owner_then root)) root) refl
      where
        by : (found : Option FamilyValue) → family_at_spot g (Store (owner_then root)) root ≡ found → IsLogged g taken root position txn
        by None missing = absurd (let e = sym (ap (λ (found : Option FamilyValue). slice_get (unwrap_or found (absent root)).log position) missing) ∙ at in cc)
        by (Some family) stands =
            let same = stored_is (Store (owner_then root)) root family stands in
            let here = ap (λ (f : FamilyValue). slice_get f.log position) (sym same) ∙ at in
            let below = slice_get_within family.log position txn here in
            let once : count_by (names root position) g.receipts ≡ 1 =
            placed.named (Store (owner_then root)) root family stands position ∙ ap one_if (lt-ltb position (length family.log) below) in
            let found = counted (names root position) g.receipts (omega (arith, once)) in
            let receipt = found.one in
            let parts = and_parts (is_commit receipt.reply) ((receipt.txn.root == root) && (receipt.position == position)) found.passes in
            let both = and_parts (receipt.txn.root == root) (receipt.position == position) parts.1 in
            let root_is = eqb-true receipt.txn.root root both.0 in
            let at_is = eqb-true receipt.position position both.1 in
            let (job, among, job_is, answer) = told_then receipt (Contains-slice_get g.receipts found.place receipt found.there) in
            let logged_there : slice_get (stored_then root).log position ≡ Some receipt.txn =
            sym (ap₂ (λ (r n : ℕ). slice_get (stored_then r).log n) root_is at_is) ∙ answer.there parts.0 in
            let same = same_Some receipt.txn txn (sym logged_there ∙ at) in
            record {
              job = job;
              among = among;
              is = job_is ∙ same;
              root_is = ap (λ (t : TxnValue). t.root) (sym same) ∙ root_is;
              place = found.place;
              receipt = receipt;
              there = found.there;
              of = of_same txn receipt (sym same);
              commit = parts.0;
              at = at_is;
            }

    -- no id is twice in its log
    pub once_then : (root id : ℕ) → count_by (λ (txn : TxnValue). txn.id == id) (stored_then root).log ≤ 1
    once_then root id =
        at_most_once (λ (txn : TxnValue). txn.id == id) (stored_then root).log (λ i j x y at there passes also.
        let one = logged root i x at in
        let other = logged root j y there in
        let id_is = (of_parts y other.receipt other.of).id ∙ eqb-true y.id id also ∙ sym (eqb-true x.id id passes) in
        let root_is = (of_parts y other.receipt other.of).root ∙ other.root_is ∙ sym one.root_is in
        let alone = subst (λ (t : TxnValue). count_by (is_of t) g.receipts ≡ 1) one.is (sound.answered one.job one.among) in
        let place = counted_once (is_of x) g.receipts alone one.place other.place one.receipt other.receipt one.there other.there one.of (of_from x other.receipt id_is root_is) in
        let same = same_of g.receipts one.place other.place one.receipt other.receipt one.there other.there (sym place) in
        sym one.at ∙ ap (λ (r : ReceiptValue). r.position) (sym same) ∙ other.at)
