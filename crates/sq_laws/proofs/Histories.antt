-- The families of a history of steps that fit.
use Rattle.std.proofs.Common.{◌≡◌, ℕ, suc, ◌<◌, ◌≤◌, ◌==◌, ◌||◌, Bool, true, false, not, cond, List, [], ◌∷◌, ◌++◌, length, find, take, drop, Option, Some, None, if◌then◌else◌, inl, inr, refl, sym, subst, ◌∙◌, arith}
use Rattle.std.specs.Prelude.{IfSome, position, remove, nat_le}
use Rattle.std.specs.List.{All}
use Rattle.std.specs.Option.{option_map_or}
use Rattle.std.proofs.lemmas.Bool.{cases_lt, ne_eqb}
use Rattle.std.proofs.lemmas.List.Elements.{All-nil, All-head, All-tail, All-push, All-take, All-drop, All-append, All-filter}
use Rattle.sq_rows.specs.RowList.{RowList}
use Rattle.sq_schema.specs.declared.root.TheConstants.{ROOT_END}
use Rattle.sq_schema.specs.declared.txn.Reply.TheVariants.{Committed}
use Rattle.sq_schema.specs.Effect.{replay_rows, only}
use Rattle.sq_schema.specs.Family.{rows_of}
use Rattle.sq_schema.specs.TxnValue.{TxnValue}
use Rattle.sq_moves.specs.OpeningValue.{OpeningValue}
use Rattle.sq_model.specs.declared.step.Step.TheVariants.{Submit, Resume}
use Rattle.sq_model.specs.declared.answer.Answer.{Answer}
use Rattle.sq_model.specs.declared.answer.Answer.TheVariants.{Replied, Waits, Resumed, Refused}
use Rattle.sq_model.specs.declared.answer.Refusal.TheVariants.{NoSuchPartition, NoneReady}
use Rattle.sq_model.specs.Trace.{Trace, committed}
use Rattle.sq_model.specs.Answers.{resumed, resume_answer}
use Rattle.sq_model.specs.Legal.{IsAnswer, IsLegal}
use Rattle.sq_model.specs.Tables.{opening_rows, base_of, log_of, family_of, stands}
use Rattle.sq_model.specs.Waiting.{is_ready, without_ready, waiting, first_ready, are_coming}
use Rattle.sq_model.proofs.Lists.{filter-other}
use Rattle.sq_model.proofs.Tables.{replayed_at, folded, rows_now}
use Rattle.sq_laws.specs.Fit.{AreFitRows, IsFitFamily, IsFitTable, IsFitTxn, AreFitSteps}
use Rattle.sq_laws.proofs.Effects.{replay_fits}

module _ (tables : ℕ) where
  abbrev AllFit : List TxnValue → Type 0
  AllFit txns = All (IsFitTxn tables) txns

  -- those that wait

  removed_fit : (txns : List TxnValue) (i : ℕ) → AllFit txns → AllFit (remove txns i)
  removed_fit txns i fit =
      All-append (IsFitTxn tables) (take i txns) (drop (suc i) txns) (All-take (IsFitTxn tables) i txns fit) (All-drop (IsFitTxn tables) (suc i) txns fit)

  rest_fits : (txns : List TxnValue) (at : Option ℕ) → AllFit txns → AllFit (option_map_or (remove txns) at txns)
  rest_fits txns None fit = fit
  rest_fits txns (Some i) fit = removed_fit txns i fit

  found_fits : (test : TxnValue → Bool) (txns : List TxnValue) → AllFit txns → IfSome (find test txns) (IsFitTxn tables)
  found_fits test [] fit = tt
  found_fits test (txn ∷ txns) fit =
      elim (test txn) as (λ b. IfSome (cond b (Some txn) (find test txns)) (IsFitTxn tables)) [
        | true ↦ All-head (IsFitTxn tables) txn txns fit
        | false ↦ found_fits test txns (All-tail (IsFitTxn tables) txn txns fit)
      ]

  waiting_fit : (o : OpeningValue) (t : Trace) (part : ℕ) → AreFitSteps tables t → AllFit (waiting o t part)
  waiting_fit o [] part fit = All-nil (IsFitTxn tables)
  waiting_fit o ((Submit at txn, Waits id seg leaf) ∷ t) part fit =
      let before = waiting_fit o t part fit.1 in
      elim (at == part) as (λ b. AllFit (if b then waiting o t part ++ txn ∷ [] else waiting o t part)) [
        | true ↦ All-push (IsFitTxn tables) (waiting o t part) txn before fit.0
        | false ↦ before
      ]
  waiting_fit o ((Resume at, Resumed txn reply) ∷ t) part fit =
      let before = waiting_fit o t part fit.1 in
      elim (at == part) as (λ b. AllFit (if b then without_ready o t part (waiting o t part) else waiting o t part)) [
        | true ↦ rest_fits (waiting o t part) (position (is_ready o t part) (waiting o t part)) before
        | false ↦ before
      ]
  waiting_fit o ((step, answer) ∷ t) part fit = waiting_fit o t part fit.1

  -- those that commit

  -- an answer with a transaction has one that fits
  abbrev IsFitAnswer : Answer → Type 0
  IsFitAnswer (Resumed txn reply) = IsFitTxn tables txn
  IsFitAnswer _ = Unit {0}

  resumed_fits : (o : OpeningValue) (t : Trace) (found : Option TxnValue) → IfSome found (IsFitTxn tables) → IsFitAnswer (resumed o t found)
  resumed_fits o t None fit = tt
  resumed_fits o t (Some txn) fit = fit

  resume_fits : (o : OpeningValue) (t : Trace) (part : ℕ) → AreFitSteps tables t → IsFitAnswer (resume_answer o t part)
  resume_fits o t part fit =
      elim (nat_le o.old.parts part) as (λ b. IsFitAnswer (if b then Refused NoSuchPartition else (if are_coming o t part then Refused NoneReady else resumed o t (first_ready o t part)))) [
        | true ↦ tt
        | false ↦ elim (are_coming o t part) as (λ b. IsFitAnswer (if b then Refused NoneReady else resumed o t (first_ready o t part))) [
          | true ↦ tt
          | false ↦ resumed_fits o t (first_ready o t part) (found_fits (is_ready o t part) (waiting o t part) (waiting_fit o t part fit))
        ]
      ]

  answer_fits : (o : OpeningValue) (t : Trace) (part : ℕ) (given : Answer) → AreFitSteps tables t → IsAnswer o t (Resume part) given → IsFitAnswer given
  answer_fits o t part given fit (inl is) = subst IsFitAnswer (sym is) (resume_fits o t part fit)
  answer_fits o t part given fit (inr memory) = subst IsFitAnswer (sym memory.0) tt

  committed_fit : (o : OpeningValue) (t : Trace) → IsLegal o t → AreFitSteps tables t → AllFit (committed t)
  committed_fit o [] legal fit = All-nil (IsFitTxn tables)
  committed_fit o ((Submit at txn, Replied id (Committed answers)) ∷ t) legal fit = All-push (IsFitTxn tables) (committed t) txn (committed_fit o t legal.1 fit.1) fit.0
  committed_fit o ((Resume at, Resumed txn (Committed answers)) ∷ t) legal fit =
      All-push (IsFitTxn tables) (committed t) txn (committed_fit o t legal.1 fit.1) (answer_fits o t at (Resumed txn (Committed answers)) fit.1 legal.0)
  committed_fit o ((step, answer) ∷ t) legal fit = committed_fit o t legal.1 fit.1

  -- families

  rows_fit : (o : OpeningValue) (t : Trace) → IsLegal o t → IsFitTable tables (opening_rows o) → AreFitSteps tables t → (root : ℕ) → AreFitRows tables (rows_of (family_of o t root))
  rows_fit o t legal table fit root =
      subst (AreFitRows tables) (sym (rows_now o t root ∙ replayed_at (opening_rows o) (committed t) root))
      (replay_fits tables (opening_rows o root) (only root (committed t)) (table.rows root) (All-filter (λ (txn : TxnValue). txn.root == root) (IsFitTxn tables) (committed t) (committed_fit o t legal fit)))

  -- no transaction that fits is on a root key that there isn't
  none_beyond : (txns : List TxnValue) (root : ℕ) → AllFit txns → ROOT_END ≤ root → only root txns ≡ []
  none_beyond [] root fit from = refl
  none_beyond (txn ∷ txns) root fit from =
      let here = (All-head (IsFitTxn tables) txn txns fit).root in
      filter-other (λ (t : TxnValue). t.root == root) txn txns (ne_eqb txn.root root (λ same. omega (arith, same, here, from)))
      ∙ none_beyond txns root (All-tail (IsFitTxn tables) txn txns fit) from

  both_empty : (xs ys : List TxnValue) → [] ≡ xs ++ ys → (xs ≡ []) × (ys ≡ [])
  both_empty [] ys is = (refl, sym is)
  both_empty (x ∷ xs) ys is = absurd cc

  none_stands : (base : RowList) (log : List TxnValue) → base ≡ [] → log ≡ [] → (not (length base == 0) || not (length log == 0)) ≡ false
  none_stands base log no_rows no_log = λ i. not (length (no_rows i) == 0) || not (length (no_log i) == 0)

  root_below : (o : OpeningValue) (t : Trace) → IsLegal o t → IsFitTable tables (opening_rows o) → AreFitSteps tables t → (root : ℕ) → stands o t root ≡ true → root < ROOT_END
  root_below o t legal table fit root is =
      elim (cases_lt root ROOT_END) [
        | inl below ↦ below
        | inr from ↦
            let kept = folded o t root in
            let both = both_empty kept.front (log_of o t root) (sym (none_beyond (committed t) root (committed_fit o t legal fit) from) ∙ kept.commits) in
            let base : base_of o t root ≡ [] = kept.base ∙ (λ i. replay_rows (table.beyond root from i) (both.0 i)) in
            absurd (cc (none_stands (base_of o t root) (log_of o t root) base both.1, is))
      ]

  pub family_fits : (o : OpeningValue) (t : Trace) → IsLegal o t → IsFitTable tables (opening_rows o) → AreFitSteps tables t → (root : ℕ) → stands o t root ≡ true → IsFitFamily tables (family_of o t root)
  family_fits o t legal table fit root is = record { root = root_below o t legal table fit root is; rows = rows_fit o t legal table fit root }
