-- What a family keeps of the table: its base is the replay of the transactions on its root key that were folded, and its log is the rest of them.
use Rattle.std.proofs.Common.{◌≡◌, ℕ, Bool, true, false, List, [], ◌∷◌, ◌++◌, refl, sym, ap, ◌∙◌, append_assoc, append-nil}
use Rattle.std.specs.Prelude.{◌==◌, if◌then◌else◌}
use Rattle.std.proofs.lemmas.List.Sums.{fold-append}
use Rattle.std.proofs.lemmas.List.Elements.{filter-append}
use Rattle.sq_schema.specs.TxnValue.{TxnValue}
use Rattle.sq_schema.specs.declared.txn.Reply.TheVariants.{Committed}
use Rattle.sq_schema.specs.Effect.{RowList, RowTable, effect, replay_rows, table_after, replay, only}
use Rattle.sq_schema.specs.Family.{rows_of}
use Rattle.sq_moves.specs.OpeningValue.{OpeningValue}
use Rattle.sq_model.specs.declared.step.Step.TheVariants.{Submit, Resume, Fold}
use Rattle.sq_model.specs.declared.answer.Answer.TheVariants.{Done, Replied, Resumed}
use Rattle.sq_model.specs.Trace.{Trace, committed, unfolded}
use Rattle.sq_model.specs.Place.{destination}
use Rattle.sq_model.specs.Tables.{IsFoldedRoot, opening_rows, now, base_of, log_of, family_of}

-- the rows of one root key on the whole table are those of its own transactions
pub replayed_at : (table : RowTable) (txns : List TxnValue) (root : ℕ) → replay table txns root ≡ replay_rows (table root) (only root txns)
replayed_at table [] root = refl
replayed_at table (txn ∷ txns) root = replayed_at (table_after table txn) txns root ∙ here (txn.root == root) txn (table root) (only root txns)
  where
    here : (b : Bool) (x : TxnValue) (rows : RowList) (rest : List TxnValue) → replay_rows (if b then effect rows x else rows) rest ≡ replay_rows rows (if b then x ∷ rest else rest)
    here true x rows rest = refl
    here false x rows rest = refl

-- one more transaction goes to the end of the log, or is on another root key
one_more : (root : ℕ) (all front log : List TxnValue) (txn : TxnValue) → only root all ≡ front ++ only root log → only root (all ++ txn ∷ []) ≡ front ++ only root (log ++ txn ∷ [])
one_more root all front log txn is =
    filter-append (λ x. x.root == root) all (txn ∷ [])
    ∙ ap (λ txns. txns ++ only root (txn ∷ [])) is
    ∙ append_assoc front (only root log) (only root (txn ∷ []))
    ∙ ap (λ txns. front ++ txns) (sym (filter-append (λ x. x.root == root) log (txn ∷ [])))

-- where its partition is folded all commits go into the base, and else nothing changes
refolded : (o : OpeningValue) (t : Trace) (root : ℕ) (front : List TxnValue) → only root (committed t) ≡ front ++ log_of o t root → base_of o t root ≡ replay_rows (opening_rows o root) front
    → (b : Bool) → (now_front : List TxnValue) × (only root (committed t) ≡ now_front ++ only root (if b then [] else unfolded t (destination o root))) × ((if b then now o t root else base_of o t root) ≡ replay_rows (opening_rows o root) now_front)
refolded o t root front commits base true = (only root (committed t), sym (append-nil (only root (committed t))), replayed_at (opening_rows o) (committed t) root)
refolded o t root front commits base false = (front, commits, base)

pub folded : (o : OpeningValue) (t : Trace) (root : ℕ) → IsFoldedRoot o t root
folded o [] root = record { front = []; commits = refl; base = refl }
folded o ((Submit at txn, Replied id (Committed answers)) ∷ t) root =
    let before = folded o t root in
    record { front = before.front; commits = one_more root (committed t) before.front (unfolded t (destination o root)) txn before.commits; base = before.base }
folded o ((Resume at, Resumed txn (Committed answers)) ∷ t) root =
    let before = folded o t root in
    record { front = before.front; commits = one_more root (committed t) before.front (unfolded t (destination o root)) txn before.commits; base = before.base }
folded o ((Fold part, Done) ∷ t) root =
    let before = folded o t root in
    let now_is = refolded o t root before.front before.commits before.base (destination o root == part) in
    record { front = now_is.0; commits = now_is.1; base = now_is.2 }
folded o ((step, answer) ∷ t) root = let before = folded o t root in record { front = before.front; commits = before.commits; base = before.base }

-- the rows of a root key now are those of its family
pub rows_now : (o : OpeningValue) (t : Trace) (root : ℕ) → rows_of (family_of o t root) ≡ now o t root
rows_now o t root =
    let is = folded o t root in
    ap (λ rows. replay_rows rows (log_of o t root)) is.base
    ∙ sym (fold-append effect (opening_rows o root) is.front (log_of o t root))
    ∙ ap (replay_rows (opening_rows o root)) (sym is.commits)
    ∙ sym (replayed_at (opening_rows o) (committed t) root)
