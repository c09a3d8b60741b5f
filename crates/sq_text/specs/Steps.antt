-- The step that a line of the script spells.
use Rattle.std.specs.Prelude.{ℕ, Bool, false, ◌^◌, nat_lt, if◌then◌else◌, List, [], ◌∷◌, length, Option, Some, None, Result, Ok, Err, bytes_eq, codes, ok_or}
use Rattle.sq_schema.specs.declared.txn.Op.{Op}
use Rattle.sq_schema.specs.declared.fault.TxnFault.{TxnFault}
use Rattle.sq_schema.specs.Refusals.{txn_fault}
use Rattle.sq_model.specs.declared.step.Step.{Step}
use Rattle.sq_model.specs.declared.step.Step.TheVariants as step
use Rattle.sq_text.specs.declared.fault.LineFault.{LineFault}
use Rattle.sq_text.specs.declared.fault.LineFault.TheVariants.{NotAStep, TooLong, Txn}
use Rattle.sq_text.specs.declared.step.TheConstants.{MAX_LINE}
use Rattle.sq_text.specs.declared.verb.Verb.{Verb}
use Rattle.sq_text.specs.declared.verb.Verb.TheVariants.{Prepare, Start, Resume, Split, Claim, Begin, Cut, Push, Pop, Load, Complete, Report, Next, Finish, Fold, Status}
use Rattle.sq_text.specs.Words.{Word, words_of, ◌>>=◌}
use Rattle.sq_text.specs.Fields.{number_field, number_below, value_at_end}
use Rattle.sq_text.specs.Verbs.{verb_in}
use Rattle.sq_text.specs.Ops.{ops_in}

-- two numbers: a segment and a node, or a source and a destination
unfoldable pub pair_field : List Word → Option ((ℕ × ℕ) × List Word)
pair_field words = do
  first ← number_field words
  second ← number_field first.1
  Some ((first.0, second.0), second.1)

-- a segment, a node and a pull
unfoldable pub pull_field : List Word → Option ((ℕ × ℕ × ℕ) × List Word)
pull_field words = do
  at ← pair_field words
  pull ← number_below (2 ^ 32) at.1
  Some ((at.0.0, at.0.1, pull.0), pull.1)

-- the step made of what words spell
abbrev pub step_of_field : {A : Type 0} → (List Word → Option (A × List Word)) → (A → Step) → List Word
    → Option (Step × List Word)
step_of_field field made words = do
  found ← field words
  Some (made found.0, found.1)

-- the step of this verb
unfoldable pub step_with : Verb → List Word → Option (Step × List Word)
step_with Prepare words = step_of_field number_field (λ part. step.Prepare part) words
step_with Start words = Some (step.Start, words)
step_with Resume words = step_of_field number_field (λ part. step.Resume part) words
step_with Split words = step_of_field pair_field (λ at. step.Split at.0 at.1) words
step_with Claim words = step_of_field pull_field (λ at. step.Claim at.0 at.1 at.2) words
step_with Begin words = step_of_field pull_field (λ at. step.Begin at.0 at.1 at.2) words
step_with Cut words = step_of_field pair_field (λ link. step.Cut link.0 link.1) words
step_with Push words = step_of_field pair_field (λ link. step.Push link.0 link.1) words
step_with Pop words = step_of_field pair_field (λ link. step.Pop link.0 link.1) words
step_with Load words = step_of_field pair_field (λ link. step.Load link.0 link.1) words
step_with Complete words = step_of_field pull_field (λ at. step.Complete at.0 at.1 at.2) words
step_with Report words = step_of_field number_field (λ part. step.Report part) words
step_with Next words = Some (step.Next, words)
step_with Finish words = Some (step.Finish, words)
step_with Fold words = step_of_field number_field (λ part. step.Fold part) words
step_with Status words = step_of_field pair_field (λ at. step.Status at.0 at.1) words

-- the step of a line that begins with a verb, with no word after the step's
abbrev pub verb_step : Word → List Word → Option Step
verb_step first words = do
  verb ← verb_in first
  value_at_end (step_with verb words)

-- a transaction's line: a partition, an id, a root key, and operations
pub record TxnLine : Type 0 where
  pub part : ℕ
  pub id : ℕ
  pub root : ℕ
  pub ops : List Op

abbrev pub spelled : ℕ → ℕ → ℕ → List Op → TxnLine
spelled part id root ops = record { part = part; id = id; root = root; ops = ops }

-- a partition, an id, a root key and operations, up to the end of the words
unfoldable pub txn_in : List Word → Option TxnLine
txn_in words = do
  part ← number_field words
  id ← number_field part.1
  root ← number_field id.1
  ops ← ops_in root.1
  Some (spelled part.0 id.0 root.0 ops)

-- the transaction is submitted, unless there is a fault
abbrev pub submit_unless : Option TxnFault → TxnLine → Result Step LineFault
submit_unless None txn = Ok (step.Submit txn.part (record { id = txn.id; root = txn.root; ops = txn.ops }))
submit_unless (Some fault) txn = Err (Txn fault)

-- the transaction is submitted, unless a schema of this many tables refuses it
abbrev pub txn_step : ℕ → Option TxnLine → Result Step LineFault
txn_step tables None = Err NotAStep
txn_step tables (Some txn) = submit_unless (txn_fault tables txn.root txn.ops) txn

-- the step that the words spell
abbrev pub step_in : ℕ → List Word → Result Step LineFault
step_in tables [] = Err NotAStep
step_in tables (first ∷ words) =
    if bytes_eq first (codes "txn") then txn_step tables (txn_in words) else ok_or (verb_step first words) NotAStep

-- a line that begins with the word txn, which is read into memory
abbrev pub begins_txn : List Word → Bool
begins_txn [] = false
begins_txn (first ∷ words) = bytes_eq first (codes "txn")

-- the step that a line spells, if the schema has this many tables
abbrev pub step_of : ℕ → List ℕ → Result Step LineFault
step_of tables line = if nat_lt MAX_LINE (length line) then Err TooLong else step_in tables (words_of line)
