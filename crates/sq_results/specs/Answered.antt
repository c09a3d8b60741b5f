-- The answers of a run's jobs.
use Rattle.std.specs.Prelude.{◌≡◌, ℕ, ◌==◌, nat_eq, not, List, [], Option, is_some, option_map, find, count_by}
use Rattle.std.specs.Map.{lookup}
use Rattle.std.specs.Option.{option_map_or, option_or}
use Rattle.sq_model.specs.declared.answer.Answer.{Answer}
use Rattle.sq_model.specs.declared.answer.Answer.TheVariants.{Replied}
use Rattle.sq_text.specs.Texts.{answer_line}
use Rattle.sq_node_model.specs.NodeValue.{ReceiptValue}

-- the ids of jobs, in the order in which they are posted, and the answers, each by the id of its
-- job
pub record RepliesValue : Type 0 where
  pub ids : List ℕ
  pub told : List (ℕ × Answer)

-- the answer of the job with this id
abbrev pub told_of : List (ℕ × Answer) → ℕ → Option Answer
told_of told id = lookup (nat_eq id) told

-- the line of that answer; no line if there is no answer
abbrev pub reply_lines : List (ℕ × Answer) → ℕ → List ℕ
reply_lines told id = option_map_or answer_line (told_of told id) []

-- how many jobs have no answer
abbrev pub unanswered_count : RepliesValue → ℕ
unanswered_count r = count_by (λ id. not (is_some (told_of r.told id))) r.ids

-- the answer in a receipt
abbrev pub receipt_answer : ReceiptValue → Answer
receipt_answer receipt = Replied receipt.txn.id receipt.reply

-- the answer in the first of these receipts that is of the job with this id
abbrev pub first_answer : List ReceiptValue → ℕ → Option Answer
first_answer receipts id = option_map receipt_answer (find (λ receipt. receipt.txn.id == id) receipts)

-- after receipts are recorded, a job that had no answer has the first one in them
pub record IsToldAfter (old : RepliesValue) (receipts : List ReceiptValue) (new : RepliesValue) : Type 0 where
  pub ids : new.ids ≡ old.ids
  pub told : (id : ℕ) → told_of new.told id ≡ option_or (told_of old.told id) (first_answer receipts id)
