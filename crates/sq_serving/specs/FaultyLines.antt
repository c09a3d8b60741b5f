-- What is known of a line with a fault.
use Rattle.std.specs.Prelude.{◌≡◌, ◌⊎◌, ℕ, ◌≤◌, if◌then◌else◌, List, [], ◌∷◌, length, Option, Some, None, bytes_eq, codes}
use Rattle.sq_text.specs.declared.step.TheConstants.{MAX_LINE}
use Rattle.sq_text.specs.Words.{Word, words_of, ◌>>=◌}
use Rattle.sq_text.specs.Fields.{number_field}
use Rattle.sq_serving.specs.declared.faulty_header.HeaderLine.{HeaderLine}
use Rattle.sq_serving.specs.declared.faulty_header.HeaderLine.TheVariants.{Line, Missing, Lost}

-- the second of two numbers, a partition and an id
unfoldable pub id_in : List Word → Option ℕ
id_in words = do
  part ← number_field words
  id ← number_field part.1
  Some id.0

-- the id of a job, if these are the words of a job's line with a partition and an id
abbrev pub job_id_in : List Word → Option ℕ
job_id_in [] = None
job_id_in (first ∷ words) = if bytes_eq first (codes "txn") then id_in words else None

-- the same of a line
abbrev pub job_id_of : List ℕ → Option ℕ
job_id_of line = job_id_in (words_of line)

-- the text is the line, if that is no longer than a line may be; or it is empty
abbrev pub IsTextOf : List ℕ → List ℕ → Type 0
IsTextOf line text = ((text ≡ line) × (length line ≤ MAX_LINE)) ⊎ (text ≡ [])

-- the line of a header, unless it is too long or memory ran out
abbrev pub IsLineOf : List ℕ → HeaderLine → Type 0
IsLineOf line (Line text) = (text.items ≡ line) × (length line ≤ MAX_LINE)
IsLineOf line Missing = ⊥
IsLineOf line Lost = Unit {0}
