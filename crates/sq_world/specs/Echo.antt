-- The text for a line of a script: its answer, alone or after the line.
use Rattle.std.specs.Prelude.{ℕ, Bool, true, false, List, [], ◌∷◌, ◌++◌, Option, Some, None, decimal, codes}
use Rattle.sq_model.specs.declared.answer.Answer.{Answer}
use Rattle.sq_model.specs.declared.answer.Answer.TheVariants.{Refused}
use Rattle.sq_model.specs.Refusal.{refusal_number}
use Rattle.sq_text.specs.Texts.{answer_line, refused_line}
use Rattle.sq_explain.specs.Meanings.{meaning_of}

-- a refusal, with its meaning
abbrev pub reason_line : ℕ → Option (List ℕ) → List ℕ
reason_line number None = refused_line number
reason_line number (Some meaning) = codes "refused " ++ (decimal number ++ (codes ": " ++ (meaning ++ 10 ∷ [])))

-- a line, and what follows it
abbrev pub echoed : List ℕ → List ℕ → List ℕ
echoed line text = line ++ (codes " -> " ++ text)

-- the refusal of a line
abbrev pub refused_text : Bool → List ℕ → ℕ → List ℕ
refused_text false line number = refused_line number
refused_text true line number = echoed line (reason_line number (meaning_of number))

-- the number of a refusal
abbrev pub refusal_in : Answer → Option ℕ
refusal_in (Refused refusal) = Some (refusal_number refusal)
refusal_in given = None

-- the answer to a line
abbrev pub answer_text : Bool → List ℕ → Answer → List ℕ
answer_text echoes line (Refused refusal) = refused_text echoes line (refusal_number refusal)
answer_text false line given = answer_line given
answer_text true line given = echoed line (answer_line given)
