-- The steps of a whole move, and their lines.
use Rattle.std.specs.Prelude.{◌≡◌, ℕ, ◌^◌, ◌<◌, ⊤, List, [], ◌∷◌, map, codes, decimal, Ok}
use Rattle.std.specs.List.{join_with_byte}
use Rattle.sq_model.specs.declared.step.Step.{Step}
use Rattle.sq_model.specs.declared.step.Step.TheVariants as step
use Rattle.sq_text.specs.Words.{Word}
use Rattle.sq_text.specs.Texts.{line}
use Rattle.sq_text.specs.Steps.{step_of}
use Rattle.sq_world.specs.declared.move_step.MoveStep.{MoveStep}
use Rattle.sq_world.specs.declared.move_step.MoveStep.TheVariants.{Prepare, Start, Claim, Begin, Cut, Push, Pop, Load, Complete, Report, Next, Finish}
use Rattle.sq_world.specs.declared.move_step.TheConstants.{WHOLE, PULL}

-- its step: each segment is claimed as a whole, by an asynchronous pull
abbrev pub step_of_move : MoveStep → Step
step_of_move (Prepare part) = step.Prepare part
step_of_move Start = step.Start
step_of_move (Claim seg) = step.Claim seg WHOLE PULL
step_of_move (Begin seg) = step.Begin seg WHOLE PULL
step_of_move (Cut src dst) = step.Cut src dst
step_of_move (Push src dst) = step.Push src dst
step_of_move (Pop src dst) = step.Pop src dst
step_of_move (Load src dst) = step.Load src dst
step_of_move (Complete seg) = step.Complete seg WHOLE PULL
step_of_move (Report part) = step.Report part
step_of_move Next = step.Next
step_of_move Finish = step.Finish

-- the verb of its line, and the numbers after it
abbrev pub verb_of : MoveStep → Word
verb_of (Prepare part) = codes "prepare"
verb_of Start = codes "start"
verb_of (Claim seg) = codes "claim"
verb_of (Begin seg) = codes "begin"
verb_of (Cut src dst) = codes "cut"
verb_of (Push src dst) = codes "push"
verb_of (Pop src dst) = codes "pop"
verb_of (Load src dst) = codes "load"
verb_of (Complete seg) = codes "complete"
verb_of (Report part) = codes "report"
verb_of Next = codes "next"
verb_of Finish = codes "finish"

abbrev pub move_numbers : MoveStep → List ℕ
move_numbers (Prepare part) = part ∷ []
move_numbers Start = []
move_numbers (Claim seg) = seg ∷ WHOLE ∷ PULL ∷ []
move_numbers (Begin seg) = seg ∷ WHOLE ∷ PULL ∷ []
move_numbers (Cut src dst) = src ∷ dst ∷ []
move_numbers (Push src dst) = src ∷ dst ∷ []
move_numbers (Pop src dst) = src ∷ dst ∷ []
move_numbers (Load src dst) = src ∷ dst ∷ []
move_numbers (Complete seg) = seg ∷ WHOLE ∷ PULL ∷ []
move_numbers (Report part) = part ∷ []
move_numbers Next = []
move_numbers Finish = []

-- its numbers fit 64 bits
abbrev pub NumbersFit : MoveStep → Type 0
NumbersFit (Prepare part) = part < 2 ^ 64
NumbersFit Start = ⊤
NumbersFit (Claim seg) = seg < 2 ^ 64
NumbersFit (Begin seg) = seg < 2 ^ 64
NumbersFit (Cut src dst) = (src < 2 ^ 64) × (dst < 2 ^ 64)
NumbersFit (Push src dst) = (src < 2 ^ 64) × (dst < 2 ^ 64)
NumbersFit (Pop src dst) = (src < 2 ^ 64) × (dst < 2 ^ 64)
NumbersFit (Load src dst) = (src < 2 ^ 64) × (dst < 2 ^ 64)
NumbersFit (Complete seg) = seg < 2 ^ 64
NumbersFit (Report part) = part < 2 ^ 64
NumbersFit Next = ⊤
NumbersFit Finish = ⊤

-- the words of its line, and the line with its end
abbrev pub words_of_move : MoveStep → List Word
words_of_move step = verb_of step ∷ map decimal (move_numbers step)

abbrev pub move_line : MoveStep → List ℕ
move_line step = line (words_of_move step)

-- a script reads its line as this step
abbrev pub IsReadBack : MoveStep → Type 0
IsReadBack step = (tables : ℕ) → step_of tables (join_with_byte 32 (words_of_move step)) ≡ Ok (step_of_move step)
