-- The forms of lines, word by word, and the first departure of a line from its form. Words are
-- counted from 1.
use Rattle.std.specs.Prelude.{ℕ, ◌+◌, ◌-◌, ◌^◌, min, Bool, nat_eq, if◌then◌else◌, List, [], ◌∷◌, Option, Some, None}
use Rattle.std.specs.List.{starts_with, ends_with}
use Rattle.sq_text.specs.Words.{Word, words_of}
use Rattle.sq_text.specs.Verbs.{op_name_in}
use Rattle.sq_text.specs.declared.verb.OpName.{OpName}
use Rattle.sq_text.specs.declared.verb.OpName.TheVariants.{Get, Put, Add, Del, Check}
use Rattle.sq_input.specs.declared.wanted.Wanted.{Wanted}
use Rattle.sq_input.specs.declared.wanted.Wanted.TheVariants as wanted
use Rattle.sq_input.specs.declared.faulty_lines.Behind.{Behind}
use Rattle.sq_input.specs.declared.faulty_lines.Behind.TheVariants.{Nothing, Operations}
use Rattle.sq_input.specs.declared.faulty_lines.LineFlaw.{LineFlaw}
use Rattle.sq_input.specs.declared.faulty_lines.LineFlaw.TheVariants.{Mark, CarriageReturn, Empty, Wrong, Missing, Extra}
use Rattle.sq_input.specs.Fits.{fits}

-- the words after the name of an operation
abbrev pub op_form : OpName → List Wanted
op_form Get = wanted.Table ∷ wanted.Sub ∷ []
op_form Put = wanted.Table ∷ wanted.Sub ∷ wanted.Signed ∷ wanted.Note ∷ []
op_form Add = wanted.Table ∷ wanted.Sub ∷ wanted.Signed ∷ []
op_form Del = wanted.Table ∷ wanted.Sub ∷ []
op_form Check = wanted.Table ∷ wanted.Sub ∷ wanted.Signed ∷ []

-- the number of the next word; it stays at the largest 64-bit number
abbrev pub next : ℕ → ℕ
next at = min (at + 1) (2 ^ 64 - 1)

-- the flaw of a word that doesn't fit: it is empty, or else it has `flaw`
abbrev pub flaw_at : ℕ → Word → LineFlaw → LineFlaw
flaw_at at [] flaw = Empty at
flaw_at at (byte ∷ bytes) flaw = flaw

-- the flaw, unless the word is the name of an operation
abbrev pub unless_named : LineFlaw → (OpName → Option LineFlaw) → Option OpName → Option LineFlaw
unless_named flaw goes_on None = Some flaw
unless_named flaw goes_on (Some name) = goes_on name

-- the first word that departs from this form, or from what may follow it; `at` is the number of the
-- first word
abbrev pub misfit : Behind → ℕ → List Wanted → List Word → Option LineFlaw
misfit behind at [] [] = None
misfit behind at (wanted ∷ form) [] = Some (Missing at wanted)
misfit behind at (wanted ∷ form) (word ∷ words) =
    if fits wanted word then misfit behind (next at) form words else Some (flaw_at at word (Wrong at wanted))
misfit Nothing at [] (word ∷ words) = Some (flaw_at at word (Extra at))
misfit Operations at [] (word ∷ words) =
    unless_named (flaw_at at word (Wrong at wanted.OpName)) (λ name. misfit Operations (next at) (op_form name) words) (op_name_in word)

-- the words of the line of the sizes
abbrev pub sizes_form : List Wanted
sizes_form = wanted.Config ∷ wanted.Number ∷ wanted.Number ∷ wanted.Number ∷ []

-- the words of a row's line
abbrev pub row_form : List Wanted
row_form = wanted.Row ∷ wanted.Number ∷ wanted.Table ∷ wanted.Sub ∷ wanted.Signed ∷ wanted.Note ∷ []

-- the words of a transaction's line before its operations
abbrev pub txn_form : List Wanted
txn_form = wanted.Txn ∷ wanted.Number ∷ wanted.Number ∷ wanted.Number ∷ []

-- the line begins with a byte order mark
abbrev pub has_mark : List ℕ → Bool
has_mark line = starts_with nat_eq line (239 ∷ 187 ∷ 191 ∷ [])

-- the first departure of a line from this form; `behind` says what may follow the form
abbrev pub line_flaw : Behind → List Wanted → List ℕ → Option LineFlaw
line_flaw behind form line =
    if has_mark line then Some Mark
    else if ends_with nat_eq line (13 ∷ []) then Some CarriageReturn
    else misfit behind 1 form (words_of line)

-- the first departure of words from 'old' or 'new' and one more word
abbrev pub plan_misfit : Wanted → List Word → Option LineFlaw
plan_misfit front [] = Some (Missing 1 front)
plan_misfit front (word ∷ []) = if fits front word then Some (Missing 2 wanted.Plan) else Some (flaw_at 1 word (Wrong 1 front))
plan_misfit front (word ∷ plan ∷ words) = if fits front word then None else Some (flaw_at 1 word (Wrong 1 front))

-- the first departure of a line from 'old' or 'new', a space, and a plan, which isn't looked at
abbrev pub plan_line_flaw : Wanted → List ℕ → Option LineFlaw
plan_line_flaw front line = if has_mark line then Some Mark else plan_misfit front (words_of line)
