-- What the options of a subcommand hold.
use Rattle.std.specs.Prelude.{◌≡◌, ◌≢◌, ◌⊎◌, ◌&&◌, ◌||◌, not, ℕ, Bool, List, true, false, codes, Option, Some, None, option_map, is_some, Result, Ok, Err}
use Rattle.std.specs.Borrow.{Bor}
use Rattle.std.specs.Str.Parse.{digits_value, without_leading_plus}
use Rattle.clap.specs.Values.{IsUnsignedIn}
use Rattle.clap.specs.Walk.{Text, Row, first_of}
use Rattle.clap.specs.declared.error.kind.ErrorKind.{ErrorKind}
use Rattle.clap.specs.declared.error.kind.ErrorKind.TheVariants.{MissingRequiredArgument, ArgumentConflict, ValueValidation, OutOfMemory}
use Rattle.sq_command.specs.declared.clash.Clash.{Clash}
use Rattle.sq_command.specs.declared.clash.Clash.TheVariants.{TwoForms, BadKey, Memory}
use Rattle.sq_command.specs.declared.line.Input.{Input}
use Rattle.sq_command.specs.declared.line.Plans.{Plans}

-- the number of an option with this text, if it spells a number from `least` to `most`
abbrev pub GivenNumberOf : ℕ → ℕ → Option Text → Option ℕ → Type 0
GivenNumberOf least most None number = number ≡ None
GivenNumberOf least most (Some text) None = IsUnsignedIn least most text → ⊥
GivenNumberOf least most (Some text) (Some number) =
    IsUnsignedIn least most text × (number ≡ digits_value 10 (without_leading_plus text))

-- the same number, or else the default
abbrev pub NumberOf : ℕ → ℕ → ℕ → Option Text → ℕ → Type 0
NumberOf least most default None number = number ≡ default
NumberOf least most default (Some text) number =
    (IsUnsignedIn least most text × (number ≡ digits_value 10 (without_leading_plus text)))
    ⊎ ((IsUnsignedIn least most text → ⊥) × (number ≡ default))

-- a flag is given if its text says so, and isn't if the text denies it or there is no text
pub record FlagOf (text : Option Text) (flag : Bool) : Type 0 where
  pub given : text ≡ Some (codes "true") → flag ≡ true
  pub denied : text ≡ Some (codes "false") → flag ≡ false
  pub without : text ≡ None → flag ≡ false

-- the name is the value of this option, if it is given
abbrev pub IsNameOf : Text → List Row → Option (Bor Text) → Type 0
IsNameOf id rows name = option_map (λ text. text.now) name ≡ first_of id rows

-- the plans are in the two files that are named, and the rows in a third if it is named; or none of
-- the three is named
abbrev pub ArePlansOf : List Row → Option Plans → Type 0
ArePlansOf rows None =
    IsNameOf (codes "old") rows None × IsNameOf (codes "new") rows None
    × IsNameOf (codes "rows") rows None
ArePlansOf rows (Some plans) =
    IsNameOf (codes "old") rows (Some plans.old) × IsNameOf (codes "new") rows (Some plans.new)
    × IsNameOf (codes "rows") rows plans.rows

-- the main part of an input is in the file that is named, or else in standard input: if no file is
-- named, or '-'
abbrev pub IsMainOf : List Row → Option (Bor Text) → Type 0
IsMainOf rows None =
    IsNameOf (codes "file") rows None ⊎ (first_of (codes "file") rows ≡ Some (codes "-"))
IsMainOf rows (Some file) = IsNameOf (codes "file") rows (Some file) × (file.now ≢ codes "-")

-- the input comes from the files that are named
abbrev pub IsInputOf : List Row → Input → Type 0
IsInputOf rows input = IsMainOf rows input.file × ArePlansOf rows input.plans

-- one of the three files beside the input is named, but not the files of both plans
abbrev pub lacks_plan : List Row → Bool
lacks_plan rows =
    let old = is_some (first_of (codes "old") rows) in
    let new = is_some (first_of (codes "new") rows) in
    (old || (new || is_some (first_of (codes "rows") rows))) && not (old && new)

-- the kind of error of a clash
abbrev pub clash_kind : Clash → ErrorKind
clash_kind TwoForms = ArgumentConflict
clash_kind BadKey = ValueValidation
clash_kind Memory = OutOfMemory
clash_kind clash = MissingRequiredArgument

-- options are refused because a file of a plan is missing
abbrev pub LacksPlan : List Row → ErrorKind → Type 0
LacksPlan rows kind = (kind ≡ MissingRequiredArgument) × (lacks_plan rows ≡ true)

-- the result of options: a value that satisfies `Holds`, or a clash whose kind satisfies `Refuses`
abbrev pub Asks : {A : Type 0} → (List Row → A → Type 0) → (List Row → ErrorKind → Type 0)
    → List Row → Result A Clash → Type 0
Asks Holds Refuses rows (Ok asked) = Holds rows asked
Asks Holds Refuses rows (Err clash) = Refuses rows (clash_kind clash)
