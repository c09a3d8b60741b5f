-- Which root keys are asked for, and which files hold the plans.
use Rattle.std.specs.Prelude.{◌≡◌, ◌≢◌, ◌⊎◌, ◌<◌, ◌^◌, ℕ, List, [], Some, None, map, unwrap_or, codes, Result, Ok, Err}
use Rattle.std.specs.List.{All}
use Rattle.std.specs.Str.Parse.{IsNumeral, digits_value, without_leading_plus}
use Rattle.clap.specs.Walk.{Text, Row, all_of, one_of}
use Rattle.clap.specs.declared.error.kind.ErrorKind.{ErrorKind}
use Rattle.clap.specs.declared.error.kind.ErrorKind.TheVariants.{MissingRequiredArgument}
use Rattle.sq_command.specs.declared.clash.Clash.{Clash}
use Rattle.sq_command.specs.declared.clash.Clash.TheVariants.{NoKeys, BadKey, Memory}
use Rattle.sq_command.specs.declared.line.Plans.{Plans}
use Rattle.sq_command.specs.declared.line.Line.{Line}
use Rattle.sq_command.specs.declared.line.Line.TheVariants.{Work, Owner, Demo, Serve, Explain}
use Rattle.sq_command.specs.declared.owner.TheConstants.{MAX_WIDTH}
use Rattle.sq_command.specs.Options.{
  GivenNumberOf,
  FlagOf,
  IsNameOf,
  ArePlansOf,
  LacksPlan,
  clash_kind,
}

-- the words that are to be root keys
abbrev pub key_words : List Row → List Text
key_words rows = unwrap_or (all_of (codes "key") rows) []

-- the text spells a root key, a number of 32 bits
abbrev pub SpellsKey : Text → Type 0
SpellsKey text =
    let digits = without_leading_plus text in IsNumeral 10 digits × (digits_value 10 digits < 2 ^ 32)

abbrev pub spelled_key : Text → ℕ
spelled_key text = digits_value 10 (without_leading_plus text)

-- the key that a word spells, or the clash `BadKey` if it spells none
abbrev pub IsKeyOf : Text → Result ℕ Clash → Type 0
IsKeyOf word (Ok key) = SpellsKey word × (key ≡ spelled_key word)
IsKeyOf word (Err clash) = (clash ≡ BadKey) × (SpellsKey word → ⊥)

-- the keys are those that the words spell, in their order
abbrev pub AreKeysOf : List Row → List ℕ → Type 0
AreKeysOf rows keys = All SpellsKey (key_words rows) × (keys ≡ map spelled_key (key_words rows))

-- words are refused: `NoKeys` if there are none, `BadKey` if one of them spells no key, `Memory` if
-- there are some and memory runs out for them
abbrev pub IsKeysClash : List Row → Clash → Type 0
IsKeysClash rows NoKeys = key_words rows ≡ []
IsKeysClash rows BadKey = All SpellsKey (key_words rows) → ⊥
IsKeysClash rows Memory = key_words rows ≢ []
IsKeysClash rows clash = ⊥

-- options are refused, with an error of this kind, because of the keys
pub record KeysClash (rows : List Row) (kind : ErrorKind) : Type 0 where
  pub clash : Clash
  pub refused : IsKeysClash rows clash
  pub of_kind : kind ≡ clash_kind clash

-- the plans are in the files that are named
abbrev pub HasPlans : List Row → Plans → Type 0
HasPlans rows plans = ArePlansOf rows (Some plans)

-- the plans are refused because a file of one is missing
abbrev pub PlansClash : List Row → ErrorKind → Type 0
PlansClash rows kind =
    LacksPlan rows kind ⊎ ((kind ≡ MissingRequiredArgument) × IsNameOf (codes "old") rows None)

-- the line asks for the keys, the plans and the width of leaves that are named, as JSON if that
-- flag is given
abbrev pub IsOwnerLine : List Row → Line → Type 0
IsOwnerLine rows (Owner keys plans width json) =
    AreKeysOf rows keys.items × HasPlans rows plans
    × GivenNumberOf 1 MAX_WIDTH (one_of (codes "width") rows) width
    × FlagOf (one_of (codes "json") rows) json
IsOwnerLine rows (Work task input) = ⊥
IsOwnerLine rows (Demo demo folder) = ⊥
IsOwnerLine rows (Serve pumps strict files file reports) = ⊥
IsOwnerLine rows (Explain number) = ⊥

-- its options are refused because of the plans or the keys
abbrev pub OwnerClash : List Row → ErrorKind → Type 0
OwnerClash rows kind = PlansClash rows kind ⊎ KeysClash rows kind
