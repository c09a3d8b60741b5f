-- Plans with stages that aren't read.
use Rattle.std.specs.Prelude.{ℕ, Bool, false, ◌==◌, ◌&&◌, Option, Some, None, is_some, codes}
use Rattle.serde_json.specs.Data.{Data}
use Rattle.serde_json.specs.Find.{get}
use Rattle.sq_plan.specs.Reading.{whole_at}

-- the number is 1
abbrev pub is_one : Option ℕ → Bool
is_one None = false
is_one (Some number) = number == 1

-- a plan is of version 1 and has stages, which only version 2 reads
abbrev pub leaves_stages_unread : Data → Bool
leaves_stages_unread plan = is_one (whole_at (codes "version") plan) && is_some (get (codes "stages") plan)

-- the same of a text, by its JSON value
abbrev pub has_unread_stages : Option Data → Bool
has_unread_stages None = false
has_unread_stages (Some plan) = leaves_stages_unread plan
