-- How the input of a desk ended, by what was handed on to it.
use Rattle.std.specs.Prelude.{◌≡◌, ℕ, Bool, true, List, ◌∷◌, ◌++◌, Option, None, Some}
use Rattle.sq_serving.specs.declared.line_place.LinePlace.{LinePlace}
use Rattle.sq_serving.specs.declared.ending.InputOutcome.{InputOutcome}
use Rattle.sq_serving.specs.declared.ending.InputOutcome.TheVariants as outcome
use Rattle.sq_serving.specs.declared.feed.Fed.{Fed}
use Rattle.sq_serving.specs.declared.feed.Fed.TheVariants as fed
use Rattle.sq_serving.specs.declared.feed.InputEnd.TheVariants as end

-- this was handed on
abbrev pub WasHandedOn : Fed → List Fed → Type 0
WasHandedOn fed heard = (before : List Fed) × (after : List Fed) × (heard ≡ before ++ fed ∷ after)

-- the recorded end of the input was handed on, or a refused line ended a strict input
abbrev pub KnowsEnd : Bool → List Fed → Option InputOutcome → Type 0
KnowsEnd strict heard None = Unit {0}
KnowsEnd strict heard (Some outcome.Whole) = WasHandedOn (fed.End end.Whole) heard
KnowsEnd strict heard (Some outcome.Broken) = (fault : ℕ) × (place : LinePlace) × WasHandedOn (fed.End (end.Broken fault place)) heard
KnowsEnd strict heard (Some outcome.Refused) = strict ≡ true

-- what is recorded later is known as well
abbrev pub KeepsEnd : Bool → Option InputOutcome → Option InputOutcome → Type 0
KeepsEnd strict old new = (heard : List Fed) → KnowsEnd strict heard old → KnowsEnd strict heard new

-- the same after `more` was handed on
abbrev pub LearnsEnd : Bool → List Fed → Option InputOutcome → Option InputOutcome → Type 0
LearnsEnd strict more old new = (heard : List Fed) → KnowsEnd strict heard old → KnowsEnd strict (heard ++ more) new
