-- When all is done at a desk, and why an epoch is to end.
use Rattle.std.specs.Prelude.{◌≡◌, Bool, true, false, not, ◌==◌, ◌&&◌, ◌||◌, nat_le, length, sum_by, Option, Some, None, is_some, is_none}
use Rattle.std.specs.Bool.{then_some}
use Rattle.std.specs.Option.{option_or}
use Rattle.sq_serving.specs.declared.desk.ServeDesk.{ServeDesk}
use Rattle.sq_serving.specs.declared.desk.Wish.{Wish}
use Rattle.sq_serving.specs.declared.desk.Wish.TheVariants as wish
use Rattle.sq_serving.specs.declared.ending.InputOutcome.{InputOutcome}
use Rattle.sq_serving.specs.declared.ending.InputOutcome.TheVariants as outcome
use Rattle.sq_serving.specs.declared.feed.InputEnd.{InputEnd}
use Rattle.sq_serving.specs.declared.feed.InputEnd.TheVariants as end
use Rattle.sq_serving.specs.declared.desk.TheConstants.{LOST_CALLS}
use Rattle.sq_serving.specs.Settling.{unanswered_jobs}

-- the wish, if it is that of a line
abbrev pub asked_wish : Option Wish → Option Wish
asked_wish (Some (wish.Move asked)) = Some (wish.Move asked)
asked_wish (Some (wish.Rows asked)) = Some (wish.Rows asked)
asked_wish (Some wish.Close) = None
asked_wish None = None

-- the first of two, if one is that of a line
abbrev pub asked_first : Option Wish → Option Wish → Option Wish
asked_first first second = option_or (asked_wish first) (asked_wish second)

module _ {W : Type 0} where
  -- each job has its answer; or none waits to be posted, and there was no work in so many calls
  -- that the open ones count as lost
  abbrev pub expects_nothing : ServeDesk W → Bool
  expects_nothing desk =
      (unanswered_jobs desk.counts (sum_by length desk.sides) == 0)
      || ((sum_by length desk.sides == 0) && nat_le LOST_CALLS desk.idle_calls)

  -- the input has ended, no rows move, no move waits, and no answer is expected
  abbrev pub is_done : ServeDesk W → Bool
  is_done desk = is_some desk.end && is_none desk.moving && (length desk.queue == 0) && expects_nothing desk

  -- why the epoch should end: for what a line wishes, or else to close once all is done
  abbrev pub wish_of : ServeDesk W → Option Wish
  wish_of desk = option_or (asked_first desk.wish desk.next_wish) (then_some (is_done desk) wish.Close)

abbrev pub is_move : Option Wish → Bool
is_move (Some (wish.Move asked)) = true
is_move (Some (wish.Rows asked)) = false
is_move (Some wish.Close) = false
is_move None = false

module _ {W : Type 0} where
  -- rows move, or will move
  abbrev pub moves : ServeDesk W → Bool
  moves desk = (is_some desk.moving || is_move desk.wish) || not (length desk.queue == 0)

-- if all of the input was read, `told` says so
abbrev pub KnowsWhole : InputEnd → Option InputOutcome → Type 0
KnowsWhole end.Whole told = told ≡ Some outcome.Whole
KnowsWhole (end.Broken fault place) told = Unit {0}
KnowsWhole end.Memory told = Unit {0}
