-- The moves of an engine that is served.
use Rattle.std.specs.Prelude.{◌≡◌, ℕ, List, [], ◌∷◌, ◌++◌, Option, Some, None, option_map}
use Rattle.sq_serving.specs.declared.watch.ServeMark.{ServeMark}
use Rattle.sq_serving.specs.declared.watch.ServeMark.TheVariants.{MoveBegins, MoveEnds}
use Rattle.sq_report.specs.Tallies.{answers_noted, moved_noted}
use Rattle.sq_report.specs.declared.moves.MoveTally.{MoveTally}
use Rattle.sq_report.specs.declared.moves.MoveRecord.{MoveRecord}

-- a move of this many segments that begins at `micros`
abbrev pub move_begun : ℕ → ℕ → MoveTally
move_begun segments micros = record {
  segments = segments;
  moved = record { families = 0; bytes = 0 };
  began = micros;
  done = micros;
  answers = record { committed = 0; aborted = 0; longest = 0 };
}

-- the tally of the running move after a mark; `wait` is how long the job it answers waited
abbrev pub move_noted : MoveTally → ServeMark → ℕ → MoveTally
move_noted t mark wait =
    record t { moved = moved_noted t.moved mark; answers = answers_noted t.answers mark wait }

-- the moves that are done once the running one ends at `micros`
abbrev pub done_with : List MoveTally → Option MoveTally → ℕ → List MoveTally
done_with done None micros = done
done_with done (Some running) micros = done ++ record running { done = micros } ∷ []

-- the running move ends at `micros`
abbrev pub EndsMove : MoveRecord → ℕ → MoveRecord → Type 0
EndsMove old micros new =
    (new.done.items ≡ done_with old.done.items old.running micros) × (new.running ≡ None)

-- a move of this many segments begins at `micros`, and a running one ends
abbrev pub BeginsMove : MoveRecord → ℕ → ℕ → MoveRecord → Type 0
BeginsMove old segments micros new =
    (new.done.items ≡ done_with old.done.items old.running micros)
    × (new.running ≡ Some (move_begun segments micros))

-- the moves after a mark made at `micros`
abbrev pub NotesMove : MoveRecord → ServeMark → ℕ → ℕ → MoveRecord → Type 0
NotesMove old (MoveBegins segments) micros wait new = BeginsMove old segments micros new
NotesMove old MoveEnds micros wait new = EndsMove old micros new
NotesMove old mark micros wait new =
    (new.done.items ≡ old.done.items)
    × (new.running ≡ option_map (λ running. move_noted running mark wait) old.running)
