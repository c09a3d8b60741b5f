use Rattle.std.proofs.Common.{◌≡◌, ℕ, List, ◌++◌}
use Rattle.std.specs.List.{flat_map}
use Rattle.std.specs.Io.KnownBytes.{Appends}
use Rattle.sq_store.specs.InOrder.{families_in}
use Rattle.sq_text.specs.Texts.{at_line}
use Rattle.sq_world.proofs.state.dump.write_families.Given as goal

-- the lines so far go before those of the families that are still to come
abbrev pub invariant-loop-family : goal.invariant-loop-family
invariant-loop-family g l =
    (goal.iterator-loop-family g).can_next l.family-iterator
    × (goal.iterator-loop-family g).is_finite l.family-iterator
    × ((bytes : List ℕ) × Appends (g.W.Write.contents l.initial.writer) (g.W.Write.contents l.writer) bytes
    × (bytes ++ flat_map (at_line l.part) l.family-iterator ≡ flat_map (at_line l.part) (families_in l.store)))
