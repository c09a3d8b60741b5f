use Rattle.std.proofs.Common.{◌≡◌, ℕ, List, ◌∷◌, ◌++◌}
use Rattle.std.specs.List.{flat_map}
use Rattle.std.specs.Io.KnownBytes.{Appends}
use Rattle.sq_text.specs.Texts.{entry_text}
use Rattle.sq_text.proofs.dump.write_entries.Given as goal

-- the bytes so far go before those of the rows that are still to come
abbrev pub invariant-loop-key : goal.invariant-loop-key
invariant-loop-key g l =
    (goal.iterator-loop-key g).can_next l.key-iterator
    × (goal.iterator-loop-key g).is_finite l.key-iterator
    × ((bytes : List ℕ) × Appends (g.W.Write.contents l.initial.writer) (g.W.Write.contents l.writer) bytes
    × (bytes ++ flat_map (λ entry. 32 ∷ entry_text entry) l.key-iterator ≡ flat_map (λ entry. 32 ∷ entry_text entry) l.initial.key-iterator))
