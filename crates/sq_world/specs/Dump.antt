-- The dump of a world: where each family and each chunk under way is.
use Rattle.std.specs.Prelude.{ℕ, List, [], ◌++◌, Option, Some, None}
use Rattle.std.specs.List.{flat_map, range_with_len}
use Rattle.sq_store.specs.InOrder.{families_in}
use Rattle.sq_text.specs.Texts.{end_line, at_line, way_lines}
use Rattle.sq_transition.specs.WorldValue.{WorldValue, core_at, link_index, link_value, under_way}
use Rattle.sq_transition.specs.Leading.{phase_of}

-- the families in the store of a partition, by rising root key
abbrev pub part_lines : WorldValue → ℕ → List ℕ
part_lines w part = flat_map (at_line part) (families_in (core_at w part).store)

-- the chunks of a link that were cut and aren't loaded yet, by rising number
abbrev pub link_lines : WorldValue → Option ℕ → List ℕ
link_lines w None = []
link_lines w (Some i) = flat_map way_lines (under_way (link_value w i))

-- the chunks under way from a partition, by rising destination
abbrev pub source_lines : WorldValue → ℕ → List ℕ
source_lines w src = flat_map (λ dst. link_lines w (link_index w src dst)) (range_with_len 0 w.old.parts)

-- the phase, each partition with its families, and each link with its chunks under way
abbrev pub dump : WorldValue → List ℕ
dump w =
    end_line (phase_of w.leader)
    ++ (flat_map (part_lines w) (range_with_len 0 w.old.parts) ++ flat_map (source_lines w) (range_with_len 0 w.old.parts))
