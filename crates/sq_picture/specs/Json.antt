-- What moves, as a JSON value:
-- {"ranges":[{"dst":D,"hi":HI,"lo":LO,"src":S},..],"segments":[{"dst":D,"hi":HI,"lo":LO,"src":S,"stage":I},..],"stages":N}.
use Rattle.std.specs.Prelude.{◌≡◌, ℕ, List, [], ◌∷◌, ◌++◌, map, Some, codes}
use Rattle.serde_json.specs.Data.{Data, array, object, member, no_members}
use Rattle.serde_json.specs.Read.{read}
use Rattle.serde_json.specs.View.{items_of}
use Rattle.serde_json.specs.Written.{compact_text}
use Rattle.sq_plan.specs.Spelling.{number_data}
use Rattle.sq_moves.specs.declared.recon.Range.{Range}
use Rattle.sq_moves.specs.ReconValue.{ReconValue, stage_in, stages}

-- a reconfiguration range
abbrev pub moved_range_data : Range → Data
moved_range_data range =
    object (member (codes "dst") (number_data range.dst) (member (codes "hi") (number_data range.hi)
    (member (codes "lo") (number_data range.lo) (member (codes "src") (number_data range.src) no_members))))

-- a segment, with its stage
abbrev pub segment_data : ReconValue → Range → Data
segment_data recon segment =
    object (member (codes "dst") (number_data segment.dst) (member (codes "hi") (number_data segment.hi)
    (member (codes "lo") (number_data segment.lo) (member (codes "src") (number_data segment.src)
    (member (codes "stage") (number_data (stage_in recon segment)) no_members)))))

-- the whole: the ranges in key order, the segments in the order of their numbers, and the number of
-- stages
abbrev pub moves_data : ReconValue → Data
moves_data recon =
    object (member (codes "ranges") (array (items_of (map moved_range_data recon.ranges)))
    (member (codes "segments") (array (items_of (map (segment_data recon) recon.segments)))
    (member (codes "stages") (number_data (stages recon)) no_members)))

-- the text is the compact one of what moves, which has no line end, and reading it returns that
-- value again
pub record SpellsMoves (recon : ReconValue) (text : List ℕ) : Type 0 where
  pub compact : text ≡ compact_text (moves_data recon)
  pub reads_back : read text ≡ Some (moves_data recon)

-- such a text, with a line end after it
abbrev pub TellsAsJson : ReconValue → List ℕ → Type 0
TellsAsJson recon out = (text : List ℕ) × SpellsMoves recon text × (out ≡ text ++ 10 ∷ [])
