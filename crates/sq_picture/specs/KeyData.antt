-- The owners of a root key, and where it moves, as a JSON value:
-- {"key":K,"leaf":L,"new":P,"old":P,"range":{"hi":HI,"lo":LO},"segment":S,"stage":I}.
use Rattle.std.specs.Prelude.{ℕ, Bool, Option, Some, None, codes}
use Rattle.serde_json.specs.Data.{Data, object, member, no_members}
use Rattle.sq_plan.specs.PlanValue.{owner}
use Rattle.sq_plan.specs.Spelling.{number_data}
use Rattle.sq_moves.specs.declared.recon.Range.{Range}
use Rattle.sq_moves.specs.ReconValue.{stage_in}
use Rattle.sq_moves.specs.OpeningValue.{OpeningValue}
use Rattle.sq_picture.specs.Owners.{range_with, told_leaf}

-- the ends of a range
abbrev pub ends_data : Range → Data
ends_data range =
    object (member (codes "hi") (number_data range.hi)
    (member (codes "lo") (number_data range.lo) no_members))

-- a root key and its owners; with the range and the stage if it moves in a range, and with the
-- segment and the leaf if it is at such a place, too
abbrev pub placed_data : OpeningValue → ℕ → Option Range → Option (ℕ × ℕ) → Data
placed_data o key None place =
    object (member (codes "key") (number_data key)
    (member (codes "new") (number_data (owner o.new key))
    (member (codes "old") (number_data (owner o.old key)) no_members)))
placed_data o key (Some range) None =
    object (member (codes "key") (number_data key)
    (member (codes "new") (number_data (owner o.new key))
    (member (codes "old") (number_data (owner o.old key))
    (member (codes "range") (ends_data range)
    (member (codes "stage") (number_data (stage_in o.recon range)) no_members)))))
placed_data o key (Some range) (Some place) =
    object (member (codes "key") (number_data key)
    (member (codes "leaf") (number_data place.1)
    (member (codes "new") (number_data (owner o.new key))
    (member (codes "old") (number_data (owner o.old key))
    (member (codes "range") (ends_data range)
    (member (codes "segment") (number_data place.0)
    (member (codes "stage") (number_data (stage_in o.recon range)) no_members)))))))

-- a root key where the plans and the reconfiguration place it, with its segment and leaf if they
-- are asked for
abbrev pub key_data : Bool → OpeningValue → ℕ → Data
key_data tells_leaf o key =
    placed_data o key (range_with o.recon key) (told_leaf tells_leaf o.recon key)
