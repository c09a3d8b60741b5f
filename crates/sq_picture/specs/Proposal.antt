-- The sizes that are proposed for a move.
use Rattle.std.specs.Prelude.{◌≡◌, ◌≢◌, ◌*◌, ◌/◌, ◌-◌, ◌<◌, ◌≤◌, ◌^◌, ℕ, min, max, None, sum_by}
use Rattle.std.specs.Int.{div_ceil, IsPowerOfTwo}
use Rattle.sq_moves.specs.declared.recon.Range.{Range}
use Rattle.sq_moves.specs.declared.recon.TheConstants.{MAX_WIDTH}
use Rattle.sq_moves.specs.ReconValue.{ReconValue}
use Rattle.sq_moves.specs.OpeningValue.{OpeningValue}
use Rattle.sq_moves.specs.Between.{recon_fault}
use Rattle.sq_picture.specs.declared.size.Size.{Size}
use Rattle.sq_picture.specs.declared.proposal.TheConstants.{LEAVES_OF_MOVE, LEAST_LIMIT, MOST_LIMIT, CHUNKS_OF_MOVE, LARGE_LIMIT}
use Rattle.sq_picture.specs.Sizes.{in_64_bits}

-- how many root keys move, with rows or without
abbrev pub keys_moved : ReconValue → ℕ
keys_moved recon = sum_by (λ (range : Range). range.hi - range.lo) recon.ranges

-- the least width with which these root keys make at most as many leaves as a move is to have
abbrev pub width_of_keys : ℕ → ℕ
width_of_keys keys = min MAX_WIDTH (max 1 (div_ceil keys LEAVES_OF_MOVE))

-- the width after `doublings` of that of an opening
abbrev pub width_after : OpeningValue → ℕ → ℕ
width_after o doublings =
    let keys = in_64_bits (keys_moved o.recon) in
    min MAX_WIDTH (2 ^ doublings * width_of_keys keys)

-- a move of the opening has a fault with leaves so wide after `doublings`
abbrev pub HasFaultAfter : OpeningValue → ℕ → Type 0
HasFaultAfter o doublings = recon_fault o.old o.new (width_after o doublings) ≢ None

-- the width is doubled only as often as the move has a fault without that
pub record IsWidthFor (o : OpeningValue) (width : ℕ) : Type 0 where
  pub doublings : ℕ
  pub is : width ≡ width_after o doublings
  pub needed : (fewer : ℕ) → fewer < doublings → HasFaultAfter o fewer

-- a leaf of families of mean size, in bytes
abbrev pub leaf_bytes : Size → ℕ → ℕ
leaf_bytes size width = in_64_bits (div_ceil size.bytes (max size.families 1) * width)

-- the bytes that a chunk is to hold at least: a leaf, or a share of the move if that is more
abbrev pub chunk_bytes : Size → ℕ → ℕ
chunk_bytes size width =
    min (max (leaf_bytes size width) (min (size.bytes / CHUNKS_OF_MOVE) LARGE_LIMIT)) MOST_LIMIT

-- the limit is the least power of two from `LEAST_LIMIT` on that is not below `bytes`
pub record IsLimitFor (bytes limit : ℕ) : Type 0 where
  pub power : IsPowerOfTwo limit
  pub least : LEAST_LIMIT ≤ limit
  pub room : bytes ≤ limit
  pub tight : LEAST_LIMIT < limit → limit / 2 < bytes
