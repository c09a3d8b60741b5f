-- What contracts say of pictures.
use Rattle.std.specs.Prelude.{ℕ, nat_lt, count_by, List}
use Rattle.sq_moves.specs.declared.recon.Range.{Range}
use Rattle.sq_moves.specs.ReconValue.{ReconValue}

-- how many segments begin below this key
abbrev pub begun_below : List Range → ℕ → ℕ
begun_below segments key = count_by (λ segment. nat_lt segment.lo key) segments

-- any text: how a picture looks is for its reader to judge
abbrev pub IsPicture : ReconValue → List ℕ → Type 0
IsPicture recon out = Unit {0}
