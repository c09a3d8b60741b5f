-- The size of a move: the opening rows that move, and the chunks that this takes.
use Rattle.std.specs.Prelude.{ℕ, Bool, ◌==◌, ◌^◌, ◌+◌, ◌-◌, nat_lt, nat_le, min, List, length, map, filter, sum_by, take_while}
use Rattle.sq_schema.specs.Table.{TableValue}
use Rattle.sq_schema.specs.Family.{rows_size}
use Rattle.sq_moves.specs.declared.recon.Range.{Range}
use Rattle.sq_moves.specs.ReconValue.{ReconValue, has_key, stage_in}
use Rattle.sq_moves.specs.OpeningValue.{OpeningValue}
use Rattle.sq_picture.specs.Cutting.{chunks_to_cut}
use Rattle.sq_picture.specs.declared.size.Size.{Size}
use Rattle.sq_picture.specs.declared.size.MovePart.{MovePart}
use Rattle.sq_picture.specs.declared.size.MovePart.TheVariants.{RangePart, StagePart}

-- the opening rows of the root keys from lo up to but not including hi
abbrev pub entries_between : TableValue → ℕ → ℕ → TableValue
entries_between table lo hi =
    take_while (λ entry. nat_lt entry.0 hi) (filter (λ entry. nat_le lo entry.0) table)

-- the size of families that start from these rows, if all are cut in one go, with at most `limit`
-- bytes in a chunk
abbrev pub entries_size : ℕ → TableValue → Size
entries_size limit entries =
    record {
      families = length entries;
      rows = sum_by (λ entry. length entry.1) entries;
      bytes = sum_by (λ entry. rows_size entry.1) entries;
      chunks = chunks_to_cut limit (map (λ entry. rows_size entry.1) entries);
    }

-- the size of a segment of an opening
abbrev pub segment_size : OpeningValue → Range → Size
segment_size o segment = entries_size o.config.limit (entries_between o.table segment.lo segment.hi)

-- the sum of several sizes
abbrev pub sum_of_sizes : List Size → Size
sum_of_sizes sizes =
    record {
      families = sum_by (λ (size : Size). size.families) sizes;
      rows = sum_by (λ (size : Size). size.rows) sizes;
      bytes = sum_by (λ (size : Size). size.bytes) sizes;
      chunks = sum_by (λ (size : Size). size.chunks) sizes;
    }

-- whether a segment belongs to a part of a move
abbrev pub is_in_part : ReconValue → MovePart → Range → Bool
is_in_part recon (RangePart range) segment = has_key range segment.lo
is_in_part recon (StagePart stage) segment = stage_in recon segment == stage

-- the size of a part of a move: the sum over its segments
abbrev pub part_size : OpeningValue → MovePart → Size
part_size o part =
    sum_of_sizes (map (segment_size o) (filter (is_in_part o.recon part) o.recon.segments))

-- the size of a whole move: the sum over its segments
abbrev pub move_size : OpeningValue → Size
move_size o = sum_of_sizes (map (segment_size o) o.recon.segments)

-- a number, or the largest 64-bit number if it doesn't fit
abbrev pub in_64_bits : ℕ → ℕ
in_64_bits n = min n (2 ^ 64 - 1)

-- the same of each number of a size
abbrev pub size_in_64_bits : Size → Size
size_in_64_bits size =
    record {
      families = in_64_bits size.families;
      rows = in_64_bits size.rows;
      bytes = in_64_bits size.bytes;
      chunks = in_64_bits size.chunks;
    }

-- the sum of two sizes, with each number limited in this way
abbrev pub sum_in_64_bits : Size → Size → Size
sum_in_64_bits size other =
    record {
      families = in_64_bits (size.families + other.families);
      rows = in_64_bits (size.rows + other.rows);
      bytes = in_64_bits (size.bytes + other.bytes);
      chunks = in_64_bits (size.chunks + other.chunks);
    }
