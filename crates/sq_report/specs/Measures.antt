-- The rows and the bytes of what moved along a link.
use Rattle.std.specs.Prelude.{ℕ, ◌+◌, List, length, sum_by, slice_get}
use Rattle.std.specs.Option.{option_map_or}
use Rattle.sq_schema.specs.Family.{FamilyValue, rows_of, rows_size}
use Rattle.sq_store.specs.StoreValue.{StoreValue, families_between}
use Rattle.sq_store.specs.ChunkValue.{ChunkValue}
use Rattle.sq_store.specs.declared.chunk.Note.{Note}
use Rattle.sq_node_model.specs.Gathered.{GatheredLink}
use Rattle.sq_report.specs.declared.measure.Measure.{Measure}
use Rattle.sq_report.specs.declared.measure.Measure.TheVariants.{Rows, Bytes}

-- how many rows a family has, or how many bytes
abbrev pub measure_of : Measure → FamilyValue → ℕ
measure_of Rows family = length (rows_of family)
measure_of Bytes family = rows_size (rows_of family)

-- the same of the families of a store with root keys that a note covers, and of those in a chunk
abbrev pub stored_measure : Measure → StoreValue → Note → ℕ
stored_measure measure store note = sum_by (measure_of measure) (families_between store note.lo note.hi)

abbrev pub carried_measure : Measure → ChunkValue → ℕ
carried_measure measure chunk = sum_by (measure_of measure) chunk.families

-- the same of what moved along a link: of the root keys that its notes cover, at the destination or
-- under way
abbrev pub link_measure : Measure → List StoreValue → GatheredLink → ℕ
link_measure measure stores link =
    option_map_or (λ store. sum_by (stored_measure measure store) link.notes) (slice_get stores link.dst) 0
    + sum_by (carried_measure measure) link.under_way
