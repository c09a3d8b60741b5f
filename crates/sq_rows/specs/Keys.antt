-- Row keys in their order: by table, and then by sub key.
use Rattle.std.specs.declared.cmp.Ordering.{Ordering}
use Rattle.std.specs.Ordering.{nat_cmp, ordering_then}
use Rattle.sq_rows.specs.declared.row.RowKey.{RowKey}

-- the order of two keys
abbrev pub key_cmp : RowKey → RowKey → Ordering
key_cmp a b = ordering_then (nat_cmp a.table b.table) (nat_cmp a.sub b.sub)
