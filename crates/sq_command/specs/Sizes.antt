-- How large a sample input is.
use Rattle.std.specs.Prelude.{ℕ, ◌+◌, ◌-◌, ◌*◌, ◌/◌, max}
use Rattle.sq_command.specs.declared.sizes.DemoSizes.{DemoSizes}

-- how many root keys each partition but the last has before the move: the smallest number that
-- covers the root keys with rows, and at least 8
abbrev pub share_size : DemoSizes → ℕ
share_size sizes = max ((sizes.roots + sizes.partitions - 1) / sizes.partitions) 8

-- how many root keys move: the first eighth of those of partition 0
abbrev pub hot_keys_of : DemoSizes → ℕ
hot_keys_of sizes = share_size sizes / 8

-- how many lines the whole sample input has: two plans, the sizes, the rows and the jobs
abbrev pub line_count : DemoSizes → ℕ
line_count sizes = 3 + sizes.roots * sizes.rows_per_root + sizes.jobs
