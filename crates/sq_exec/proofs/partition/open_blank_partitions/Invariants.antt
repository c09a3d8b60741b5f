use Rattle.std.proofs.Common.{◌≡◌, map}
use Rattle.std.specs.List.{range_with_len}
use Rattle.sq_exec.specs.Opened.{blank_part}
use Rattle.sq_exec.proofs.partition.open_blank_partitions.Given as goal

-- the partitions so far are there
abbrev pub invariant-loop-number : goal.invariant-loop-number
invariant-loop-number l = map (λ part. part.core) l.cores.items ≡ map (blank_part l.opening) (range_with_len 0 l.number)
