-- The counts over the stages of a run.
use Rattle.std.specs.Prelude.{ℕ, max, List, [], length, map, slice_get, slice_index_or}
use Rattle.std.specs.List.{range_with_len}
use Rattle.std.specs.Option.{option_map_or}
use Rattle.sq_driver.specs.declared.teller.TellingNode.{TellingNode}
use Rattle.sq_driver.specs.declared.collector.Collector.{Collector}
use Rattle.sq_report.specs.declared.counts.LinkCount.{LinkCount}
use Rattle.sq_report.specs.declared.counts.PartCount.{PartCount}
use Rattle.sq_report.specs.Counts.{counted}

-- for each link what moved along it, and for each partition how jobs ended there
pub record SummaryValue : Type 0 where
  pub links : List LinkCount
  pub parts : List PartCount

abbrev pub none_yet : PartCount
none_yet = record { committed = 0; aborted = 0 }

-- the counts of a partition, with the receipts that its teller collected
abbrev pub count_after : List PartCount → List (TellingNode Collector) → ℕ → PartCount
count_after parts pairs part =
    counted (slice_index_or parts part none_yet) (option_map_or (λ pair. pair.teller.receipts.items) (slice_get pairs part) [])

-- the counts of all partitions, with the receipts that their tellers collected
abbrev pub counts_after : List PartCount → List (TellingNode Collector) → List PartCount
counts_after parts pairs = map (count_after parts pairs) (range_with_len 0 (max (length parts) (length pairs)))
