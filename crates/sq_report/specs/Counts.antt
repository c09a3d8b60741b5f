-- The counts of what a stage left.
use Rattle.std.specs.Prelude.{ℕ, ◌+◌, ◌-◌, List, length, sum_by, slice_get}
use Rattle.std.specs.Option.{option_map_or}
use Rattle.sq_store.specs.StoreValue.{StoreValue}
use Rattle.sq_node_model.specs.NodeValue.{ReceiptValue}
use Rattle.sq_node_model.specs.Gathered.{GatheredLink}
use Rattle.sq_live.specs.Outcome.{commit_count}
use Rattle.sq_report.specs.Notes.{told, covered_keys, stored_in}
use Rattle.sq_report.specs.declared.counts.LinkCount.{LinkCount}
use Rattle.sq_report.specs.declared.counts.PartCount.{PartCount}

-- how many families the destination of a link has with root keys that its notes cover
abbrev pub families_covered : List StoreValue → GatheredLink → ℕ
families_covered stores link = option_map_or (λ store. sum_by (stored_in store) link.notes) (slice_get stores link.dst) 0

-- how many families are in the chunks of a link that are under way
abbrev pub under_way_of : GatheredLink → ℕ
under_way_of link = sum_by (λ chunk. length chunk.families) link.under_way

-- what moved along a link: its chunks are its notes, its root keys those that the notes cover, and
-- its families those of these root keys, at the destination or under way
abbrev pub link_count : List StoreValue → GatheredLink → LinkCount
link_count stores link = record {
  src = link.src;
  dst = link.dst;
  keys = told (sum_by covered_keys link.notes);
  families = told (families_covered stores link + under_way_of link);
  chunks = length link.notes;
}

-- how many receipts are of aborts
abbrev pub aborts_in : List ReceiptValue → ℕ
aborts_in receipts = length receipts - commit_count receipts

-- a partition's counts, with these receipts added
abbrev pub counted : PartCount → List ReceiptValue → PartCount
counted count receipts = record {
  committed = told (count.committed + commit_count receipts);
  aborted = told (count.aborted + aborts_in receipts);
}
