use Rattle.std.proofs.Common.{◌≡◌, ◌+◌, ◌-◌, ◌<◌, ◌^◌}
use Rattle.std.specs.Prelude.{sum_by}
use Rattle.sq_store.specs.StoreValue.{families_between}
use Rattle.sq_report.specs.Notes.{told}
use Rattle.sq_report.specs.Measures.{measure_of}
use Rattle.sq_report.proofs.measure.Measure.between.Given as goal

-- those that were summed up and those from here on are all
abbrev pub invariant-loop-family : goal.invariant-loop-family
invariant-loop-family l = record {
  all : told (l.sum + sum_by (measure_of l.self) (families_between l.store l.at l.hi)) ≡ told (sum_by (measure_of l.self) (families_between l.store l.initial.at l.hi));
  fits : l.sum < 2 ^ 64;
}

abbrev pub decreases-loop-family : goal.decreases-loop-family
decreases-loop-family l = l.hi - l.at
