use Rattle.std.proofs.lemmas.List.Sorted.{IsNonDecreasingBy-from_sort}
use Rattle.sq_report.proofs.waiting.WaitTimes.all.Goals as goal

pub returns-clause-sorted : goal.returns-clause-sorted
returns-clause-sorted c = IsNonDecreasingBy-from_sort (λ time. time) c.sort_unstable.new.self.items c.sort_unstable.ensures.sorted
