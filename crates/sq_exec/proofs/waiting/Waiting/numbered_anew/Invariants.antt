use Rattle.std.proofs.Common.{◌≡◌, ◌-◌, length}
use Rattle.sq_exec.specs.Waiting.{numbered_from, no_number}
use Rattle.sq_exec.specs.Indexed.{is_due_in, arrivals_of}
use Rattle.sq_exec.proofs.Entries.{before}
use Rattle.sq_exec.proofs.waiting.Waiting.numbered_anew.Given as goal

abbrev pub invariant-loop-number : goal.invariant-loop-number
invariant-loop-number l = l.anew ≡ record { arrivals = numbered_from 0 (arrivals_of (before l.from l.self-inside.txns.entries) (is_due_in l.self-inside.due_below l.self-inside.due)); next = length (before l.from l.self-inside.txns.entries) }

abbrev pub decreases-loop-number : goal.decreases-loop-number
decreases-loop-number l = no_number - l.from
