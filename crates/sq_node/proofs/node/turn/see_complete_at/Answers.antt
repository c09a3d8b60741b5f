use Rattle.sq_node.specs.Looks.{OnlyLooked}
use Rattle.sq_node.proofs.Known.{known_at, knows_looked, seen_seats}
use Rattle.sq_node.proofs.Seen.{flag_set, flag_kept, flag_seen}
use Rattle.sq_node.proofs.node.turn.see_complete_at.Goals as goal

pub returns-then-reads-clause-seen : goal.returns-then-reads-clause-seen
returns-then-reads-clause-seen c =
    let old = c.args.seats.now.items in
    let new = c.read_complete_at-reads.new.seats.items in
    let looked = c.read_complete_at-reads.ensures.looked in
    flag_seen old new c.args.complete.now.items c.args.at (known_at c.args.at OnlyLooked old new (λ v w only. knows_looked v w only) looked) (c.read_complete_at-reads.ensures.complete c.if-reads.true)

pub returns-then-reads-clause-set : goal.returns-then-reads-clause-set
returns-then-reads-clause-set c = λ _. flag_set c.args.complete.now.items c.args.at c.requires.flag

pub returns-then-reads-clause-kept : goal.returns-then-reads-clause-kept
returns-then-reads-clause-kept c = λ seg set. flag_kept c.args.complete.now.items c.args.at seg c.requires.flag set

pub returns-else-reads-clause-seen : goal.returns-else-reads-clause-seen
returns-else-reads-clause-seen c =
    let old = c.args.seats.now.items in
    let new = c.read_complete_at-reads.new.seats.items in
    let looked = c.read_complete_at-reads.ensures.looked in
    seen_seats old new c.args.complete.now.items (known_at c.args.at OnlyLooked old new (λ v w only. knows_looked v w only) looked)
