use Rattle.sq_store.proofs.Between.{within-between, family_in-between}
use Rattle.sq_store.proofs.laws.takes_what_is_between.Goals as goal

pub returns-clause-rising : goal.returns-clause-rising
returns-clause-rising c = λ store lo hi by. within-between lo hi store (record { root = by })

pub returns-clause-each : goal.returns-clause-each
returns-clause-each c = λ store lo hi root by. family_in-between lo hi store root (record { root = by })
