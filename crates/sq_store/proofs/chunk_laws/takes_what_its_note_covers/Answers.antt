use Rattle.sq_store.specs.StoreValue.{take_end}
use Rattle.sq_store.proofs.Between.{family_in-between, get-without}
use Rattle.sq_store.proofs.chunk_laws.takes_what_its_note_covers.Goals as goal

pub returns-clause-taken : goal.returns-clause-taken
returns-clause-taken c = λ store base rest limit root by. family_in-between rest.lo (take_end store rest.lo rest.hi limit) store root (record { root = by })

pub returns-clause-left : goal.returns-clause-left
returns-clause-left c = λ store base rest limit root. get-without rest.lo (take_end store rest.lo rest.hi limit) store root
