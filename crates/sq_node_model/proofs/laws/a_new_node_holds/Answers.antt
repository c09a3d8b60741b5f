use Rattle.sq_node_model.specs.Cores.{staged_core}
use Rattle.sq_node_model.proofs.CoreNew.{core_new}
use Rattle.sq_node_model.proofs.Made.{fresh_holds}
use Rattle.sq_node_model.proofs.laws.a_new_node_holds.Goals as goal

pub returns : goal.returns
returns c = λ o began part store below can opens node new.
    fresh_holds o began (staged_core o began.stage part store) node new
    (core_new o began can part store below opens node.views node.sent node.received new.unused)
