use Rattle.sq_node_model.proofs.Empty.{none_way, nothing_in}
use Rattle.sq_node_model.proofs.gathered.nothing_is_under_way.Goals as goal

pub returns : goal.returns
returns c = λ o g i link placed done there. nothing_in link.under_way (none_way o g placed done i link there)
