use Rattle.sq_transition.proofs.Facts.{headline}
use Rattle.sq_transition.proofs.laws.each_step_keeps_the_headline.Goals as goal

pub returns : goal.returns
returns c = headline
