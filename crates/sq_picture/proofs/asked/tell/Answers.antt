use Rattle.std.proofs.Common.{subst}
use Rattle.sq_world.specs.declared.telling.Told.{Told}
use Rattle.sq_picture.specs.Asked.{IsToldOf}
use Rattle.sq_picture.proofs.Answers.{not_told}
use Rattle.sq_picture.proofs.asked.tell.Goals as goal

pub returns-in-NoMemory : goal.returns-in-NoMemory
returns-in-NoMemory g c =
    let nothing = subst (λ (told : Told). IsToldOf (g.T.OpeningTelling.tells c.args.telling.now) c.args.opening.now (g.W.Write.contents c.args.writer.now) (g.W.Write.contents c.tell.new.writer) told) c.in-NoMemory.is c.in_ok-tell.ensures in
    not_told (g.T.OpeningTelling.tells c.args.telling.now) c.refuse.result c.args.opening.now _ _ _ _ c.at_no_line.ensures nothing c.refuse.ensures
