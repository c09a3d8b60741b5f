use Rattle.std.proofs.Common.{inr, refl}
use Rattle.std.specs.Prelude.{codes}
use Rattle.sq_serving.proofs.desk.ServeDesk.say_status_json.Goals as goal

pub returns-in-None : goal.returns-in-None
returns-in-None g c = (codes "null", (refl, inr refl), c.say_json-in-None.ensures)
