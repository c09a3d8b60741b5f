use Rattle.std.proofs.Common.{List, refl, ap}
use Rattle.rtrb.specs.Ring.{received}
use Rattle.sq_serving.specs.declared.feed.Fed.{Fed}
use Rattle.sq_serving.specs.Becoming.{ServeDeskValue, desk_value}
use Rattle.sq_serving.proofs.Desks.{same_hears}
use Rattle.sq_serving.proofs.desk.ServeDesk.job_of_next_line.Goals as goal

pub returns-then-not-takes_lines : goal.returns-then-not-takes_lines
returns-then-not-takes_lines g c = same_hears _ _ refl

pub returns-in-Err : goal.returns-in-Err
returns-in-Err g c =
    let was = desk_value g.W.Write.contents c.args.self.now in
    let now : List Fed → ServeDeskValue = λ heard. record was { heard = heard } in
    same_hears was (now (received c.pop.new.self)) (ap now c.in-Err.ensures.empty.0)
