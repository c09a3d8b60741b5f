use Rattle.std.proofs.Common.{append_assoc}
use Rattle.sq_serving.proofs.serve_answer.write_paused_progress.Goals as goal

pub returns : goal.returns
returns g c = simp append_assoc c.writeln.ensures.bytes
