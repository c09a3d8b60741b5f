use Rattle.std.proofs.Common.{refl}
use Rattle.sq_serving.proofs.serving.serve.Goals as goal

pub returns : goal.returns
returns g c =
    record {
      first = c.new-outlet.result;
      first_writer = c.new-outlet.ensures.writer;
      ending = c.read_and_answer-outlet.result.1;
      last = c.read_and_answer-outlet.result.0;
      served = c.read_and_answer-outlet.ensures;
      end = c.tell_ending-outlet.result.0;
      tells = c.tell_ending-outlet.ensures;
      end_writer = refl;
    }
