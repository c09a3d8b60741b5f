use Rattle.std.proofs.Common.{arith, ap, ◌∙◌, ◌-◌}
use Rattle.sq_serving.proofs.Portioned.{portion_read}
use Rattle.sq_serving.proofs.portions.Portions.read_some.Goals as goal

pub returns-clause-bytes : goal.returns-clause-bytes
returns-clause-bytes g c =
    portion_read c.args.self.now.lines_left c.saturating_sub-self.result _ _ c.in_ok-count.count c.read.new.buf (let same = c.read.auto.buf in let few = c.requires.few in omega (arith, same, few)) c.in_ok-count.ensures.bound.0
    (c.saturating_sub-self.ensures ∙ ap (λ n. c.args.self.now.lines_left - n) c.line_ends-lines.ensures) c.in_ok-count.ensures.bytes.0 c.in_ok-count.ensures.bytes.1
