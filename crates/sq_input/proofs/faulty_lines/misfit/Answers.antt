use Rattle.std.proofs.Common.{sym, ap, ◌∙◌}
use Rattle.sq_input.specs.Forms.{misfit}
use Rattle.sq_input.proofs.faulty_lines.misfit.Goals as goal

pub returns-in-Err : goal.returns-in-Err
returns-in-Err c =
    let coming = ap (misfit c.args.behind c.loop-word.at c.loop-word.coming.now) (sym c.in-Some.ensures) in
    sym (c.in-Err.ensures c.next_long.new.self) ∙ coming ∙ c.loop-word.invariant

pub loop-word-preserved : goal.loop-word-preserved
loop-word-preserved c =
    let coming = ap (misfit c.args.behind c.loop-word.at c.loop-word.coming.now) (sym c.in-Some.ensures) in
    rw c.saturating_add-at.ensures (sym (c.in-Ok.ensures c.next_long.new.self) ∙ coming ∙ c.loop-word.invariant)
