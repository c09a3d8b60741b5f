use Rattle.std.proofs.Common.{sym, ◌∙◌, refl}
use Rattle.sq_audit.proofs.index.may_start.Goals as goal

pub returns-then-position-ne0 : goal.returns-then-position-ne0
returns-then-position-ne0 c = ((λ e none. absurd (c.if-position-ne0.true (c.position.ensures.position ∙ none))), (λ may. refl))

pub returns : goal.returns
returns c = ((λ e none. c.has_rows.ensures.0 e), (λ may. c.has_rows.ensures.1 (may (sym c.position.ensures.position ∙ c.if-position-ne0.false))))
