use Rattle.std.proofs.Common.{sym, ◌∙◌, eqb-true, eq-eqb, true≢false, refl}
use Rattle.sq_audit.proofs.Indexing.{site_same}
use Rattle.sq_audit.proofs.index.agree.Goals as goal

pub returns-then-eq : goal.returns-then-eq
returns-then-eq c =
    let same = site_same c.args.one.now.site c.args.other.now.site in (
      (λ e level. same.0 (sym c.eq-then-eq.ensures ∙ e)),
      (λ agree. c.eq-then-eq.ensures ∙ same.1 (agree (sym c.root.ensures ∙ eqb-true c.root.result c.root-2.result (sym c.eq.ensures ∙ c.if-eq.true) ∙ c.root-2.ensures))),
    )

pub returns-else-eq : goal.returns-else-eq
returns-else-eq c = (
  (λ e level. absurd (true≢false (sym (eq-eqb c.root.result c.root-2.result (c.root.ensures ∙ level ∙ sym c.root-2.ensures)) ∙ sym c.eq.ensures ∙ c.if-eq.false))),
  (λ agree. refl),
)
