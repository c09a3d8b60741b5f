use Rattle.std.proofs.Common.{refl, sym, ◌∙◌}
use Rattle.sq_serving.proofs.closing.judge_closed.Goals as goal

pub returns-in-Some : goal.returns-in-Some
returns-in-Some c = (
  sym c.requires.verdict ∙ c.in-Sound.is,
  (c.in-Some.stores.now, sym c.in-Some.ensures, record { families_are = c.count_families.ensures; committed_are = c.count_logged.ensures }),
  refl,
)

pub returns-in-Unsound : goal.returns-in-Unsound
returns-in-Unsound c = sym c.requires.verdict ∙ c.in-Unsound.is
