use Rattle.std.proofs.Common.{◌≡◌, [], sym, ap, ◌∙◌, subst}
use Rattle.std.specs.Prelude.{max, Some}
use Rattle.std.specs.Option.{option_copied}
use Rattle.sq_store.specs.Counting.{fitting, chunk_count, root_after}
use Rattle.sq_store.specs.Runs.{families_in_runs, between}
use Rattle.sq_store.proofs.Cutting.{StartsWith, runs_start, chunk_is}
use Rattle.sq_store.proofs.taking.cut.Goals as goal
use Rattle.sq_store.proofs.taking.cut.Goals.{In_default}

none : (c : In_default) → between c.args.lo c.args.hi (families_in_runs c.args.runs.now) ≡ []
none c =
    subst (λ found. StartsWith (option_copied found) (between c.args.lo c.args.hi (families_in_runs c.args.runs.now))) c.in_default.is
    (runs_start c.args.runs.now c.args.lo c.args.hi c.first_from.result c.requires.runs c.first_from.ensures)

pub returns-in_default-clause-count : goal.returns-in_default-clause-count
returns-in_default-clause-count c = ap (chunk_count c.args.limit) (sym (none c))

pub returns-in_default-clause-end : goal.returns-in_default-clause-end
returns-in_default-clause-end c = ap (λ fs. root_after c.args.hi fs 0) (sym (none c))

pub returns-clause-count : goal.returns-clause-count
returns-clause-count c =
    let all = between c.args.lo c.args.hi (families_in_runs c.args.runs.now) in
    let first : StartsWith (Some c.in-Some.family.now) all =
    subst (λ found. StartsWith (option_copied found) all) c.in-Some.is (runs_start c.args.runs.now c.args.lo c.args.hi c.first_from.result c.requires.runs c.first_from.ensures) in
    c.fit.ensures.count ∙ ap (λ n. fitting n all) (c.max.ensures ∙ ap (λ n. max c.args.limit n) c.size.ensures) ∙ chunk_is c.args.limit c.in-Some.family.now all first
