use Rattle.std.proofs.Common.{◌≡◌, ◌+◌, ℕ, ap, ◌∙◌, subst, rules}
use Rattle.sq_node_model.specs.Gathered.{GatheredValue}
use Rattle.sq_node_model.specs.Folded.{folded_opening}
use Rattle.sq_node.specs.Opened.{IsReopened}
use Rattle.sq_node.proofs.NewNodes.{rowless_run}
use Rattle.sq_node_model.proofs.Folded.{rowless_opening}
use Rattle.sq_gather.proofs.Running.{run_resumes}
use Rattle.sq_gather.proofs.reopened.reopen.Goals as goal
use Rattle.sq_gather.proofs.reopened.reopen.Goals.{In_ok-opened}

-- the stage that was opened is the next one
reopened : (c : In_ok-opened) → IsReopened c.args.opening.now (c.args.g.stage + 1) c.args.g.stores c.args.g.receipts c.args.pumps c.in_ok-opened.opened.fabric c.in_ok-opened.opened.nodes.items c.in_ok-opened.opened.pumps.items
reopened c =
    let next : c.in-Some.next ≡ c.g.inside.stage + 1 = search rules in
    subst (λ (n : ℕ). IsReopened c.args.opening.now n c.args.g.stores c.args.g.receipts c.args.pumps c.in_ok-opened.opened.fabric c.in_ok-opened.opened.nodes.items c.in_ok-opened.opened.pumps.items)
    (next ∙ ap (λ (g : GatheredValue). g.stage + 1) c.g.view_is) c.in_ok-opened.ensures.run

pub returns-clause-reopened : goal.returns-clause-reopened
returns-clause-reopened c = reopened (goal.at.returns-clause-reopened c).In_ok-opened

pub returns-clause-run : goal.returns-clause-run
returns-clause-run c = λ table placed done.
    let o = c.args.opening.now in
    let g = c.args.g in
    let fabric = c.in_ok-opened.opened.fabric in
    let nodes = c.in_ok-opened.opened.nodes.items in
    let pumps = c.in_ok-opened.opened.pumps.items in
    let run = reopened (goal.at.returns-clause-run c).In_ok-opened in
    run_resumes (folded_opening o table) g c.args.pumps fabric nodes pumps (rowless_opening o table c.in_ok-opened.ensures.opening) placed done c.in_ok-opened.ensures.fabric
    (rowless_run o table (g.stage + 1) g.stores g.receipts c.args.pumps fabric nodes pumps run) (c.in_ok-opened.ensures.holds table)

pub returns-clause-pumps : goal.returns-clause-pumps
returns-clause-pumps c = let run = c.in_ok-opened.ensures.run in run.each_pump.all
