use Rattle.std.proofs.Common.{◌≡◌, true, sym, ◌∙◌}
use Rattle.sq_leader.specs.Segments.{all_marked_complete}
use Rattle.sq_leader.proofs.Wholes.{each_whole}
use Rattle.sq_leader.proofs.report.Report.made.Goals as goal

pub returns-clause-whole : goal.returns-clause-whole
returns-clause-whole c =
    let recon = c.args.recon.now in
    let stage = c.args.stage in
    let whole = c.args.whole.now in
    let all : all_marked_complete recon stage whole c.args.part ≡ true =
    (λ i. all_marked_complete recon stage whole (sym c.new-part.ensures i)) ∙ sym c.has_all.ensures ∙ c.if-not-has_all.false in
    each_whole recon stage whole c.args.part all
