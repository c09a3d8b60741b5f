use Rattle.std.proofs.Common.{sym, subst}
use Rattle.std.specs.Prelude.{IfOk}
use Rattle.std.specs.Bool.{Decides}
use Rattle.sq_gather.specs.Prelude.{TableValue}
use Rattle.sq_audit.specs.declared.verdict.Defect.{Defect}
use Rattle.sq_audit.specs.Located.{entries_in}
use Rattle.sq_audit.specs.Index.{HaveFamilies}
use Rattle.sq_audit.specs.Sound.{with_receipts}
use Rattle.sq_audit.specs.Defects.{Clears}
use Rattle.sq_audit.proofs.Auditing.{stand_is, once_is, starts_are, known_are, lists_with, fits_with}
use Rattle.sq_audit.proofs.passes.clears.Goals as goal

pub returns-in-RootMissing : goal.returns-in-RootMissing
returns-in-RootMissing c =
    let g = with_receipts c.args.g.now c.args.receipts.now in
    let entries = entries_in c.args.all.now in
    let have = subst (λ (t : TableValue). Decides c.have_families.result (HaveFamilies t entries)) c.table.ensures.table c.have_families.ensures in
    subst (λ (d : Defect). Decides c.have_families.result (Clears c.args.opening.now g c.args.jobs.now d)) (sym c.in-RootMissing.is)
    (stand_is c.args.opening.now g entries (lists_with c.args.g.now c.args.receipts.now entries c.requires.listed) c.have_families.result c.table.ensures.set_up.rising c.table.ensures.set_up.rows have)

pub returns-in-RootDoubled : goal.returns-in-RootDoubled
returns-in-RootDoubled c =
    let g = with_receipts c.args.g.now c.args.receipts.now in
    let entries = entries_in c.args.all.now in
    subst (λ (d : Defect). Decides c.stand_once.result (Clears c.args.opening.now g c.args.jobs.now d)) (sym c.in-RootDoubled.is)
    (once_is c.args.opening.now g entries (lists_with c.args.g.now c.args.receipts.now entries c.requires.listed) c.stand_once.result c.stand_once.ensures)

pub returns-in-BaseChanged : goal.returns-in-BaseChanged
returns-in-BaseChanged c =
    let o = c.args.opening.now in
    let g = with_receipts c.args.g.now c.args.receipts.now in
    let entries = entries_in c.args.all.now in
    subst (λ (d : Defect). Decides c.args.found.start (Clears o g c.args.jobs.now d)) (sym c.in-BaseChanged.is)
    (starts_are o g entries (lists_with c.args.g.now c.args.receipts.now entries c.requires.listed) c.args.found.start c.requires.found.start)

pub returns-in-WrongPlace : goal.returns-in-WrongPlace
returns-in-WrongPlace c =
    let g = with_receipts c.args.g.now c.args.receipts.now in
    subst (λ (d : Defect). IfOk c.fit.result (λ clear. Decides clear (Clears c.args.opening.now g c.args.jobs.now d))) (sym c.in-WrongPlace.is)
    (fits_with c.args.opening.now c.args.g.now c.args.receipts.now c.fit.result c.fit.ensures)

pub returns-in-ReceiptUnknown : goal.returns-in-ReceiptUnknown
returns-in-ReceiptUnknown c =
    let o = c.args.opening.now in
    let g = with_receipts c.args.g.now c.args.receipts.now in
    let jobs = c.args.jobs.now in
    let entries = entries_in c.args.all.now in
    subst (λ (d : Defect). Decides c.args.found.known (Clears o g jobs d)) (sym c.in-ReceiptUnknown.is)
    (known_are o g entries (lists_with c.args.g.now c.args.receipts.now entries c.requires.listed) jobs c.args.found.known c.requires.found.known)

pub returns-in-Unanswered : goal.returns-in-Unanswered
returns-in-Unanswered c =
    let g = with_receipts c.args.g.now c.args.receipts.now in
    subst (λ (d : Defect). IfOk c.are_answered.result (λ clear. Decides clear (Clears c.args.opening.now g c.args.jobs.now d))) (sym c.in-Unanswered.is) c.are_answered.ensures
