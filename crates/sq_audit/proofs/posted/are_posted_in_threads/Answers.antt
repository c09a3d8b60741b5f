use Rattle.std.proofs.Common.{length, sym, ap, ◌∙◌, subst}
use Rattle.std.specs.Bool.{Decides}
use Rattle.std.specs.List.{list_all}
use Rattle.sq_audit.specs.Answers.{IsPosted, ArePosted}
use Rattle.sq_audit.specs.Index.{IsIndexOf}
use Rattle.sq_audit.specs.Told.{id_of}
use Rattle.sq_audit.proofs.InParts.{in_plain_parts}
use Rattle.sq_audit.proofs.posted.are_posted_in_threads.Goals as goal

pub map_chunks-requires-clause-accepts : goal.map_chunks-requires-clause-accepts
map_chunks-requires-clause-accepts g c κs region = λ start part within.
    (c.requires, subst (IsIndexOf id_of c.args.jobs.now) (sym c.as_slice-ids.ensures.value) c.in_ok-places.ensures)

pub returns : goal.returns
returns g c =
    let jobs = c.args.jobs.now in
    let receipts = c.args.receipts.now in
    let said = c.in_ok-said.said.items in
    let len = sym (ap length c.deref.ensures.value) ∙ c.deref.ensures.len ∙ c.in_ok-said.ensures.len in
    subst (λ b. Decides b (ArePosted jobs receipts)) (sym (c.all_true.ensures ∙ ap (list_all (λ one. one)) c.deref.ensures.value))
    (in_plain_parts (IsPosted jobs) receipts c.part_size-size.result said c.part_size-size.ensures len
    (λ n d low. let part = (c.in_ok-said.ensures.each n d low).1 in (part.argument.now, part.argument_is, part.call)))
