use Rattle.std.proofs.Common.{List, length, map, get_or, Result, sym, ap, ◌∙◌, subst}
use Rattle.std.specs.Bool.{Decides}
use Rattle.std.specs.declared.alloc.AllocError.{AllocError}
use Rattle.sq_gather.specs.Prelude.{rows_in}
use Rattle.sq_audit.specs.declared.told.Found.{Found}
use Rattle.sq_audit.specs.Located.{entries_in}
use Rattle.sq_audit.specs.Told.{values_of, StartsEntry, TellsEntry, StartAll, TellLogs, AreFound, said_by}
use Rattle.sq_audit.specs.InThreads.{IsSaidOfAll}
use Rattle.sq_audit.proofs.Knowing.{ok_like}
use Rattle.sq_audit.proofs.InParts.{part_by_root, in_found_parts}
use Rattle.sq_audit.proofs.told.find_logs_in_threads.Goals as goal

pub map_chunks-requires-clause-accepts : goal.map_chunks-requires-clause-accepts
map_chunks-requires-clause-accepts g c κs region = λ start part within.
    (c.requires.sorted, part_by_root c.args.all.now part.now c.part_size-size.result start within c.requires.rise)

pub returns : goal.returns
returns g c =
    let rows = rows_in c.args.table.now in
    let receipts = values_of c.args.sorted.now in
    let all = c.args.all.now in
    let size = c.part_size-size.result in
    let said = c.in_ok-said.said.items in
    let len = sym (ap length c.deref.ensures.value) ∙ c.deref.ensures.len ∙ c.in_ok-said.ensures.len in
    record {
      start =
          in_found_parts (StartsEntry rows receipts) (λ found. found.start) all size said c.part_size-size.ensures len
          (λ n d low. let part = (c.in_ok-said.ensures.each n d low).1 in
          (part.argument.now, part.argument_is, ok_like {P = AreFound rows (entries_in part.argument.now) receipts} {Q = λ (found : Found). Decides found.start (StartAll rows (entries_in part.argument.now) receipts)} (get_or said n d) (λ found are. are.start) part.call))
          c.in_ok-start.start
          (subst (λ (rs : List (Result Found AllocError)). IsSaidOfAll c.in_ok-start.start (map (said_by (λ found. found.start)) rs)) c.deref.ensures.value c.in_ok-start.ensures);
      known =
          in_found_parts (TellsEntry rows receipts) (λ found. found.known) all size said c.part_size-size.ensures len
          (λ n d low. let part = (c.in_ok-said.ensures.each n d low).1 in
          (part.argument.now, part.argument_is, ok_like {P = AreFound rows (entries_in part.argument.now) receipts} {Q = λ (found : Found). Decides found.known (TellLogs rows (entries_in part.argument.now) receipts)} (get_or said n d) (λ found are. are.known) part.call))
          c.in_ok-known.known
          (subst (λ (rs : List (Result Found AllocError)). IsSaidOfAll c.in_ok-known.known (map (said_by (λ found. found.known)) rs)) c.deref-2.ensures.value c.in_ok-known.ensures);
    }
