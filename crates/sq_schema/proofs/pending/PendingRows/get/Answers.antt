use Rattle.std.proofs.Common.{◌≡◌, sym, ap, ◌∙◌, length, ◌≤◌, false, rules, tests}
use Rattle.std.specs.Prelude.{option_copied}
use Rattle.std.proofs.lemmas.Iterator.Search.{find_from_yields_List}
use Rattle.std.proofs.lemmas.Iterator.Adapters.{YieldsList-from_rev_slice}
use Rattle.sq_rows.specs.RowList.{row_at}
use Rattle.sq_rows.specs.declared.row.TheConstants.{MAX_NOTE}
use Rattle.sq_schema.specs.Pending.{PendingValue, pending_rows}
use Rattle.sq_rows.specs.ShortList.{short_items}
use Rattle.sq_schema.specs.WrittenKeys.{has_its_mark}
use Rattle.sq_rows.proofs.Latest.{is_key, row_or, latest, row_at-short, IfSome-copied}
use Rattle.sq_schema.proofs.Marked.{row_at-unmarked}
use Rattle.sq_schema.proofs.pending.PendingRows.get.Goals as goal
use Rattle.sq_schema.proofs.pending.PendingRows.get.Goals.{After-find}

-- the row of the key is the one of its newest write, or else the one that was there
found_row : (c : After-find) → row_or (option_copied c.find.result) (row_at c.self.inside.rows.now c.args.key) ≡ row_at (pending_rows c.args.self.now) c.args.key
found_row c =
    let base = c.self.inside.rows.now in
    let writes = short_items c.self.inside.writes in
    let road = YieldsList-from_rev_slice writes cc in
    let found = find_from_yields_List (λ write. is_key write.0 c.args.key) _ _ c.find.result c.find.ensures.ran road (λ x b q k. search (rules, tests)) in
    ap (λ write. row_or write (row_at base c.args.key)) found ∙ sym (latest base c.args.key writes) ∙ ap (λ pending. row_at (pending_rows pending) c.args.key) c.self.view_is

pub returns-then-not-may_have-clause-row : goal.returns-then-not-may_have-clause-row
returns-then-not-may_have-clause-row c =
    let base = c.self.inside.rows.now in
    let writes = short_items c.self.inside.writes in
    let marks = c.self.inside.written.marks in
    let none : has_its_mark marks c.args.key ≡ false = search (rules, tests) in
    c.get.ensures ∙ sym (row_at-unmarked base marks c.args.key writes none c.self.invariant.1) ∙ ap (λ pending. row_at (pending_rows pending) c.args.key) c.self.view_is

pub returns-then-not-may_have-clause-short : goal.returns-then-not-may_have-clause-short
returns-then-not-may_have-clause-short c =
    let pending : PendingValue = record { base = c.self.inside.rows.now; writes = short_items c.self.inside.writes } in
    IfSome-copied (λ row. length row.note ≤ MAX_NOTE) c.get.result (row_at (pending_rows pending) c.args.key)
    (returns-then-not-may_have-clause-row c ∙ ap (λ d. row_at (pending_rows d) c.args.key) (sym c.self.view_is))
    (row_at-short (pending_rows pending) c.args.key c.self.invariant.0.rows.entries)

pub returns-in-Some-clause-row : goal.returns-in-Some-clause-row
returns-in-Some-clause-row c = c.as_ref.ensures.value ∙ rw c.in-Some.is at (found_row (goal.at.returns-in-Some-clause-row c).After-find)

pub returns-in-Some-clause-short : goal.returns-in-Some-clause-short
returns-in-Some-clause-short c =
    let pending : PendingValue = record { base = c.self.inside.rows.now; writes = short_items c.self.inside.writes } in
    IfSome-copied (λ row. length row.note ≤ MAX_NOTE) c.as_ref.result (row_at (pending_rows pending) c.args.key)
    (returns-in-Some-clause-row c ∙ ap (λ d. row_at (pending_rows d) c.args.key) (sym c.self.view_is))
    (row_at-short (pending_rows pending) c.args.key c.self.invariant.0.rows.entries)

pub returns-in-None-clause-row : goal.returns-in-None-clause-row
returns-in-None-clause-row c = c.get-in-None.ensures ∙ rw c.in-None.is at (found_row (goal.at.returns-in-None-clause-row c).After-find)

pub returns-in-None-clause-short : goal.returns-in-None-clause-short
returns-in-None-clause-short c =
    let pending : PendingValue = record { base = c.self.inside.rows.now; writes = short_items c.self.inside.writes } in
    IfSome-copied (λ row. length row.note ≤ MAX_NOTE) c.get-in-None.result (row_at (pending_rows pending) c.args.key)
    (returns-in-None-clause-row c ∙ ap (λ d. row_at (pending_rows d) c.args.key) (sym c.self.view_is))
    (row_at-short (pending_rows pending) c.args.key c.self.invariant.0.rows.entries)
