use Rattle.std.proofs.Common.{◌≡◌, ℕ, true, [], None, Some, ◌==◌, not, if◌then◌else◌, length, unwrap_or, sym, ap, ◌∙◌}
use Rattle.std.specs.BTreeMap.{is_at}
use Rattle.std.specs.List.{AllPass}
use Rattle.std.specs.Ordering.{nat_cmp}
use Rattle.std.proofs.lemmas.Bool.{and_from, eqb-true}
use Rattle.std.proofs.lemmas.List.{nil_from_length}
use Rattle.sq_schema.specs.Effect.{effect}
use Rattle.sq_rows.specs.Rows.{is_rooted}
use Rattle.sq_schema.specs.Table.{rows_in, is_opening}
use Rattle.sq_rows.proofs.Entries.{find-lookup, sorted_from_keys}
use Rattle.sq_schema.proofs.Applied.{is_rooted-effect}
use Rattle.sq_schema.proofs.Tables.{All-insert_entry, All-remove_entry, rows_in-updates, is_rooted-rows_in, rows_in-run, rows_in-twice}
use Rattle.sq_schema.proofs.table.run.Goals as goal
use Rattle.sq_schema.proofs.table.run.Goals.{After-remove, In_ok-run_on}

-- the rows without those of the root key
removed : (c : After-remove) → (k : ℕ) → rows_in c.remove.new.self.entries k ≡ (if c.root-root.result == k then [] else rows_in c.args.table.now.entries k)
removed c = rows_in-updates c.args.table.now.entries c.remove.new.self.entries c.root-root.result None c.remove.ensures.updates.0

still : (c : After-remove) → AllPass (λ entry. is_opening entry.1) c.remove.new.self.entries
still c = rw c.remove.ensures.entries (All-remove_entry (λ rows. is_opening rows ≡ true) (is_at (nat_cmp c.root-root.result)) c.args.table.now.entries c.requires.opening)

-- the transaction ran on the rows of its root key
ran : (c : In_ok-run_on) → c.run_on.new.rows ≡ effect (rows_in c.args.table.now.entries c.args.txn.now.root) c.args.txn.now
ran c =
    c.in_ok-run_on.ensures.ok
    ∙ ap (λ rows. effect rows c.args.txn.now) (c.unwrap_or-rows.ensures ∙ ap (λ rows. unwrap_or c.remove.result rows) c.new.ensures
    ∙ ap (λ found. unwrap_or found []) (c.remove.ensures.value ∙ find-lookup nat_cmp c.args.table.now.entries c.root-root.result)
    ∙ ap (rows_in c.args.table.now.entries) c.root-root.ensures)

pub returns-in_ok-insert-clause-table : goal.returns-in_ok-insert-clause-table
returns-in_ok-insert-clause-table c =
    let s = (goal.at.returns-in_ok-insert-clause-table c).In_ok-run_on in
    let r = (goal.at.returns-in_ok-insert-clause-table c).After-remove in
    let entries = c.args.table.now.entries in
    let rooted : is_rooted c.run_on.new.rows ≡ true = rw (ran s) (is_rooted-effect (rows_in entries c.args.txn.now.root) c.args.txn.now (is_rooted-rows_in entries c.args.txn.now.root c.requires.opening)) in
    let some : not (length c.run_on.new.rows == 0) ≡ true = ap not (sym c.is_empty.ensures ∙ c.if-not-is_empty.true) in
    record {
      opening = rw c.in_ok-insert.ensures.entries (All-insert_entry (λ rows. is_opening rows ≡ true) c.remove.new.self.entries c.root-root.result c.run_on.new.rows (and_from (not (length c.run_on.new.rows == 0)) (is_rooted c.run_on.new.rows) some rooted) (still r));
      rising = sorted_from_keys nat_cmp c.insert.new.self.entries c.insert.ensures.ordered;
    }

pub returns-else-not-is_empty-clause-table : goal.returns-else-not-is_empty-clause-table
returns-else-not-is_empty-clause-table c =
    let r = (goal.at.returns-else-not-is_empty-clause-table c).After-remove in
    record {
      opening = still r;
      rising = sorted_from_keys nat_cmp c.remove.new.self.entries c.remove.ensures.ordered;
    }

pub returns-in_ok-insert-clause-ok : goal.returns-in_ok-insert-clause-ok
returns-in_ok-insert-clause-ok c =
    let s = (goal.at.returns-in_ok-insert-clause-ok c).In_ok-run_on in
    let r = (goal.at.returns-in_ok-insert-clause-ok c).After-remove in
    let root = c.root-root.result in
    let old = c.args.table.now.entries in
    let mid = c.remove.new.self.entries in
    let now = c.insert.new.self.entries in
    let put : (k : ℕ) → rows_in now k ≡ (if root == k then c.run_on.new.rows else rows_in mid k) = rows_in-updates mid now root (Some c.run_on.new.rows) c.in_ok-insert.ensures.updates.0 in
    let both = rows_in-twice old mid now root [] c.run_on.new.rows (removed r) put in
    let at_root : (k : ℕ) → rows_in now k ≡ (if c.args.txn.now.root == k then c.run_on.new.rows else rows_in old k) = rw (← c.root-root.ensures) both in
    rows_in-run old now c.args.txn.now c.run_on.new.rows (ran s) at_root

pub returns-else-not-is_empty-clause-ok : goal.returns-else-not-is_empty-clause-ok
returns-else-not-is_empty-clause-ok c =
    let s = (goal.at.returns-else-not-is_empty-clause-ok c).In_ok-run_on in
    let r = (goal.at.returns-else-not-is_empty-clause-ok c).After-remove in
    let root = c.root-root.result in
    let old = c.args.table.now.entries in
    let now = c.remove.new.self.entries in
    let none : c.run_on.new.rows ≡ [] = nil_from_length c.run_on.new.rows (eqb-true (length c.run_on.new.rows) 0 (sym c.is_empty.ensures ∙ c.if-not-is_empty.false)) in
    let put : (k : ℕ) → rows_in now k ≡ (if root == k then c.run_on.new.rows else rows_in old k) = rw none (removed r) in
    let at_root : (k : ℕ) → rows_in now k ≡ (if c.args.txn.now.root == k then c.run_on.new.rows else rows_in old k) = rw (← c.root-root.ensures) put in
    rows_in-run old now c.args.txn.now c.run_on.new.rows (ran s) at_root
