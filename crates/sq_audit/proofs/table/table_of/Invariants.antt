use Rattle.std.proofs.Common.{◌≡◌, ℕ, ◌≤◌, [], take}
use Rattle.sq_gather.specs.Prelude.{ROOT_END, rows_in}
use Rattle.sq_audit.specs.Rows.{rows_among}
use Rattle.sq_audit.proofs.table.table_of.Given as goal

-- the rows of the families of the stores so far are there
abbrev pub invariant-loop-store : goal.invariant-loop-store
invariant-loop-store l = record {
  rows : (root : ℕ) → rows_in l.table root ≡ rows_among [] (take l.store-index l.stores) root;
  bound : (root : ℕ) → ROOT_END ≤ root → rows_in l.table root ≡ [];
}
