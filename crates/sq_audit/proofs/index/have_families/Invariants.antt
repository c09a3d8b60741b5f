use Rattle.sq_audit.specs.Located.{entries_in}
use Rattle.sq_audit.specs.Index.{HaveFamilies}
use Rattle.sq_audit.proofs.index.have_families.Given as goal

abbrev pub invariant-loop-root : goal.invariant-loop-root
invariant-loop-root l = record { all : HaveFamilies l.root-iterator (entries_in l.all) → HaveFamilies l.table (entries_in l.all); rest : HaveFamilies l.table (entries_in l.all) → HaveFamilies l.root-iterator (entries_in l.all) }
