-- The numbers of the words that faults are about.
use Rattle.std.specs.Prelude.{ℕ, Option, Some, None}
use Rattle.sq_schema.specs.declared.fault.TxnFault.{TxnFault}
use Rattle.sq_schema.specs.declared.fault.TxnFault.TheVariants.{BadOps, BadRoot, BadTable, BadSub, BadNote}
use Rattle.sq_moves.specs.declared.opening_fault.ReconFault.TheVariants.{Width}
use Rattle.sq_moves.specs.declared.opening_fault.OpeningFault.{OpeningFault}
use Rattle.sq_moves.specs.declared.opening_fault.OpeningFault.TheVariants as opening

-- the word of a row's line that a fault of the schema is about
abbrev pub row_word : TxnFault → Option ℕ
row_word BadOps = None
row_word BadRoot = Some 2
row_word BadTable = Some 3
row_word BadSub = Some 4
row_word BadNote = Some 6

-- the word that a fault of an opening is about, in the line of the sizes or the row; for a row that
-- is out of place it is the root key
abbrev pub opening_word : OpeningFault → Option ℕ
opening_word (opening.Recon Width) = Some 2
opening_word opening.Limit = Some 3
opening_word opening.Capacity = Some 4
opening_word (opening.Row at fault) = row_word fault
opening_word (opening.Place at fault) = Some 2
opening_word fault = None
