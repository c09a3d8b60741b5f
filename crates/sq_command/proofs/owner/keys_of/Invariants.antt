use Rattle.std.proofs.Common.{take}
use Rattle.sq_command.proofs.CommandKeys.{SpellBy}
use Rattle.sq_command.proofs.owner.keys_of.Given as goal

abbrev pub invariant-loop-word : goal.invariant-loop-word
invariant-loop-word l = SpellBy (take l.word-index l.words) l.keys.items
