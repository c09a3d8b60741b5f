use Rattle.std.proofs.Common.{◌≡◌, length}
use Rattle.sq_input.specs.Forms.{misfit}
use Rattle.sq_input.proofs.faulty_lines.misfit.Given as goal

abbrev pub invariant-loop-word : goal.invariant-loop-word
invariant-loop-word l = misfit l.behind l.at l.coming l.words ≡ misfit l.fn.behind 1 l.fn.form l.fn.words

abbrev pub decreases-loop-word : goal.decreases-loop-word
decreases-loop-word l = length l.words
