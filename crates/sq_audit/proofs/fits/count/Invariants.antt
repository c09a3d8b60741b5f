use Rattle.std.proofs.Common.{◌≡◌, take}
use Rattle.std.specs.Prelude.{count_by}
use Rattle.sq_audit.specs.Fits.{is_of_link}
use Rattle.sq_audit.proofs.fits.count.Given as goal

abbrev pub invariant-loop-at : goal.invariant-loop-at
invariant-loop-at l = l.count ≡ count_by (is_of_link l.link) (take l.at-index l.gathered)
