-- The words of different statuses differ.
use Rattle.std.proofs.Common.{◌≡◌, refl, ap, arith}
use Rattle.sq_moves.specs.declared.status.Status.{Status}
use Rattle.sq_moves.specs.declared.status.Status.TheVariants.{Free, Split, Claimed, Partial, Complete}
use Rattle.sq_moves.specs.Status.{word_of}

pub same_status : (s t : Status) → word_of s ≡ word_of t → s ≡ t
same_status Free Free e = refl
same_status Free Split e = absurd (omega arith)
same_status Free (Claimed q) e = absurd (omega arith)
same_status Free (Partial q) e = absurd (omega arith)
same_status Free (Complete q) e = absurd (omega arith)
same_status Split Free e = absurd (omega arith)
same_status Split Split e = refl
same_status Split (Claimed q) e = absurd (omega arith)
same_status Split (Partial q) e = absurd (omega arith)
same_status Split (Complete q) e = absurd (omega arith)
same_status (Claimed p) Free e = absurd (omega arith)
same_status (Claimed p) Split e = absurd (omega arith)
same_status (Claimed p) (Claimed q) e = let same : p ≡ q = omega arith in ap Claimed same
same_status (Claimed p) (Partial q) e = absurd (omega arith)
same_status (Claimed p) (Complete q) e = absurd (omega arith)
same_status (Partial p) Free e = absurd (omega arith)
same_status (Partial p) Split e = absurd (omega arith)
same_status (Partial p) (Claimed q) e = absurd (omega arith)
same_status (Partial p) (Partial q) e = let same : p ≡ q = omega arith in ap Partial same
same_status (Partial p) (Complete q) e = absurd (omega arith)
same_status (Complete p) Free e = absurd (omega arith)
same_status (Complete p) Split e = absurd (omega arith)
same_status (Complete p) (Claimed q) e = absurd (omega arith)
same_status (Complete p) (Partial q) e = absurd (omega arith)
same_status (Complete p) (Complete q) e = let same : p ≡ q = omega arith in ap Complete same
