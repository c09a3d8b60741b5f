-- The partitions of a world, each seen by its core.
use Rattle.std.proofs.Common.{◌≡◌, ℕ, ◌<◌, List, ◌++◌, map, take, drop, length, get_or, set, ap, ◌∙◌, arith}
use Rattle.std.proofs.Math.Seq.{take-append_seam}
use Rattle.std.specs.Prelude.{slice_set}
use Rattle.std.proofs.lemmas.List.{length-map}
use Rattle.sq_exec.specs.CoreValue.{CoreValue, PartCoreValue}
use Rattle.sq_exec.proofs.Seen.{seen_read, seen_set, seen_kept}
use Rattle.sq_transition.specs.WorldValue.{WorldValue, no_core, core_at}

abbrev pub core_of : PartCoreValue → CoreValue
core_of part = part.core

module _ (w : WorldValue) (parts : List PartCoreValue) (are : map core_of parts ≡ w.cores) where
  -- a partition that is read
  pub core_read : (i : ℕ) (part : PartCoreValue) → i < length w.cores → part ≡ get_or parts i part → part.core ≡ core_at w i
  core_read i part lt is =
      let within : i < length parts = omega (arith, length-map parts core_of, ap length are) in
      seen_read core_of parts i part no_core within is ∙ ap (λ (cores : List CoreValue). get_or cores i no_core) are

  -- one that is changed
  pub core_written : (i : ℕ) (after : PartCoreValue) (core : CoreValue) → after.core ≡ core → map core_of (set parts i after) ≡ slice_set w.cores i core
  core_written i after core is = seen_set core_of parts i after core is ∙ ap (λ (cores : List CoreValue). set cores i core) are

  -- one that is as it was
  pub core_kept : (i : ℕ) (part after : PartCoreValue) → part ≡ get_or parts i part → after.core ≡ part.core → map core_of (set parts i after) ≡ w.cores
  core_kept i part after is same = seen_kept core_of parts i part after is same ∙ are

-- where all are informed of something, in a vector of so many
pub told_all : (told : CoreValue → CoreValue) (count : ℕ) (old after : List PartCoreValue) {before : List PartCoreValue} {now : List CoreValue} → count ≡ length after → before ≡ old → map core_of after ≡ map told (map core_of before) → map core_of old ≡ now
    → map core_of (take count (after ++ drop (length after) old)) ≡ map told now
told_all told count old after many is told_is are =
    let others = drop (length after) old in
    ap (map core_of) (ap (λ n. take n (after ++ others)) many ∙ take-append_seam after others) ∙ told_is ∙ ap (λ (parts : List PartCoreValue). map told (map core_of parts)) is ∙ ap (map told) are
