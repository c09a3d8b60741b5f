-- Options that don't go together.
use Rattle.std.proofs.Common.{◌≡◌, true, refl, Option, Some, None, is_some, codes, List}
use Rattle.std.specs.Borrow.{Bor}
use Rattle.clap.specs.Walk.{Text, Row}
use Rattle.sq_command.specs.Options.{IsNameOf, lacks_plan}

module _ (rows : List Row) where
  -- the old plan has a file, and the new one has none
  pub new_is_missing : (old : Bor Text) → IsNameOf (codes "old") rows (Some old) → IsNameOf (codes "new") rows None → lacks_plan rows ≡ true
  new_is_missing old named unnamed = rw (← named, ← unnamed) refl

  -- the new plan has a file, and the old one has none
  pub old_is_missing : (new : Bor Text) → IsNameOf (codes "old") rows None → IsNameOf (codes "new") rows (Some new) → lacks_plan rows ≡ true
  old_is_missing new unnamed named = rw (← unnamed, ← named) refl

  -- rows have a file, and the plans have none
  pub both_are_missing : (more : Option (Bor Text)) → IsNameOf (codes "old") rows None → IsNameOf (codes "new") rows None → IsNameOf (codes "rows") rows more → is_some more ≡ true → lacks_plan rows ≡ true
  both_are_missing None old new named given = absurd (cc given)
  both_are_missing (Some more) old new named given = rw (← old, ← new, ← named) refl
