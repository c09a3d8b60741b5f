-- The texts of numbers.
use Rattle.std.proofs.Common.{ℕ, Bool, true, false, List}
use Rattle.std.specs.Prelude.{Option, Some, None}
use Rattle.std.proofs.KnownBytes.{Appends-kept}
use Rattle.std.specs.Io.KnownBytes.{Keeps}
use Rattle.sq_explain.specs.Meanings.{Explains}

-- what was written is flushed
pub told_flushed : (number : Option ℕ) (before mid now : Option (List ℕ)) (told : Bool) → Explains number before mid told → Keeps mid now → Explains number before now told
told_flushed None before mid now told all keeps = (record { entries = all.0.entries; are = all.0.are; written = Appends-kept before mid now _ all.0.written keeps }, all.1)
told_flushed (Some number) before mid now true one keeps = record { entry = one.entry; is = one.is; means = one.means; written = Appends-kept before mid now _ one.written keeps }
told_flushed (Some number) before mid now false none keeps = record { unknown = none.unknown; written = Appends-kept before mid now _ none.written keeps }
