-- What follows the first word of a line; names that are text, and those that aren't.
use Rattle.std.proofs.Common.{◌≡◌, ◌-◌, Bool, true, false, ℕ, List, length, take, drop, refl, ap, sym, subst, if◌then◌else◌, arith}
use Rattle.std.specs.Prelude.{Result, Ok, Err}
use Rattle.std.specs.Str.{IsUtf8, is_utf8}
use Rattle.std.proofs.lemmas.Grind.{common_steps}
use Rattle.std.proofs.lemmas.Str.{IsUtf8-from_is_utf8, is_utf8-from_IsUtf8}
use Rattle.sq_serving.specs.declared.serve_line.ServeLine.{ServeLine}
use Rattle.sq_serving.specs.declared.serve_line.ServeLine.TheVariants as asks
use Rattle.sq_serving.specs.declared.serve_fault.ServeFault.{ServeFault}
use Rattle.sq_serving.specs.declared.serve_fault.ServeFault.TheVariants.{NotAServeLine}
use Rattle.sq_serving.specs.ServeLines.{rows_to, IsServeLine}

-- what a list has behind so many elements is as long as it is
pub rest_of : (xs : List ℕ) (n : ℕ) → drop n xs ≡ take (length xs - n) (drop n xs)
rest_of xs n = grind (arith, common_steps)

fails : (name : List ℕ) (b : Bool) → is_utf8 name ≡ b → (IsUtf8 name → ⊥) → b ≡ false
fails name true is none = absurd (none (IsUtf8-from_is_utf8 name is))
fails name false is none = refl

-- bytes that aren't UTF-8 name no file
pub not_text : (name : List ℕ) → (IsUtf8 name → ⊥) → rows_to name ≡ Err NotAServeLine
not_text name none =
    ap (λ (b : Bool). if b then Ok (asks.RowsTo name) else Err NotAServeLine) (fails name (is_utf8 name) refl none)

-- and a text names one
names_one : (name : List ℕ) → IsUtf8 name → rows_to name ≡ Ok (asks.RowsTo name)
names_one name is =
    ap (λ (b : Bool). if b then Ok (asks.RowsTo name) else Err NotAServeLine) (is_utf8-from_IsUtf8 name is)

pub is_text : (result : Result ServeLine ServeFault) (text name : List ℕ) → text ≡ name → IsUtf8 name
    → IsServeLine result (Ok (asks.RowsTo text)) → IsServeLine result (rows_to name)
is_text result text name same is read =
    subst (IsServeLine result) (sym (names_one name is))
    (subst (λ (n : List ℕ). IsServeLine result (Ok (asks.RowsTo n))) same read)
