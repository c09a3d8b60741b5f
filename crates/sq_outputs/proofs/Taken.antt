-- Files that are read, or written twice.
use Rattle.std.proofs.Common.{◌≡◌, ℕ, ◌<◌, List, length, get_or, take, inl, inr, sym, ap, ◌∙◌, subst, Bool, false, true≢false}
use Rattle.std.proofs.lemmas.List.{get_or_default}
use Rattle.std.specs.Prelude.{IsTrue, String, string_bytes}
use Rattle.std.specs.Global.{Global}
use Rattle.sq_outputs.specs.declared.conflict.Output.{Output}
use Rattle.sq_outputs.specs.Conflicts.{IsReadAt, IsWrittenAt, IsInUse}

-- a test that failed says so
failed : (test : Bool) (P : Type 0) → (P → IsTrue test) → test ≡ false → ¬ P
failed test P told is = λ holds. true≢false (sym (told holds) ∙ is)

-- a file that is neither read nor one of those before it
pub free_at : (read : List (String Global)) (outputs : List Output) (at : ℕ) (here any : Output) (place : List ℕ) (is_read is_written : Bool) → at < length outputs → here ≡ get_or outputs at here → place ≡ string_bytes here.place
    → (IsReadAt read place → IsTrue is_read) → is_read ≡ false → (IsWrittenAt (take at outputs) place → IsTrue is_written) → is_written ≡ false → ¬ IsInUse read outputs at (get_or outputs at any)
free_at read outputs at here any place is_read is_written within is there reads unread writes unwritten =
    let same : get_or outputs at any ≡ here = get_or_default outputs at any here within ∙ sym is in
    let spelled : string_bytes (get_or outputs at any).place ≡ place = ap (λ (o : Output). string_bytes o.place) same ∙ sym there in
    λ taken. elim taken [
      | inl reading ↦ failed is_read _ reads unread (subst (λ (p : List ℕ). IsReadAt read p) spelled reading)
      | inr writing ↦ failed is_written _ writes unwritten (subst (λ (p : List ℕ). IsWrittenAt (take at outputs) p) spelled writing)
    ]
