-- What a reader gives, by what a reader of its lines may give.
use Rattle.std.proofs.Common.{◌≡◌, ℕ, List, [], Option, refl, subst, ◌∙◌}
use Rattle.sq_text.specs.declared.reader.TheConstants.{MAX_LINES}
use Rattle.sq_text.specs.declared.reader.ReadState.TheVariants.{Open}
use Rattle.sq_text.specs.Pieces.{PieceValue}
use Rattle.sq_text.specs.Coming.{LinesValue, Comes, CanCome}
use Rattle.sq_text.specs.Given.{IsGiven}

-- what a reader of lines may give at its start is what its reader gives
pub given_first : (v : LinesValue) (known : Option (List ℕ)) (given : List PieceValue) → v.held ≡ [] → v.reading ≡ Open → v.lines_left ≡ MAX_LINES → v.known ≡ known → CanCome v given → IsGiven known given
given_first v known given none still most same can = record {
  input = can.1.more;
  end = can.0;
  comes = subst (λ k. Comes Open k can.0 can.1.more) same (subst (λ r. Comes r v.known can.0 can.1.more) still can.1.comes);
  are = can.1.are ∙ rw (most, none) refl;
}
