-- What is written, one after another.
use Rattle.std.proofs.Common.{◌≡◌, ℕ, List, ◌++◌, refl, subst}
use Rattle.std.specs.Prelude.{Option}
use Rattle.sq_text.proofs.Appending.{both}
use Rattle.sq_serving.specs.declared.serve_answer.ServeAnswer.TheVariants.{Rows}
use Rattle.sq_serving.specs.ServeAnswers.{serve_answer_line}
use Rattle.sq_serving.specs.declared.outlet.Outlet.{Outlet}
use Rattle.sq_serving.specs.Saying.{Says, lines_in, rows_told}

module _ {W : Type 0} (contents : W → Option (List ℕ)) where
  says_then : (old mid new : Outlet W) (first second : List ℕ) → Says contents old first mid → Says contents mid second new
      → Says contents old (first ++ second) new
  says_then old mid new first second one two =
      record {
        goes_on = λ still. one.goes_on (two.goes_on still);
        written = λ still.
            both (contents old.writer) (contents mid.writer) (contents new.writer) first second (first ++ second)
            (one.written (two.goes_on still)) (two.written still) refl;
      }

  -- the lines of rows, and how many these are
  pub rows_said : (old mid new : Outlet W) (lines : List ℕ) (count : ℕ) → count ≡ lines_in lines
      → Says contents old lines mid → Says contents mid (serve_answer_line (Rows count)) new → Says contents old (rows_told lines) new
  rows_said old mid new lines count is one two =
      subst (λ (n : ℕ). Says contents old (lines ++ serve_answer_line (Rows n)) new) is
      (says_then old mid new lines (serve_answer_line (Rows count)) one two)
