-- How the moves that wait change the wishes of a desk.
use Rattle.std.proofs.Common.{◌≡◌, inl, ℕ, Bool, true, false, not, ◌||◌, ◌==◌, ◌+◌, List, [], ◌∷◌, ◌++◌, length, map, refl, sym, ap, subst, ◌∙◌, append_assoc, append-nil, arith}
use Rattle.std.specs.Prelude.{Option, None, Some}
use Rattle.std.proofs.lemmas.List.{map-append, length-append}
use Rattle.std.proofs.lemmas.Bool.{or_parts, ne_eqb}
use Rattle.sq_serving.specs.declared.serve_answer.ServeAnswer.TheVariants.{Queued, Dropped}
use Rattle.sq_serving.specs.ServeAnswers.{serve_answer_line}
use Rattle.sq_serving.specs.declared.desk.AskedMove.{AskedMove}
use Rattle.sq_serving.specs.declared.desk.Wish.{Wish}
use Rattle.sq_serving.specs.declared.desk.Wish.TheVariants as wish
use Rattle.sq_serving.specs.Settling.{line_wish}
use Rattle.sq_serving.specs.Becoming.{ServeDeskValue, WritesBytes, QueuesMoveOrStops, DropsMove}
use Rattle.sq_serving.proofs.Desks.{false-not-true}

-- the wishes of a desk: those that are asked for, and the moves that wait
abbrev pub wishes_with : Option Wish → Option Wish → List AskedMove → List Wish
wishes_with first next queue = line_wish first ++ (line_wish next ++ map wish.Move queue)

-- if no rows move or will move, no move waits
pub none_queued : {X : Type 0} (moving : Bool) (queue : List X) → (moving || not (length queue == 0)) ≡ false → queue ≡ []
none_queued moving [] none = refl
none_queued moving (x ∷ queue) none =
    let some : (length (x ∷ queue) == 0) ≡ false = ne_eqb (length (x ∷ queue)) 0 (λ same. let e : length (x ∷ queue) ≡ 0 = same in absurd (omega (arith, e))) in
    false-not-true (sym (ap not some) ∙ (or_parts moving (not (length (x ∷ queue) == 0)) none).1)

-- a wish is asked for, if there is none; no move waits
pub first_wish : (was next : Option Wish) (queue : List AskedMove) (asked : Wish) → was ≡ None → next ≡ None → queue ≡ []
    → line_wish (Some asked) ≡ asked ∷ [] → wishes_with (Some asked) next queue ≡ wishes_with was next queue ++ asked ∷ []
first_wish was next queue asked none no_next no_queue is =
    ap (λ (n : Option Wish). wishes_with (Some asked) n queue) no_next
    ∙ ap (λ (q : List AskedMove). wishes_with (Some asked) None q) no_queue
    ∙ append-nil (line_wish (Some asked)) ∙ is
    ∙ ap (λ (w : Option Wish). wishes_with w None [] ++ asked ∷ []) (sym none)
    ∙ ap (λ (n : Option Wish). wishes_with was n [] ++ asked ∷ []) (sym no_next)
    ∙ ap (λ (q : List AskedMove). wishes_with was next q ++ asked ∷ []) (sym no_queue)

-- or after another one
pub second_wish : (was next : Option Wish) (queue : List AskedMove) (asked : Wish) → next ≡ None → queue ≡ []
    → line_wish (Some asked) ≡ asked ∷ [] → wishes_with was (Some asked) queue ≡ wishes_with was next queue ++ asked ∷ []
second_wish was next queue asked no_next no_queue is =
    ap (λ (q : List AskedMove). wishes_with was (Some asked) q) no_queue
    ∙ ap (λ (l : List Wish). line_wish was ++ l) (append-nil (line_wish (Some asked)) ∙ is)
    ∙ ap (λ (l : List Wish). l ++ asked ∷ []) (sym (append-nil (line_wish was)))
    ∙ ap (λ (n : Option Wish). wishes_with was n [] ++ asked ∷ []) (sym no_next)
    ∙ ap (λ (q : List AskedMove). wishes_with was next q ++ asked ∷ []) (sym no_queue)

-- the move that waits first is asked for
pub first_queued : (was next : Option Wish) (queue now : List AskedMove) (asked : AskedMove) → was ≡ None → next ≡ None → queue ≡ asked ∷ now
    → wishes_with (Some (wish.Move asked)) next now ≡ wishes_with was next queue
first_queued was next queue now asked none no_next is =
    ap (λ (n : Option Wish). wishes_with (Some (wish.Move asked)) n now) no_next
    ∙ ap (λ (q : List AskedMove). wishes_with None None q) (sym is)
    ∙ ap (λ (w : Option Wish). wishes_with w None queue) (sym none)
    ∙ ap (λ (n : Option Wish). wishes_with was n queue) (sym no_next)

-- a move waits after the others
pub put_after : (was next : Option Wish) (queue now : List AskedMove) (asked : AskedMove) → now ≡ queue ++ asked ∷ []
    → wishes_with was next now ≡ wishes_with was next queue ++ wish.Move asked ∷ []
put_after was next queue now asked is =
    let first = line_wish was in
    let second = line_wish next in
    let moves = map wish.Move queue in
    ap (λ (q : List AskedMove). wishes_with was next q) is
    ∙ ap (λ (l : List Wish). first ++ (second ++ l)) (map-append wish.Move queue (asked ∷ []))
    ∙ ap (λ (l : List Wish). first ++ l) (sym (append_assoc second moves (wish.Move asked ∷ [])))
    ∙ sym (append_assoc first (second ++ moves) (wish.Move asked ∷ []))

pub move_waits : (asked : AskedMove) (waiting told : ℕ) (a between b : ServeDeskValue) → told ≡ waiting
    → between ≡ record a { wishes = a.wishes ++ wish.Move asked ∷ [] } → WritesBytes (serve_answer_line (Queued told)) between b
    → QueuesMoveOrStops asked waiting a b
move_waits asked waiting told a between b count is says =
    let with_move : ServeDeskValue = record a { wishes = a.wishes ++ wish.Move asked ∷ [] } in
    inl
    (subst (λ (n : ℕ). WritesBytes (serve_answer_line (Queued n)) with_move b) count
    (subst (λ (d : ServeDeskValue). WritesBytes (serve_answer_line (Queued told)) d b) is says))

-- the last one is dropped
pub drops_move : (asked : AskedMove) (waiting told : ℕ) (rest : List Wish) (a b : ServeDeskValue) → told ≡ waiting
    → a.wishes ≡ rest ++ wish.Move asked ∷ [] → WritesBytes (serve_answer_line (Dropped told)) (record a { wishes = rest }) b
    → DropsMove asked waiting a b
drops_move asked waiting told rest a b count is says =
    record {
      rest = rest;
      dropped = is;
      writes = subst (λ (n : ℕ). WritesBytes (serve_answer_line (Dropped n)) (record a { wishes = rest }) b) count says;
    }

-- a list has one more element than without its last
pub one_more : {X : Type 0} (queue now : List X) (asked : X) → now ≡ queue ++ asked ∷ [] → length now ≡ length queue + 1
one_more queue now asked is = ap length is ∙ length-append queue (asked ∷ [])
