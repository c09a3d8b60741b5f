-- Nothing is under way at a partition.
use Rattle.std.proofs.Common.{◌≡◌, ℕ, ◌<◌, ◌≤◌, List, [], ◌∷◌, length, None, refl, ap, ⊎_elim, arith}
use Rattle.std.specs.Prelude.{Contains}
use Rattle.std.proofs.lemmas.Bool.{cases_lt}
use Rattle.std.proofs.lemmas.List.{get_or_past}
use Rattle.sq_model.proofs.Lists.{Contains-first}
use Rattle.sq_exec.specs.Waiting.{Arrival}
use Rattle.sq_exec.specs.OutLink.{OutLinkValue, new_out_link, may_cut}
use Rattle.sq_exec.specs.CoreValue.{CoreValue, out_at}
use Rattle.sq_exec.specs.Kept.{IsCore}
use Rattle.sq_node.specs.Idle.{IsQuiet}

-- there is no link to what is no partition
quiet_past : (core : CoreValue) (other : ℕ) → length core.outs ≤ other → length core.inboxes ≤ other → IsQuiet core other
quiet_past core other outs inboxes =
    let none : out_at core other ≡ new_out_link = get_or_past core.outs other new_out_link outs in
    record { inbox = get_or_past core.inboxes other None inboxes; outbox = ap (λ (out : OutLinkValue). out.outbox) none; cut = ap may_cut none }

pub all_quiet : (core : CoreValue) (arrivals : List Arrival) → IsCore core arrivals → ((other : ℕ) → other < core.plan.parts → IsQuiet core other) → (other : ℕ) → IsQuiet core other
all_quiet core arrivals kept below other =
    ⊎_elim (below other) (λ (past : core.plan.parts ≤ other). quiet_past core other (omega (arith, kept.outs)) (omega (arith, kept.inboxes))) (cases_lt other core.plan.parts)

pub none_left : {X : Type 0} (xs : List X) → (0 < length xs → ⊥) → xs ≡ []
none_left [] none = refl
none_left (x ∷ xs) none = absurd (none (omega arith))

pub some_left : {X : Type 0} (xs : List X) → 0 < length xs → (x : X) × Contains xs x
some_left [] some = absurd (omega arith)
some_left (x ∷ xs) some = (x, Contains-first x xs)
