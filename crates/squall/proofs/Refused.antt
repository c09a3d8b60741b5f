-- Tasks that are refused.
use Rattle.std.proofs.Common.{◌≡◌, ℕ, List, inl, inr, refl, sym, subst}
use Rattle.std.specs.Prelude.{Option, Some, None, Err}
use Rattle.std.specs.Borrow.{Bor}
use Rattle.clap.specs.Walk.{Text}
use Rattle.sq_command.specs.declared.line.Plans.{Plans}
use Rattle.sq_command.specs.declared.line.Task.{Task}
use Rattle.sq_command.specs.declared.line.Task.TheVariants.{Run, Ranges, Live, Steps}
use Rattle.squall.specs.Session.{EndsTask, EndsMain}

refused_task : (task : Task) (known before now : Option (List ℕ)) → EndsTask task known before now 2
refused_task (Run echoes strict json rows_out) known before now = record { ran = Err (record {}); holds = tt; status_is = refl }
refused_task (Ranges form sizes) known before now = record { ran = Err (record {}); holds = tt; status_is = refl }
refused_task (Live live) known before now = record { ran = Err (record {}); holds = tt; status_is = refl }
refused_task Steps known before now = record { ran = Err (record {}); holds = tt; status_is = refl }

refused_unread : (task : Task) (plans : Option Plans) (file : Option (Bor Text)) (known before now : Option (List ℕ)) → EndsMain task plans file known before now 2
refused_unread task plans (Some file) known before now = inr refl
refused_unread task (Some plans) None known before now = inr (refl, refl)
refused_unread task None None known before now = inl (known, refl, refused_task task known before now)

-- a task that is refused before anything is read ends with 2
pub refused : (task : Task) (plans : Option Plans) (file : Option (Bor Text)) (known before now : Option (List ℕ)) (status : ℕ) → status ≡ 2 → EndsMain task plans file known before now status
refused task plans file known before now status is =
    subst (λ (n : ℕ). EndsMain task plans file known before now n) (sym is) (refused_unread task plans file known before now)
