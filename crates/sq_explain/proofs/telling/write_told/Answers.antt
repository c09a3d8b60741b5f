use Rattle.std.proofs.Common.{◌∙◌, sym, ap}
use Rattle.std.specs.Prelude.{option_map}
use Rattle.std.proofs.KnownBytes.{Appends-nil}
use Rattle.sq_explain.proofs.telling.write_told.Goals as goal

pub returns-in-None : goal.returns-in-None
returns-in-None g c = rw c.in-Some.is (record { unknown = sym c.entry.ensures.means ∙ ap (option_map (λ entry. entry.meaning.now)) c.in-None.is; written = Appends-nil _ })
