-- What a form wants of its words.
use Rattle.std.specs.Prelude.{ℕ, Bool, true, false, nat_le, bytes_eq, codes, is_some, Option, Some, None}
use Rattle.sq_text.specs.Words.{Word}
use Rattle.sq_text.specs.Numbers.{unsigned_in, signed_in}
use Rattle.sq_text.specs.Notes.{note_in}
use Rattle.sq_text.specs.Verbs.{op_name_in}
use Rattle.sq_input.specs.declared.wanted.Wanted.{Wanted}
use Rattle.sq_input.specs.declared.wanted.Wanted.TheVariants as wanted

-- the word spells a number up to `most`
abbrev pub is_up_to : ℕ → Option ℕ → Bool
is_up_to most None = false
is_up_to most (Some number) = nat_le number most

-- the word is what is wanted
abbrev pub fits : Wanted → Word → Bool
fits wanted.Old word = bytes_eq word (codes "old")
fits wanted.New word = bytes_eq word (codes "new")
fits wanted.Config word = bytes_eq word (codes "config")
fits wanted.Row word = bytes_eq word (codes "row")
fits wanted.Txn word = bytes_eq word (codes "txn")
fits wanted.Plan word = true
fits wanted.Number word = is_some (unsigned_in word)
fits wanted.Table word = is_up_to 255 (unsigned_in word)
fits wanted.Sub word = is_up_to 4294967295 (unsigned_in word)
fits wanted.Signed word = is_some (signed_in word)
fits wanted.Note word = is_some (note_in word)
fits wanted.OpName word = is_some (op_name_in word)
