use Rattle.std.proofs.Common.{◌≡◌, ◌≤◌, not, is_some, count_by, take}
use Rattle.std.specs.List.{flat_map}
use Rattle.std.specs.Io.KnownBytes.{Appends}
use Rattle.sq_results.specs.Answered.{told_of, reply_lines}
use Rattle.sq_results.proofs.replies.Replies.write.Given as goal

abbrev pub invariant-loop-id : goal.invariant-loop-id
invariant-loop-id g l = record {
  lines : Appends (g.W.Write.contents l.initial.writer) (g.W.Write.contents l.writer) (flat_map (reply_lines l.self.told) (take l.id-index l.id-items));
  counted : l.unanswered ≡ count_by (λ id. not (is_some (told_of l.self.told id))) (take l.id-index l.id-items);
  few : l.unanswered ≤ l.id-index;
}
