use Rattle.std.proofs.Common.{◌∙◌, ◌<◌, ◌≢◌, length, get_or-set_same, get_or-set_other, length-set, below_more, sym, arith}
use Rattle.std.specs.Slots.{slots_items}
use Rattle.sq_shared.proofs.Ends.{read_at, word_fits, same_words}
use Rattle.sq_shared.proofs.tree.statuses_of.Goals as goal

pub from_word-requires : goal.from_word-requires
from_word-requires c = word_fits (slots_items c.args.closed.now.words) c.requires.kept.0 c.requires.kept.1 c.loop-i.i c.word.result c.word.ensures

pub loop-i-preserved : goal.loop-i-preserved
loop-i-preserved c =
    record {
      long = length-set _ _ _ ∙ c.loop-i.invariant.long;
      read = below_more _ _
          (λ k h. let ne : k ≢ c.loop-i.i = omega arith in rw get_or-set_other (c.loop-i.invariant.read k h))
          (let lt : c.loop-i.i < length c.loop-i.status-items = omega (arith, c.loop-i.invariant.long) in rw get_or-set_same (sym c.from_word.ensures.word ∙ sym (read_at (slots_items c.args.closed.now.words) c.loop-i.i c.word.result 0 c.word.ensures)));
    }

pub returns : goal.returns
returns c = same_words (slots_items c.args.closed.now.words) c.requires.kept.0 c.requires.kept.1 c.loop-i.status-items c.loop-i-test.array_long (λ k h. c.loop-i.invariant.read k (omega arith))
