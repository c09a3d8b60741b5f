use Rattle.std.proofs.Common.{◌-◌, length, refl, sym, ap, ◌∙◌, arith}
use Rattle.sq_store.proofs.Gaps.{divided}
use Rattle.sq_store.proofs.blocks.divide.Goals as goal

pub loop-len-init : goal.loop-len-init
loop-len-init c = record { keeps = record { runs = c.requires.runs; families = refl }; inside = c.requires.at; size = ap length c.families-len.ensures }

pub loop-len-preserved : goal.loop-len-preserved
loop-len-preserved c =
    let i = c.loop-len.invariant in
    let d = divided c.loop-len.runs c.split.new.self c.args.at (c.loop-len.len - 128) i.keeps.runs c.in-Ok.ensures.ok (omega (arith, i.size, c.loop-len-test.true)) in
    record {
      keeps = record { runs = d.keeps.runs; families = d.keeps.families ∙ i.keeps.families };
      inside = d.inside;
      size = sym d.size;
    }
