use Rattle.std.proofs.Common.{◌≡◌, map, replicate}
use Rattle.sq_exec.specs.OutLink.{new_out_link}
use Rattle.sq_exec.proofs.part_core.open.out_links.Given as goal

abbrev pub invariant-loop-made : goal.invariant-loop-made
invariant-loop-made l = map (λ out. out.link) l.outs.items ≡ replicate l._made new_out_link
