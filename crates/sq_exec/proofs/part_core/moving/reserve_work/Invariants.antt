use Rattle.std.proofs.Common.{◌≡◌, map, take, true}
use Rattle.std.specs.List.{list_all}
use Rattle.sq_exec.proofs.part_core.moving.reserve_work.Given as goal

-- the ends so far have room
abbrev pub invariant-loop-out : goal.invariant-loop-out
invariant-loop-out l = record {
  same : map (λ out. out.link) l.outs ≡ map (λ out. out.link) l.initial.outs;
  room : list_all (λ out. out.has_room) (take l.out-index l.outs) ≡ true;
}
