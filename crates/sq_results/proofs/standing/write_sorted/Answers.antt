use Rattle.std.proofs.Common.{rules, List, Bor, subst}
use Rattle.std.specs.List.{flat_map}
use Rattle.std.specs.Io.KnownBytes.{Appends}
use Rattle.std.proofs.lemmas.Result.{on_ok_weaker}
use Rattle.std.proofs.lemmas.List.Sorted.{answers_always, IsPermutation-map, IsNonDecreasingBy-from_sort}
use Rattle.sq_schema.specs.Family.{FamilyValue}
use Rattle.sq_results.specs.RowLines.{root_lines, lent_values}
use Rattle.sq_results.proofs.Rising.{rise_lent}
use Rattle.sq_results.proofs.standing.write_sorted.Goals as goal

pub returns : goal.returns
returns g c =
    let new = c.sort_by_key.new.self.items in
    on_ok_weaker c.write_families.result (λ wrote. record {
      sorted = lent_values new;
      same = IsPermutation-map (λ (family : Bor FamilyValue). family.now) c.args.families.items new c.in_ok-sort_by_key.ensures.permutation;
      rise = rise_lent new (IsNonDecreasingBy-from_sort (λ (family : Bor FamilyValue). family.now.root) new (c.in_ok-sort_by_key.ensures.sorted (λ family. family.now.root) (answers_always _ _ _ (λ f a r g called. search rules))));
      wrote = subst (λ (fs : List (Bor FamilyValue)). Appends (g.W.Write.contents c.args.writer.now) (g.W.Write.contents c.write_families.new.writer) (flat_map root_lines (lent_values fs))) c.deref.ensures.value wrote;
    }) c.write_families.ensures
