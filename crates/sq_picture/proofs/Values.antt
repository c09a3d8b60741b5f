-- The JSON values of ranges, as far as they are written.
use Rattle.std.proofs.Common.{◌≡◌, ◌≤◌, ℕ, List, length, map, take, vec_len, vec_capacity}
use Rattle.std.specs.Global.{Vec}
use Rattle.serde_json.specs.Data.{Data}
use Rattle.serde_json.specs.View.{view}
use Rattle.serde_json.specs.declared.value.Value.{Value}
use Rattle.sq_moves.specs.declared.recon.Range.{Range}

-- those before are written, one for one, and there is room for all
abbrev pub AreWritten : (Range → Data) → List Range → ℕ → Vec Value → Type 0
AreWritten data_of ranges i values = record {
  written : map view values.items ≡ map data_of (take i ranges);
  count : vec_len values ≡ i;
  room : length ranges ≤ vec_capacity values;
}
