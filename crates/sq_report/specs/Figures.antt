-- What moved along a link in a stage.
use Rattle.std.specs.Prelude.{ℕ, List}
use Rattle.sq_store.specs.StoreValue.{StoreValue}
use Rattle.sq_node_model.specs.Gathered.{GatheredLink}
use Rattle.sq_report.specs.declared.run_figures.LinkFigures.{LinkFigures}
use Rattle.sq_report.specs.declared.measure.Measure.TheVariants.{Rows, Bytes}
use Rattle.sq_report.specs.Notes.{told}
use Rattle.sq_report.specs.Counts.{link_count}
use Rattle.sq_report.specs.Measures.{link_measure}

-- its stage, its counts, and the rows and the bytes of its families
abbrev pub link_figures : ℕ → List StoreValue → GatheredLink → LinkFigures
link_figures stage stores link = record {
  stage = stage;
  src = link.src;
  dst = link.dst;
  keys = (link_count stores link).keys;
  families = (link_count stores link).families;
  rows = told (link_measure Rows stores link);
  bytes = told (link_measure Bytes stores link);
  chunks = (link_count stores link).chunks;
}
