use Rattle.sq_exec.proofs.Runs.{loaded-runs_with, whole-runs_with}
use Rattle.sq_exec.proofs.laws.a_chunk_adds_what_its_note_covers.Goals as goal

pub returns-clause-keys : goal.returns-clause-keys
returns-clause-keys c = loaded-runs_with

pub returns-clause-whole : goal.returns-clause-whole
returns-clause-whole c = whole-runs_with
