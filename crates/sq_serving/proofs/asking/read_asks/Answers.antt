use Rattle.std.proofs.Common.{sym, subst}
use Rattle.std.specs.Prelude.{Err}
use Rattle.sq_schema.specs.declared.schema.TheConstants.{MAX_TABLES}
use Rattle.sq_serving.specs.declared.serve_fault.ServeFault.{ServeFault}
use Rattle.sq_serving.specs.ServeLines.{serve_line_of, IsServeLine}
use Rattle.sq_serving.proofs.asking.read_asks.Goals as goal

pub returns-in-Err : goal.returns-in-Err
returns-in-Err c =
    let faulty = c.new.ensures in (
      subst (λ (f : ServeFault). IsServeLine (Err f) (serve_line_of MAX_TABLES c.args.line.now)) (sym faulty.fault) c.in-Err.ensures,
      faulty.id,
      faulty.text,
    )
