use Rattle.squall.proofs.Unserved.{refused_later}
use Rattle.squall.proofs.serving.serve_engine.Goals as goal

pub returns : goal.returns
returns g c = refused_later c.args.config.is_strict _ _ c.serve_watched-writer.result.1 c.serve_watched-writer.ensures
