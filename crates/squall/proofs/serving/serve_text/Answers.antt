use Rattle.std.proofs.Common.{inl}
use Rattle.sq_serving.proofs.WroteLines.{serves_all}
use Rattle.squall.specs.Session.{SavesAny}
use Rattle.squall.proofs.serving.serve_text.Goals as goal

pub returns : goal.returns
returns g c =
    inl (
      c.serve-writer.result.1,
      serves_all c.args.serving.config.is_strict SavesAny g.W.Write.contents c.args.writer c.serve-writer.result.0 c.serve-writer.result.1
          c.serve-writer.ensures,
      inl c.status.ensures,
    )
