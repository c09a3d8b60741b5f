use Rattle.sq_command.proofs.texts.DemoTexts.of.Goals as goal

pub returns : goal.returns
returns c = record {
  old = _;
  is_old = c.in_ok-old.ensures;
  new = c.in_ok-new.ensures.0;
  is_new = c.in_ok-new.ensures.1;
}
