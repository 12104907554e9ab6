-- What was driven is what the words ask for.
use Rattle.just_cli.proofs.vectors.history_of.Goals as goal

pub returns-in-Ok : goal.returns-in-Ok
returns-in-Ok g c = record {
  plan = c.in-Ok-Run.plan;
  jobs = c.in-Ok-Run.jobs;
  messages = c.in-Ok-Run.messages;
  quiet = _;
  made = c.prepare.new.made.items;
  between = g.H.Host.told c.prepare.new.host;
  back = _;
  verdict = _;
  after = g.H.Host.told c.in-Ok.field-0.host;
  asked = rw (c.in-Ok-Run.field-0-is, c.new-made.ensures.items) at c.in-Ok-Run.ensures.asked;
  driven = c.in-Ok.ensures.driven;
}
