-- The text is read, and written.
use Rattle.std.proofs.Common.{rules}
use Rattle.just_search.specs.declared.location.Origin.TheVariants as origin
use Rattle.just_search.proofs.Materializing.{reads}
use Rattle.just_search.proofs.file.write_markdown.Goals as goal

pub returns-in-Ok : goal.returns-in-Ok
returns-in-Ok g c = record {
  written =
      reads (g.H.Host.told c.args.host.now) c.args.config.now (origin.Markdown c.args.path) c.args.working_directory c.args.made.now.items (g.H.Host.told c.text_of_markdown.new.host) (g.H.Host.told c.write_text.new.host) c.in-Ok.text
      c.write_text.new.made.items c.write_text.result c.text_of_markdown.ensures.world (search rules) c.in-Ok.ensures.text c.write_text.ensures.written;
}
