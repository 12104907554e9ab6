-- What a dry run plans: what is planned by the same words for a run, where no dotenv command is set.
use Rattle.std.specs.Prelude.{◌≡◌, Bool, List, [], map, Option, None, Ok}
use Rattle.just_host_record.specs.World.{World}
use Rattle.just_lang_types.specs.declared.node.Node.{Node}
use Rattle.just_lang_types.specs.declared.project.Justfile.{Justfile}
use Rattle.just_config.specs.declared.config.Config.{Config}
use Rattle.just_env.specs.declared.ask.DotenvAsk.{DotenvAsk}
use Rattle.just_env.specs.Asked.{commands_of}
use Rattle.just_env.specs.Loads.{IsModuleOf}
use Rattle.just_exec_work.specs.declared.run_flags.RunFlags.{RunFlags}
use Rattle.just_exec_work.specs.declared.work.Command.{Command}
use Rattle.just_exec_work.specs.declared.work.Work.{Work}
use Rattle.just_exec_work.specs.declared.work.Work.TheVariants as work
use Rattle.just_exec.specs.declared.node_plan.NodePlan.{NodePlan}
use Rattle.just_cli_plan.specs.declared.wanted.Wanted.{Wanted}
use Rattle.just_cli_plan.specs.Request.{Outline}
use Rattle.just_cli_texts.specs.Laid.{LaidRequest}
use Rattle.just_cli.specs.Acts.{Act}
use Rattle.just_cli.specs.Replies.{Reply}
use Rattle.just_cli.specs.Request.{RepliesTo}

-- ---- the same request for a dry run, or for one that isn't

abbrev pub ask_so : Bool → DotenvAsk → DotenvAsk
ask_so dry a = record { commands = a.commands; filenames = a.filenames; paths = a.paths; load = a.load; dry_run = dry }

abbrev pub flags_so : Bool → RunFlags → RunFlags
flags_so dry f =
    record {
      shell = f.shell;
      shell_args = f.shell_args;
      quiet = f.quiet;
      loquacious = f.loquacious;
      dry_run = dry;
      no_cache = f.no_cache;
      yes = f.yes;
      explain = f.explain;
      tempdir = f.tempdir;
      folder = f.folder;
    }

abbrev pub wanted_so : Bool → Wanted → Wanted
wanted_so dry w =
    record {
      words = w.words;
      overrides = w.overrides;
      one = w.one;
      no_deps = w.no_deps;
      dotenv = ask_so dry w.dotenv;
      unstable = w.unstable;
      jobs = w.jobs;
      cache_folder = w.cache_folder;
      flags = flags_so dry w.flags;
    }

abbrev pub request_so : Bool → LaidRequest → LaidRequest
request_so dry p = record { wanted = wanted_so dry p.wanted; environ = p.environ; laid = p.laid }

-- no dotenv command is set for a project: none of its modules has one
abbrev pub HasNoCommands : DotenvAsk → Justfile → Type 0
HasNoCommands ask root = (m : Justfile) → IsModuleOf root m → commands_of ask m ≡ []

-- ---- a plan but for what only a dry run changes

-- a command, and what a body has to run, but for echoes
abbrev pub unechoed : Command → Command
unechoed c = record { spec = c.spec; echo = []; line = c.line; forgiving = c.forgiving; guard = c.guard }

abbrev pub unechoed_work : Work → Work
unechoed_work (work.Lines commands) = work.Lines (map unechoed commands)
unechoed_work (work.Script command) = work.Script (unechoed command)
unechoed_work work.Empty = work.Empty

-- what is planned for a node, but for its question and its echoes; and for all nodes
abbrev pub unasked : NodePlan → NodePlan
unasked x = record { prompt = None; parallel = x.parallel; work = unechoed_work x.work; banner = x.banner; cache = x.cache }

abbrev pub unasked_outline : Outline → Outline
unasked_outline o = record { nodes = map (λ (x : Node × NodePlan). (x.0, unasked x.1)) o.nodes; invocations = o.invocations; jobs = o.jobs; messages = o.messages }

-- Where no dotenv command is set and a project gives a plan, it gives one for a dry run too, and for a run where that was dry: the plans have the same nodes, children
-- and caches, and differ at most in questions and echoes.
abbrev pub DryPlansAgree : Type 0
DryPlansAgree =
    (dry : Bool) (c d : Config) (told after : Option World) (acts : List Act) (p : LaidRequest) (o : Outline) → d.default_list ≡ c.default_list → HasNoCommands p.wanted.dotenv p.laid.justfile
    → RepliesTo c told acts after p (Ok (Reply.runs o))
    → (e : Outline) × RepliesTo d told acts after (request_so dry p) (Ok (Reply.runs e)) × (unasked_outline e ≡ unasked_outline o)
