-- What the body of a recipe has to run.
use Rattle.std.specs.Prelude.{ℕ, Bool, true, false, not, ◌==◌, ◌||◌, if◌then◌else◌, List, [], ◌∷◌, ◌++◌, length, map, filter, Option, Some, None, Result, Ok, Err}
use Rattle.just_host_record.specs.declared.entry.Spec.{Spec}
use Rattle.just_host_record.specs.declared.entry.Script.{Script}
use Rattle.just_lang_types.specs.declared.key.Value.{Value}
use Rattle.just_lang_types.specs.declared.node.BodyLine.{BodyLine}
use Rattle.just_lang_types.specs.declared.recipe.Recipe.{Recipe}
use Rattle.just_lang_types.specs.declared.settings.Settings.{Settings}
use Rattle.just_lang_types.specs.declared.settings.Interpreter.{Interpreter}
use Rattle.just_path.specs.Path.{text_of}
use Rattle.just_exec_work.specs.Kinds.{kind_of}
use Rattle.just_exec_work.specs.Scripts.{Runner, by_command, by_shebang, program, script_name, script_text}
use Rattle.just_exec_work.specs.declared.run_attributes.RunAttributes.{RunAttributes}
use Rattle.just_exec_work.specs.declared.run_flags.RunFlags.{RunFlags}
use Rattle.just_exec_work.specs.declared.running.Running.{Running}
use Rattle.just_exec_work.specs.declared.work.Command.{Command}
use Rattle.just_exec_work.specs.declared.work.Work.{Work}
use Rattle.just_exec_work.specs.declared.work.Work.TheVariants as work
use Rattle.just_exec_work.specs.declared.error.CommandError.{CommandError}
use Rattle.just_exec_work.specs.declared.error.CommandError.TheVariants as error
use Rattle.just_exec_work.specs.Attributes.{run_attributes}
use Rattle.just_exec_work.specs.Shells.{shell, runner}
use Rattle.just_exec_work.specs.Positional.{positional_texts, words_behind_line}
use Rattle.just_exec_work.specs.Folders.{recipe_folder, script_folder}
use Rattle.just_exec_work.specs.Echoes.{shows_line, line_echo, shows_script, script_echo}

-- a recipe that is run, without where it lies in memory
pub record Run : Type 0 where
  pub recipe : Recipe
  pub settings : Settings
  -- of its module
  pub folder : List ℕ
  pub values : List Value
  pub changes : List (List ℕ × Option (List ℕ))
  pub flags : RunFlags

abbrev pub run_of : Running → Run
run_of r = record { recipe = r.recipe.now; settings = r.settings.now; folder = text_of r.folder; values = r.values.now; changes = r.changes.now; flags = r.flags.now }

abbrev pub is_filled : BodyLine → Bool
is_filled l = not (length l.text == 0)

abbrev pub work_of_lines : List Command → Work
work_of_lines [] = work.Empty
work_of_lines (c ∷ cs) = work.Lines (c ∷ cs)

abbrev pub argument_list : Option (List ℕ) → List (List ℕ)
argument_list None = []
argument_list (Some a) = a ∷ []

-- the arguments in front of the script's path; of one that runs itself that of its interpreter
abbrev pub arguments_of : Runner → List (List ℕ)
arguments_of (by_command i) = i.arguments
arguments_of (by_shebang n) = argument_list n.argument

-- whether the script's file is the program itself
abbrev pub runs_itself : Runner → Bool
runs_itself (by_command i) = false
runs_itself (by_shebang n) = true

-- the words behind a line, where its shell is given positional arguments
abbrev pub words_of_line : Run → Interpreter → Option (List (List ℕ)) → List (List ℕ)
words_of_line run i None = []
words_of_line run i (Some texts) = words_behind_line (kind_of i.command) run.recipe.name texts

abbrev pub words_of_script : Option (List (List ℕ)) → List (List ℕ)
words_of_script None = []
words_of_script (Some texts) = texts

-- What a recipe with such attributes has to run.
module _ (run : Run) (attributes : RunAttributes) where
  -- the positional arguments that a child is given, where it is given any
  abbrev pub positional_words : Option (List (List ℕ))
  positional_words = if run.settings.positional_arguments || attributes.positional_arguments then Some (positional_texts run.recipe.parameters run.values) else None

  -- the child that runs a line: the shell with its arguments and then the line
  abbrev pub line_child : List ℕ → Spec
  line_child line =
      record {
        program = (shell run.flags run.settings).command;
        arguments = (shell run.flags run.settings).arguments ++ (line ∷ words_of_line run (shell run.flags run.settings) positional_words);
        folder = recipe_folder run.settings attributes run.folder;
        changes = run.changes;
        script = None;
      }

  abbrev pub line_command : BodyLine → Command
  line_command l =
      record {
        spec = line_child l.text;
        echo = line_echo (shows_line run.flags run.settings attributes run.recipe.quiet l.quiet) l.text;
        line = Some l.number;
        forgiving = l.forgiving;
        guard = l.guard;
      }

  abbrev pub script_of : Runner → List BodyLine → Script
  script_of r lines =
      record {
        folder = script_folder run.flags run.settings;
        name = script_name r run.recipe.name attributes.extension;
        text = script_text r lines;
        run = runs_itself r;
        after = words_of_script positional_words;
      }

  abbrev pub script_command : Runner → List BodyLine → Command
  script_command r lines =
      record {
        spec = record {
          program = program r;
          arguments = arguments_of r;
          folder = recipe_folder run.settings attributes run.folder;
          changes = run.changes;
          script = Some (script_of r lines);
        };
        echo = script_echo (shows_script run.flags run.recipe.quiet) lines;
        line = None;
        forgiving = false;
        guard = false;
      }

  abbrev pub work_of_script : List BodyLine → List ℕ → Option Runner → Result Work CommandError
  work_of_script lines first None = Err (error.InvalidShebang run.recipe.name first)
  work_of_script lines first (Some r) = Ok (work.Script (script_command r lines))

  -- the child of a script; a body without lines starts none
  abbrev pub script_work : List BodyLine → Result Work CommandError
  script_work [] = Ok work.Empty
  script_work (l ∷ ls) = work_of_script (l ∷ ls) l.text (runner run.settings attributes.script l.text)

  -- what a body of these lines has to run; a line that is empty is no command
  abbrev pub body_work : List BodyLine → Result Work CommandError
  body_work lines = if run.recipe.script then script_work lines else Ok (work_of_lines (map line_command (filter is_filled lines)))

-- what the body of a recipe has to run
abbrev pub recipe_work : Run → List BodyLine → Result Work CommandError
recipe_work run lines = body_work run (run_attributes run.recipe.attributes) lines
