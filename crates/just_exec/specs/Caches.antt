-- The caches of recipes: what the bodies depend on, and the files that they read and make.
use Rattle.std.specs.Prelude.{ℕ, ◌≡◌, ◌||◌, Bool, if◌then◌else◌, List, [], ◌∷◌, length, map, filter, Option, Some, None, option_map, Ok, bytes_eq, codes}
use Rattle.just_path.specs.Path.{pushed}
use Rattle.just_host_record.specs.declared.entry.Script.{Script}
use Rattle.just_host_record.specs.declared.entry.Spec.{Spec}
use Rattle.just_lang_syntax.specs.declared.ast.Argument.{Argument}
use Rattle.just_lang_syntax.specs.declared.ast.Attribute.{Attribute}
use Rattle.just_lang_syntax.specs.declared.ast.Name.{Name}
use Rattle.just_lang_types.specs.declared.key.Value.{Value}
use Rattle.just_lang_types.specs.declared.node.BodyLine.{BodyLine}
use Rattle.just_lang_types.specs.declared.recipe.Recipe.{Recipe}
use Rattle.just_lang_types.specs.declared.scope.Scopes.{Scopes}
use Rattle.just_eval_closure.specs.Answers.{Answer, and_then, each}
use Rattle.just_lang_types.specs.Modules.{Located}
use Rattle.just_eval_closure.specs.Dependencies.{text_in_recipe}
use Rattle.just_exec_work.specs.declared.work.Work.{Work}
use Rattle.just_exec_work.specs.declared.work.Work.TheVariants as work
use Rattle.just_exec_work.specs.Attributes.{attribute_named, has_attribute, attribute_text}
use Rattle.just_exec_work.specs.Works.{Run}
use Rattle.just_cache.specs.declared.key.CacheKey.{CacheKey}
use Rattle.just_cache.specs.declared.key.KeyExecutor.{KeyExecutor}
use Rattle.just_cache.specs.declared.key.KeyExecutor.TheVariants as executor
use Rattle.just_exec.specs.declared.node_cache.NodeCache.{NodeCache}

-- ---- what `cache` names

-- the `cache` of a recipe, if it has one
abbrev pub cache_attribute : Recipe → Option Attribute
cache_attribute r = attribute_named r.attributes (codes "cache")

-- the key of an argument; each argument of `cache` has one
abbrev pub key_text_of : Option Name → List ℕ
key_text_of None = []
key_text_of (Some k) = k.text

-- In a recipe whose parameters have these values.
module _ (scopes : Scopes) (from : Located) (values : List Value) where
  -- the key of an argument of `cache`, with the text of its value
  abbrev pub keyed_text : Argument → Answer (List ℕ × List ℕ)
  keyed_text a = and_then (text_in_recipe scopes from values a.value) (λ t. Ok (key_text_of a.key, t))

  -- of all arguments, in their order
  abbrev pub keyed_texts : List Argument → Answer (List (List ℕ × List ℕ))
  keyed_texts arguments = each keyed_text arguments

-- whether a text has that key
abbrev pub has_key : List ℕ → List ℕ × List ℕ → Bool
has_key key p = bytes_eq p.0 key

-- the texts that have that key, in their order
abbrev pub texts_under : List ℕ → List (List ℕ × List ℕ) → List (List ℕ)
texts_under key texts = map (λ p. p.1) (filter (has_key key) texts)

abbrev pub first_of : List (List ℕ) → Option (List ℕ)
first_of [] = None
first_of (t ∷ ts) = Some t

-- ---- the key

-- what runs a script: the interpreter that its first line names, with its argument, where it is run by itself; else the command with its arguments
abbrev pub executor_of : Spec → Script → KeyExecutor
executor_of spec script = if script.run then executor.Shebang (first_of spec.arguments) spec.program else executor.Command (record { command = spec.program; arguments = spec.arguments })

-- the words that a script is given, where its recipe is given positional arguments
abbrev pub positional_of : Run → Script → Option (List (List ℕ))
positional_of run script = if run.settings.positional_arguments || has_attribute run.recipe.attributes (codes "positional-arguments") then Some script.after else None

-- the key of a body with these lines that is run as that script by that child, and the text of `extra`, if there is one
abbrev pub key_of : Run → List BodyLine → Spec → Script → Option (List ℕ) → CacheKey
key_of run lines spec script extra =
    record {
      -- the lines with their values
      body = map (λ l. l.text) lines;
      -- what changes in the environment of the child
      environment = spec.changes;
      executor = executor_of spec script;
      -- the text of the recipe's `extension`
      extension = attribute_text run.recipe.attributes (codes "extension");
      extra = extra;
      -- the inputs are summed when the cache is looked at
      inputs = None;
      positional = positional_of run script;
      recipe = run.recipe.path;
      -- the folder of the child; none under `no-cd`
      working_directory = spec.folder;
    }

-- ---- the cache

-- the path of what has that name for a body that runs in that folder; without a folder it runs where the program does, and the name is the path
abbrev pub path_in : Option (List ℕ) → List ℕ → List ℕ
path_in None name = name
path_in (Some folder) name = pushed folder name

-- the cache of such a body, whose `cache` has these texts and whose entries stand in that folder
abbrev pub cache_of : Run → List ℕ → List BodyLine → Spec → Script → List (List ℕ × List ℕ) → NodeCache
cache_of run folder lines spec script texts =
    record {
      key = key_of run lines spec script (first_of (texts_under (codes "extra") texts));
      folder = folder;
      inputs = texts_under (codes "inputs") texts;
      paths = map (path_in spec.folder) (texts_under (codes "inputs") texts);
      outputs = map (path_in spec.folder) (texts_under (codes "outputs") texts);
    }

-- a cache has as many paths as inputs
abbrev pub IsPaired : Option NodeCache → Type 0
IsPaired None = Unit {0}
IsPaired (Some c) = length c.paths ≡ length c.inputs

-- the child of a body that is run as a script
abbrev pub script_child : Work → Option (Spec × Script)
script_child (work.Lines commands) = None
script_child (work.Script c) = option_map (λ s. (c.spec, s)) c.spec.script
script_child work.Empty = None

-- In a recipe that is run so and whose entries stand in that folder: the cache of a body with these lines and that child. A recipe without `cache`
-- has none, nor does a body that starts no child; a variable of the environment that isn't there refuses it.
module _ (scopes : Scopes) (from : Located) (run : Run) (folder : List ℕ) (lines : List BodyLine) where
  abbrev pub cache_by : Option Attribute → Option (Spec × Script) → Answer (Option NodeCache)
  cache_by None child = Ok None
  cache_by (Some a) None = Ok None
  cache_by (Some a) (Some child) = and_then (keyed_texts scopes from run.values a.arguments) (λ texts. Ok (Some (cache_of run folder lines child.0 child.1 texts)))

  -- where the words leave caches alone, there is none
  abbrev pub recipe_cache : Work → Answer (Option NodeCache)
  recipe_cache w = if run.flags.no_cache then Ok None else cache_by (cache_attribute run.recipe) (script_child w)
