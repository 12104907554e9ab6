-- What is planned for a recipe in a dry run, and in one that isn't, differs in questions and echoes alone.
use Rattle.std.proofs.Common.{◌≡◌, ◌++◌, ℕ, Bool, true, false, List, [], ◌∷◌, map, Option, Some, None, Result, Ok, Err, refl, sym, ◌∙◌, ap}
use Rattle.std.specs.Prelude.{if◌then◌else◌, filter, zip}
use Rattle.just_host_record.specs.declared.entry.Script.{Script}
use Rattle.just_host_record.specs.declared.entry.Spec.{Spec}
use Rattle.just_lang_syntax.specs.declared.ast.Attribute.{Attribute}
use Rattle.just_lang_types.specs.declared.key.Value.{Value}
use Rattle.just_lang_types.specs.declared.node.BodyLine.{BodyLine}
use Rattle.just_lang_types.specs.declared.node.Closure.{Closure}
use Rattle.just_lang_types.specs.declared.node.Node.{Node}
use Rattle.just_lang_types.specs.declared.project.Justfile.{Justfile}
use Rattle.just_lang_types.specs.declared.project.LangError.{LangError}
use Rattle.just_lang_types.specs.declared.scope.Scopes.{Scopes}
use Rattle.just_lang_types.specs.declared.settings.Interpreter.{Interpreter}
use Rattle.just_lang_types.specs.Modules.{Located, recipe_at}
use Rattle.just_eval.specs.Bodies.{lines_of_recipe}
use Rattle.just_eval_closure.specs.Answers.{Answer}
use Rattle.just_exec_work.specs.declared.error.CommandError.{CommandError}
use Rattle.just_exec_work.specs.declared.run_attributes.RunAttributes.{RunAttributes}
use Rattle.just_exec_work.specs.declared.run_flags.RunFlags.{RunFlags}
use Rattle.just_exec_work.specs.declared.work.Command.{Command}
use Rattle.just_exec_work.specs.declared.work.Work.{Work}
use Rattle.just_exec_work.specs.declared.work.Work.TheVariants as work
use Rattle.just_exec_work.specs.Attributes.{run_attributes}
use Rattle.just_exec_work.specs.Folders.{recipe_folder}
use Rattle.just_exec_work.specs.Scripts.{Runner}
use Rattle.just_exec_work.specs.Shells.{shell, runner}
use Rattle.just_exec_work.specs.Works.{Run, is_filled, work_of_lines, words_of_line, positional_words, line_command, work_of_script, script_work, recipe_work}
use Rattle.just_exec.specs.declared.node_cache.NodeCache.{NodeCache}
use Rattle.just_exec.specs.declared.node_plan.NodePlan.{NodePlan}
use Rattle.just_exec.specs.declared.plan_error.PlanError.{PlanError}
use Rattle.just_exec.specs.declared.plan_error.PlanError.TheVariants as plan_error
use Rattle.just_exec.specs.Banners.{banner}
use Rattle.just_exec.specs.Caches.{cache_attribute, script_child, cache_by, recipe_cache}
use Rattle.just_exec.specs.Plans.{PlanAnswer, then_plan, running, node_plan, run_plan}
use Rattle.just_exec.specs.Prompts.{is_parallel}
use Rattle.just_cli_plan.specs.Planned.{changes_in, recipe_plan, plan_for, plans_for, plans_in}
use Rattle.just_cli.specs.DryPlans.{flags_so, unechoed, unechoed_work, unasked}

-- ---- bodies

abbrev bare_work : Result Work CommandError → Result Work CommandError
bare_work (Ok w) = Ok (unechoed_work w)
bare_work (Err e) = Err e

abbrev bare_plan : PlanAnswer NodePlan → PlanAnswer NodePlan
bare_plan (Ok x) = Ok (unasked x)
bare_plan (Err e) = Err e

-- a child is the same without echoes
child_bare : (w : Work) → script_child (unechoed_work w) ≡ script_child w
child_bare (work.Lines commands) = refl
child_bare (work.Script command) = refl
child_bare work.Empty = refl

module _ (dry : Bool) (run : Run) where
  abbrev run_so : Run
  run_so = record { recipe = run.recipe; settings = run.settings; folder = run.folder; values = run.values; changes = run.changes; flags = flags_so dry run.flags }

  words_so : (i : Interpreter) (o : Option (List (List ℕ))) → words_of_line run_so i o ≡ words_of_line run i o
  words_so i None = refl
  words_so i (Some texts) = refl

  module _ (attributes : RunAttributes) where
    -- the command of a line with these words behind it, without an echo
    abbrev line_with : BodyLine → List (List ℕ) → Command
    line_with l ws =
        record {
          spec = record {
            program = (shell run.flags run.settings).command;
            arguments = (shell run.flags run.settings).arguments ++ (l.text ∷ ws);
            folder = recipe_folder run.settings attributes run.folder;
            changes = run.changes;
            script = None;
          };
          echo = [];
          line = Some l.number;
          forgiving = l.forgiving;
          guard = l.guard;
        }

    command_so : (l : BodyLine) → unechoed (line_command run_so attributes l) ≡ unechoed (line_command run attributes l)
    command_so l = ap (λ (ws : List (List ℕ)). line_with l ws) (words_so (shell run.flags run.settings) (positional_words run attributes))

    commands_so : (ls : List BodyLine) → map unechoed (map (line_command run_so attributes) ls) ≡ map unechoed (map (line_command run attributes) ls)
    commands_so [] = refl
    commands_so (l ∷ ls) =
        ap (λ (c : Command). c ∷ map unechoed (map (line_command run_so attributes) ls)) (command_so l) ∙ ap (λ (cs : List Command). unechoed (line_command run attributes l) ∷ cs) (commands_so ls)

    lines_so : (ls : List BodyLine) → bare_work (Ok (work_of_lines (map (line_command run_so attributes) ls))) ≡ bare_work (Ok (work_of_lines (map (line_command run attributes) ls)))
    lines_so [] = refl
    lines_so (l ∷ ls) = ap (λ (cs : List Command). let w : Result Work CommandError = Ok (work.Lines cs) in w) (commands_so (l ∷ ls))

    runner_so : (lines : List BodyLine) (first : List ℕ) (o : Option Runner) → bare_work (work_of_script run_so attributes lines first o) ≡ bare_work (work_of_script run attributes lines first o)
    runner_so lines first None = refl
    runner_so lines first (Some r) = refl

    script_so : (lines : List BodyLine) → bare_work (script_work run_so attributes lines) ≡ bare_work (script_work run attributes lines)
    script_so [] = refl
    script_so (l ∷ ls) = runner_so (l ∷ ls) l.text (runner run.settings attributes.script l.text)

    body_so : (script : Bool) (lines : List BodyLine)
        → bare_work (if script then script_work run_so attributes lines else Ok (work_of_lines (map (line_command run_so attributes) (filter is_filled lines)))) ≡ bare_work (if script then script_work run attributes lines else Ok (work_of_lines (map (line_command run attributes) (filter is_filled lines))))
    body_so true lines = script_so lines
    body_so false lines = lines_so (filter is_filled lines)

  work_so : (lines : List BodyLine) → bare_work (recipe_work run_so lines) ≡ bare_work (recipe_work run lines)
  work_so lines = body_so (run_attributes run.recipe.attributes) run.recipe.script lines

  -- ---- nodes

  module _ (scopes : Scopes) (from : Located) (folder : List ℕ) (lines : List BodyLine) where
    cached_so : (a : Option Attribute) (child : Option (Spec × Script)) → cache_by scopes from run_so folder lines a child ≡ cache_by scopes from run folder lines a child
    cached_so None child = refl
    cached_so (Some a) None = refl
    cached_so (Some a) (Some child) = refl

    abbrev cached : Answer (Option NodeCache) → Answer (Option NodeCache)
    cached x = if run.flags.no_cache then Ok None else x

    same_cache : (v w : Work) → unechoed_work v ≡ unechoed_work w → recipe_cache scopes from run_so folder lines v ≡ recipe_cache scopes from run folder lines w
    same_cache v w same =
        ap (λ (x : Answer (Option NodeCache)). cached x) (cached_so (cache_attribute run.recipe) (script_child v))
        ∙ ap (λ (child : Option (Spec × Script)). cached (cache_by scopes from run folder lines (cache_attribute run.recipe) child)) (sym (child_bare v) ∙ (ap (λ (x : Work). script_child x) same ∙ child_bare w))

    abbrev planned_so : Work → Option NodeCache → PlanAnswer NodePlan
    planned_so w cache = Ok (record { prompt = None; parallel = is_parallel from.recipe; work = w; banner = banner run.flags from.recipe; cache = cache })

    node_so : (v w : Work) → unechoed_work v ≡ unechoed_work w → (x y : Answer (Option NodeCache)) → x ≡ y
        → bare_plan (then_plan (λ e. plan_error.Lang e) x (λ cache. Ok (node_plan run_so.flags from v cache))) ≡ bare_plan (then_plan (λ e. plan_error.Lang e) y (λ cache. Ok (node_plan run.flags from w cache)))
    node_so v w same (Ok a) (Ok b) is = let one : a ≡ b = cc in ap (λ (z : Work). planned_so z a) same ∙ ap (λ (cache : Option NodeCache). planned_so (unechoed_work w) cache) one
    node_so v w same (Err e) (Err f) is = let one : e ≡ f = cc in ap (λ (z : LangError). let x : PlanAnswer NodePlan = Err (plan_error.Lang z) in x) one
    node_so v w same (Ok a) (Err f) is = absurd (let no : ⊥ = cc in no)
    node_so v w same (Err e) (Ok b) is = absurd (let no : ⊥ = cc in no)

    plan_by : (x y : Result Work CommandError) → bare_work x ≡ bare_work y
        → bare_plan (then_plan (λ e. plan_error.Command e) x (λ w. then_plan (λ e. plan_error.Lang e) (recipe_cache scopes from run_so folder lines w) (λ cache. Ok (node_plan run_so.flags from w cache))))
        ≡ bare_plan (then_plan (λ e. plan_error.Command e) y (λ w. then_plan (λ e. plan_error.Lang e) (recipe_cache scopes from run folder lines w) (λ cache. Ok (node_plan run.flags from w cache))))
    plan_by (Ok v) (Ok w) is =
        let both : ◌≡◌ {A = Result Work CommandError} (Ok (unechoed_work v)) (Ok (unechoed_work w)) = is in
        let same : unechoed_work v ≡ unechoed_work w = cc in
        node_so v w same (recipe_cache scopes from run_so folder lines v) (recipe_cache scopes from run folder lines w) (same_cache v w same)
    plan_by (Err e) (Err f) is =
        let both : ◌≡◌ {A = Result Work CommandError} (Err e) (Err f) = is in
        let one : e ≡ f = cc in ap (λ (z : CommandError). let x : PlanAnswer NodePlan = Err (plan_error.Command z) in x) one
    plan_by (Ok v) (Err f) is = let both : ◌≡◌ {A = Result Work CommandError} (Ok (unechoed_work v)) (Err f) = is in absurd (let no : ⊥ = cc in no)
    plan_by (Err e) (Ok w) is = let both : ◌≡◌ {A = Result Work CommandError} (Err e) (Ok (unechoed_work w)) = is in absurd (let no : ⊥ = cc in no)

    plan_so : bare_plan (run_plan scopes from run_so folder lines) ≡ bare_plan (run_plan scopes from run folder lines)
    plan_so = plan_by (recipe_work run_so lines) (recipe_work run lines) (work_so lines)

-- ---- plans

abbrev bare_plans : PlanAnswer (List NodePlan) → PlanAnswer (List NodePlan)
bare_plans (Ok xs) = Ok (map unasked xs)
bare_plans (Err e) = Err e

both_so : (x y : PlanAnswer NodePlan) (xs ys : PlanAnswer (List NodePlan)) → bare_plan x ≡ bare_plan y → bare_plans xs ≡ bare_plans ys
    → bare_plans (then_plan (λ e. e) x (λ a. then_plan (λ e. e) xs (λ more. Ok (a ∷ more)))) ≡ bare_plans (then_plan (λ e. e) y (λ a. then_plan (λ e. e) ys (λ more. Ok (a ∷ more))))
both_so (Ok a) (Ok b) (Ok xs) (Ok ys) is at =
    let first : ◌≡◌ {A = PlanAnswer NodePlan} (Ok (unasked a)) (Ok (unasked b)) = is in
    let others : ◌≡◌ {A = PlanAnswer (List NodePlan)} (Ok (map unasked xs)) (Ok (map unasked ys)) = at in
    let one : unasked a ≡ unasked b = cc in
    let rest : map unasked xs ≡ map unasked ys = cc in
    ap (λ (z : NodePlan). let r : PlanAnswer (List NodePlan) = Ok (z ∷ map unasked xs) in r) one ∙ ap (λ (zs : List NodePlan). let r : PlanAnswer (List NodePlan) = Ok (unasked b ∷ zs) in r) rest
both_so (Ok a) (Ok b) (Err e) (Err f) is at = at
both_so (Ok a) (Ok b) (Ok xs) (Err f) is at = let others : ◌≡◌ {A = PlanAnswer (List NodePlan)} (Ok (map unasked xs)) (Err f) = at in absurd (let no : ⊥ = cc in no)
both_so (Ok a) (Ok b) (Err e) (Ok ys) is at = let others : ◌≡◌ {A = PlanAnswer (List NodePlan)} (Err e) (Ok (map unasked ys)) = at in absurd (let no : ⊥ = cc in no)
both_so (Err e) (Err f) xs ys is at =
    let first : ◌≡◌ {A = PlanAnswer NodePlan} (Err e) (Err f) = is in
    let one : e ≡ f = cc in ap (λ (z : PlanError). let r : PlanAnswer (List NodePlan) = Err z in r) one
both_so (Ok a) (Err f) xs ys is at = let first : ◌≡◌ {A = PlanAnswer NodePlan} (Ok (unasked a)) (Err f) = is in absurd (let no : ⊥ = cc in no)
both_so (Err e) (Ok b) xs ys is at = let first : ◌≡◌ {A = PlanAnswer NodePlan} (Err e) (Ok (unasked b)) = is in absurd (let no : ⊥ = cc in no)

-- the nodes with what is planned for them
pub zipped : (ns : List Node) (xs : List NodePlan) → map (λ (x : Node × NodePlan). (x.0, unasked x.1)) (zip ns xs) ≡ zip ns (map unasked xs)
zipped [] xs = refl
zipped (n ∷ ns) [] = refl
zipped (n ∷ ns) (x ∷ xs) = ap (λ (l : List (Node × NodePlan)). (n, unasked x) ∷ l) (zipped ns xs)

-- plans that are the same but for questions and echoes stand where one of them does
found_so : (r : PlanAnswer (List NodePlan)) (plans : List NodePlan) → bare_plans r ≡ Ok (map unasked plans) → (others : List NodePlan) × (r ≡ Ok others) × (map unasked others ≡ map unasked plans)
found_so (Ok others) plans is =
    let both : ◌≡◌ {A = PlanAnswer (List NodePlan)} (Ok (map unasked others)) (Ok (map unasked plans)) = is in
    let same : map unasked others ≡ map unasked plans = cc in (others, refl, same)
found_so (Err e) plans is = let both : ◌≡◌ {A = PlanAnswer (List NodePlan)} (Err e) (Ok (map unasked plans)) = is in absurd (let no : ⊥ = cc in no)

module _ (dry : Bool) (flags : RunFlags) (folder : List ℕ) (modules : List Justfile) (scopes : Scopes) where
  lines_plan : (from : Located) (values : List Value) (x : Answer (List BodyLine))
      → bare_plan (then_plan (λ e. plan_error.Lang e) x (λ lines. run_plan scopes from (running (flags_so dry flags) from values (changes_in scopes values from)) folder lines))
      ≡ bare_plan (then_plan (λ e. plan_error.Lang e) x (λ lines. run_plan scopes from (running flags from values (changes_in scopes values from)) folder lines))
  lines_plan from values (Ok lines) = plan_so dry (running flags from values (changes_in scopes values from)) scopes from folder lines
  lines_plan from values (Err e) = refl

  recipe_so : (values : List Value) (o : Option Located) → bare_plan (recipe_plan (flags_so dry flags) folder scopes values o) ≡ bare_plan (recipe_plan flags folder scopes values o)
  recipe_so values None = refl
  recipe_so values (Some from) = lines_plan from values (lines_of_recipe scopes from values)

  each_so : (ns : List Node) → bare_plans (plans_for (flags_so dry flags) folder modules scopes ns) ≡ bare_plans (plans_for flags folder modules scopes ns)
  each_so [] = refl
  each_so (n ∷ ns) =
      both_so (plan_for (flags_so dry flags) folder modules scopes n) (plan_for flags folder modules scopes n) (plans_for (flags_so dry flags) folder modules scopes ns) (plans_for flags folder modules scopes ns)
      (recipe_so n.key.arguments (recipe_at modules n.key.recipe)) (each_so ns)

  pub plans_so : (c : Closure) (plans : List NodePlan) → plans_in flags folder modules scopes c ≡ Ok plans
      → (others : List NodePlan) × (plans_in (flags_so dry flags) folder modules scopes c ≡ Ok others) × (map unasked others ≡ map unasked plans)
  plans_so c plans is = found_so (plans_in (flags_so dry flags) folder modules scopes c) plans (each_so c.nodes ∙ ap (λ (r : PlanAnswer (List NodePlan)). bare_plans r) is)
