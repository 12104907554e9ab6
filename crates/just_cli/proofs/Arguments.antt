-- The arguments of options and positional words are one thing.
use Rattle.std.proofs.Common.{◌≡◌, ◌<◌, ◌∙◌, ℕ, List, Option, Some, None, option_map, refl, sym, ap, subst}
use Rattle.std.specs.Int.NonZero.{non_zero_u64_get}
use Rattle.std.specs.declared.num.NonZeroU64.{NonZeroU64}
use Rattle.just_config_words.specs.declared.arguments.Arguments.{Arguments}
use Rattle.just_config_words.specs.declared.occurrence.Occurrence.{Occurrence}
use Rattle.just_config_words.specs.Arguments.{AreArguments}
use Rattle.std.proofs.Math.Bridge.{le_prop}

-- a number that isn't 0 is its value
number : (v : ℕ) → 0 < v → NonZeroU64
number v some = record { value = v; ok = some }

same_number : (v w : ℕ) (p : 0 < v) (q : 0 < w) → v ≡ w → number v p ≡ number w q
same_number v w p q is = subst (λ (u : ℕ). (r : 0 < u) → number v p ≡ number u r) is (λ r. ap (λ k. number v k) (le_prop p r)) q

number_one : (x y : NonZeroU64) → non_zero_u64_get x ≡ non_zero_u64_get y → x ≡ y
unfolding number
number_one x y is = same_number x.value y.value x.ok y.ok is

jobs_one : (x y : Option NonZeroU64) → option_map non_zero_u64_get x ≡ option_map non_zero_u64_get y → x ≡ y
jobs_one None None is = refl
jobs_one (Some x) None is = absurd (let no : ⊥ = cc in no)
jobs_one None (Some y) is = absurd (let no : ⊥ = cc in no)
jobs_one (Some x) (Some y) is = let same : non_zero_u64_get x ≡ non_zero_u64_get y = cc in ap (λ n. Some n) (number_one x y same)

pub arguments_one : (f : List Occurrence) → (p : List (List ℕ)) → (a b : Arguments) → AreArguments f p a → AreArguments f p b → a ≡ b
arguments_one f p a b x y =
    rw (
      x.allow_missing ∙ sym y.allow_missing,
      x.check ∙ sym y.check,
      x.clear_shell_args ∙ sym y.clear_shell_args,
      x.default_list ∙ sym y.default_list,
      x.dry_run ∙ sym y.dry_run,
      x.explain ∙ sym y.explain,
      x.global_justfile ∙ sym y.global_justfile,
      x.list_submodules ∙ sym y.list_submodules,
      x.no_aliases ∙ sym y.no_aliases,
      x.no_cache ∙ sym y.no_cache,
      x.no_deps ∙ sym y.no_deps,
      x.no_dotenv ∙ sym y.no_dotenv,
      x.one ∙ sym y.one,
      x.quiet ∙ sym y.quiet,
      x.shell_command ∙ sym y.shell_command,
      x.unsorted ∙ sym y.unsorted,
      x.unstable ∙ sym y.unstable,
      x.verbose ∙ sym y.verbose,
      x.yes ∙ sym y.yes,
      x.complete_aliases ∙ sym y.complete_aliases,
      x.highlight ∙ sym y.highlight,
      x.no_highlight ∙ sym y.no_highlight,
      x.alias_style ∙ sym y.alias_style,
      x.ceiling ∙ sym y.ceiling,
      x.chooser ∙ sym y.chooser,
      x.dump_format ∙ sym y.dump_format,
      x.evaluate_format ∙ sym y.evaluate_format,
      x.indentation ∙ sym y.indentation,
      jobs_one a.jobs b.jobs (x.jobs ∙ sym y.jobs),
      x.justfile ∙ sym y.justfile,
      x.list_heading ∙ sym y.list_heading,
      x.list_prefix ∙ sym y.list_prefix,
      x.shell ∙ sym y.shell,
      x.tempdir ∙ sym y.tempdir,
      x.working_directory ∙ sym y.working_directory,
      x.color ∙ sym y.color,
      x.command_color ∙ sym y.command_color,
      x.cygpath ∙ sym y.cygpath,
      x.dotenv_command ∙ sym y.dotenv_command,
      x.dotenv_filename ∙ sym y.dotenv_filename,
      x.dotenv_path ∙ sym y.dotenv_path,
      x.group ∙ sym y.group,
      x.justfile_name ∙ sym y.justfile_name,
      x.shell_arg ∙ sym y.shell_arg,
      x.set ∙ sym y.set,
      x.arguments ∙ sym y.arguments,
      x.subcommand ∙ sym y.subcommand,
    ) refl
