-- Each field by the call that makes it; where nothing was left out in the end, nothing was before.
use Rattle.std.proofs.Common.{◌≡◌, ℕ, List, Result, refl, ◌∙◌, ap}
use Rattle.std.specs.Prelude.{IfOk, Ok, Err, codes}
use Rattle.just_config_words.specs.Occurrences.{values_in}
use Rattle.just_path_text.specs.declared.memory.NoMemory.{NoMemory}
use Rattle.just_config_words.proofs.arguments.Arguments.new.Goals as goal

-- texts that are there are those that were made
kept : (found : List (List ℕ)) (made : Result (List (List ℕ)) NoMemory) (texts : List (List ℕ)) → made ≡ Ok texts → IfOk made (λ t. t ≡ found) → texts ≡ found
kept found (Ok t) texts e h = cc
kept found (Err refused) texts e h = absurd (cc)

pub returns-then-is_whole : goal.returns-then-is_whole
returns-then-is_whole c =
    let m7 = c.made-7.ensures c.if-is_whole.true in
    let m6 = c.made-6.ensures m7.0 in
    let m5 = c.made-5.ensures m6.0 in
    let m4 = c.made-4.ensures m5.0 in
    let m3 = c.made-3.ensures m4.0 in
    let m2 = c.made-2.ensures m3.0 in
    let m1 = c.made.ensures m2.0 in
    let c15 = c.copied-15.ensures m1.0 in
    let c14 = c.copied-14.ensures c15.0 in
    let c13 = c.copied-13.ensures c14.0 in
    let c12 = c.copied-12.ensures c13.0 in
    let c11 = c.copied-11.ensures c12.0 in
    let c10 = c.copied-10.ensures c11.0 in
    let c9 = c.copied-9.ensures c10.0 in
    let c8 = c.copied-8.ensures c9.0 in
    let c7 = c.copied-7.ensures c8.0 in
    let c6 = c.copied-6.ensures c7.0 in
    let c5 = c.copied-5.ensures c6.0 in
    let c4 = c.copied-4.ensures c5.0 in
    let c3 = c.copied-3.ensures c4.0 in
    let c2 = c.copied-2.ensures c3.0 in
    let c1 = c.copied.ensures c2.0 in
    record {
      allow_missing = c.is_given.ensures;
      check = c.is_given-2.ensures;
      clear_shell_args = c.clears_shell_args.ensures;
      default_list = c.is_given-3.ensures;
      dry_run = c.is_given-4.ensures;
      explain = c.is_given-5.ensures;
      global_justfile = c.is_given-6.ensures;
      list_submodules = c.is_given-7.ensures;
      no_aliases = c.is_given-8.ensures;
      no_cache = c.is_given-9.ensures;
      no_deps = c.is_given-10.ensures;
      no_dotenv = c.is_given-11.ensures;
      one = c.is_given-12.ensures;
      quiet = c.is_given-13.ensures;
      shell_command = c.is_given-14.ensures;
      unsorted = c.is_given-15.ensures;
      unstable = c.is_given-16.ensures;
      verbose = c.verbosity.ensures;
      yes = c.is_given-17.ensures;
      complete_aliases = c.is_given-18.ensures;
      highlight = c.is_given-19.ensures;
      no_highlight = c.is_given-20.ensures;
      alias_style = c1.1;
      ceiling = c2.1;
      chooser = c3.1;
      dump_format = c4.1;
      evaluate_format = c5.1;
      indentation = c6.1;
      jobs = c.jobs.ensures;
      justfile = c7.1;
      list_heading = c8.1;
      list_prefix = c9.1;
      shell = c10.1;
      tempdir = c11.1;
      working_directory = c12.1;
      color = c13.1;
      command_color = c14.1;
      cygpath = c15.1;
      dotenv_command = kept _ c.values_in.result c.made.result m1.1 c.values_in.ensures;
      dotenv_filename = kept _ c.values_in-2.result c.made-2.result m2.1 c.values_in-2.ensures;
      dotenv_path = kept _ c.values_in-3.result c.made-3.result m3.1 c.values_in-3.ensures;
      group = kept _ c.values_in-4.result c.made-4.result m4.1 c.values_in-4.ensures;
      justfile_name = kept _ c.names.result c.made-5.result m5.1 c.names.ensures;
      shell_arg = kept _ c.values_in-5.result c.made-6.result m6.1 c.values_in-5.ensures ∙ ap (values_in (codes "shell-arg")) c.behind.ensures;
      set = kept _ c.values_in-6.result c.made-7.result m7.1 c.values_in-6.ensures;
      arguments = refl;
      subcommand = c.in_ok-subcommand.ensures;
    }
