-- Where a child wasn't run to its end, no answer that is own uses up the same children and no others.
use Rattle.std.proofs.Common.{◌≡◌, ℕ, ℤ, Bool, true, false, true≢false, List, [], ◌∷◌, ◌++◌, Option, Some, None, if◌then◌else◌, refl, sym, ap, ◌∙◌, subst, append_assoc, pos}
use Rattle.std.specs.Prelude.{Result, Ok, Err}
use Rattle.std.specs.Ordering.{int_eq}
use Rattle.just_path.specs.Ancestors.{ancestors_of}
use Rattle.just_host_record.specs.World.{World}
use Rattle.just_host_record.specs.declared.entry.HostFault.{HostFault}
use Rattle.just_host_record.specs.declared.entry.Status.{Status}
use Rattle.just_host_record.specs.declared.entry.Status.TheVariants as status
use Rattle.just_dotenv.specs.Meaning.{Pairs}
use Rattle.just_lang_types.specs.declared.project.Justfile.{Justfile}
use Rattle.just_lang_types.specs.declared.scope.DotenvOf.{DotenvOf}
use Rattle.just_lang_types.specs.declared.settings.Interpreter.{Interpreter}
use Rattle.just_lang_types.specs.declared.settings.Settings.{Settings}
use Rattle.just_lang_types.specs.Modules.{settings_of, modules_of}
use Rattle.just_exec_work.specs.declared.run_flags.RunFlags.{RunFlags}
use Rattle.just_exec_work.specs.Shells.{shell}
use Rattle.just_env.specs.declared.ask.DotenvAsk.{DotenvAsk}
use Rattle.just_env.specs.declared.ask.Sources.{Sources}
use Rattle.just_env.specs.declared.ask.Sources.TheVariants as sources
use Rattle.just_env.specs.declared.env_error.EnvError.{EnvError}
use Rattle.just_env.specs.declared.env_error.EnvError.TheVariants as error
use Rattle.just_env.specs.declared.env_error.OutputError.{OutputError}
use Rattle.just_env.specs.declared.env_error.OutputError.TheVariants as output
use Rattle.just_env.specs.Agree.{tells_failure, tells_uncaptured, IsOwn, IsUnrun, DotenvAlone}
use Rattle.just_env.specs.Asked.{sources_of, commands_of, paths_given, names_wanted}
use Rattle.just_env.specs.Captures.{Capture, told_behind, AreTold}
use Rattle.just_env.specs.Commands.{ending_error, GivesPairs, RunsCommand, RunsCommands, before_pairs}
use Rattle.just_env.specs.Files.{LoadsFile, LoadsUnder, all_under}
use Rattle.just_env.specs.Loads.{FindsFiles, FoundPairs, LoadsFrom, LoadsOwn, pairs_of_found, pairs_of_commands, folder_of, dotenv_of, before_others, Following, following, LoadsModules}
use Rattle.just_env.specs.Sequences.{Each, First}
use Rattle.just_env.proofs.Agreed.{answered_or_refused, same_answer, no_capture, command_once, own_before, own_printed, own_by, own_others, IsTold, told_on, told_front}

-- ---- files are read, and no child is run for them

module _ (told : Option World) (environ : Pairs) where
  file_reads : (path : List ℕ) (r : Result (Option Pairs) EnvError) → LoadsFile told environ path r → IsUnrun r → ⊥
  file_reads path r (LoadsFile.absent p) lost = lost
  file_reads path r (LoadsFile.there t us p gives) lost = lost
  file_reads path r (LoadsFile.faulty t n p stops) lost = true≢false (sym lost)
  file_reads path r (LoadsFile.unread e p) lost = true≢false (sym lost ∙ ap tells_uncaptured p.1)

  each_reads : (paths : List (List ℕ)) (r : Result (List (Option Pairs)) EnvError) → Each (LoadsFile told environ) paths r → IsUnrun r → ⊥
  each_reads paths r Each.none lost = lost
  each_reads paths r (Each.more x xs y ys p rest) lost = lost
  each_reads paths r (Each.refused_first x xs e p) lost = file_reads x (Err e) p lost
  each_reads paths r (Each.refused_later x xs y e p rest) lost = each_reads xs (Err e) rest lost

  under_reads : (names : List (List ℕ)) (folder : List ℕ) (r : Result (Option Pairs) EnvError) → LoadsUnder told environ names folder r → IsUnrun r → ⊥
  under_reads names folder (Ok found) p lost = lost
  under_reads names folder (Err e) p lost = each_reads (all_under folder names) (Err e) p lost

  first_reads : (names folders : List (List ℕ)) (r : Result (Option Pairs) EnvError) → First (LoadsUnder told environ names) folders r → IsUnrun r → ⊥
  first_reads names folders r (First.found before x behind y is none here) lost = lost
  first_reads names folders r (First.refused before x behind e is none here) lost = under_reads names x (Err e) here lost
  first_reads names folders r (First.nowhere none) lost = lost

  finds_reads : (paths names : List (List ℕ)) (folder : List ℕ) (r : Result (Option Pairs) EnvError) → FindsFiles told environ paths names folder r → IsUnrun r → ⊥
  finds_reads paths names folder r (FindsFiles.by_paths us p) lost = lost
  finds_reads paths names folder r (FindsFiles.refused e p) lost = under_reads paths folder (Err e) p lost
  finds_reads paths names folder r (FindsFiles.by_names x p first) lost = first_reads names (ancestors_of folder) r first lost

  none_reads : (required : Bool) → IsUnrun {A = Pairs} (if required then Err error.DotenvRequired else Ok []) → ⊥
  none_reads true lost = true≢false (sym lost)
  none_reads false lost = lost

  found_reads : (t : Settings) (paths names : List (List ℕ)) (folder : List ℕ) (found : Result (Option Pairs) EnvError) → FindsFiles told environ paths names folder found → IsUnrun (pairs_of_found t environ found) → ⊥
  found_reads t paths names folder (Ok (Some us)) p lost = lost
  found_reads t paths names folder (Ok None) p lost = none_reads t.dotenv_required lost
  found_reads t paths names folder (Err e) p lost = finds_reads paths names folder (Err e) p lost

  pub pairs_reads : (ask : DotenvAsk) (folder : List ℕ) (t : Settings) (r : Result Pairs EnvError) → FoundPairs told ask environ folder t r → IsUnrun r → ⊥
  pairs_reads ask folder t r p lost =
      found_reads t (paths_given ask t) (names_wanted ask t) folder p.0 p.1 (subst (λ (z : Result Pairs EnvError). IsUnrun z) p.2 lost)

-- ---- commands

io_code : (well : Bool) (n : ℤ) (io : HostFault) → (if well then None else Some (output.Code n)) ≡ Some (output.Io io) → ⊥
io_code true n io is = let no : ⊥ = cc in no
io_code false n io is = let no : ⊥ = cc in no

-- how a child ended doesn't say that it wasn't run to its end
io_ending : (ending : Status) (io : HostFault) → ending_error ending ≡ Some (output.Io io) → ⊥
io_ending (status.Code n) io is = io_code (int_eq n (pos 0)) n io is
io_ending (status.Signal n) io is = let no : ⊥ = cc in no
io_ending status.Unknown io is = let no : ⊥ = cc in no

module _ (environ : Pairs) (folder command : List ℕ) (ending : Status) where
  ended_so : (f : OutputError) → ending_error ending ≡ Some f → tells_uncaptured (error.DotenvCommand command f) ≡ true → ⊥
  ended_so (output.Code n) is lost = true≢false (sym lost)
  ended_so (output.Io io) is lost = io_ending ending io is
  ended_so (output.Signal n) is lost = true≢false (sym lost)
  ended_so output.Unknown is lost = true≢false (sym lost)
  ended_so output.Utf8 is lost = true≢false (sym lost)

  printed_so : (printed : List ℕ) (r : Result Pairs EnvError) → GivesPairs environ folder command ending printed r → IsUnrun r → ⊥
  printed_so printed r (GivesPairs.readable us w u p) lost = lost
  printed_so printed r (GivesPairs.faulty n w u p) lost = true≢false (sym lost)
  printed_so printed r (GivesPairs.no_text w u) lost = true≢false (sym lost)
  printed_so printed r (GivesPairs.ended e w) lost = ended_so e w lost

module _ (environ : Pairs) (shell : Interpreter) (folder : List ℕ) where
  command_alone : (told : Option World) (command : List ℕ) (cs ds ys : List Capture) (r s : Result Pairs EnvError) → RunsCommand environ shell folder told command cs r → IsUnrun r
      → RunsCommand environ shell folder told command ds s → IsOwn s → cs ≡ ds ++ ys → ⊥
  command_alone told command cs ds ys r s (RunsCommand.captured c x p g) lost q own is = printed_so environ folder command c.status c.output x g lost
  command_alone told command cs ds ys r s (RunsCommand.uncaptured io so) lost (RunsCommand.captured d y q h) own is = no_capture d ys is
  command_alone told command cs ds ys r s (RunsCommand.uncaptured io so) lost (RunsCommand.uncaptured jo to) own is = true≢false own

  unrun_before : (pairs : Pairs) (r : Result Pairs EnvError) → IsUnrun (before_pairs pairs r) → IsUnrun r
  unrun_before pairs (Ok x) lost = lost
  unrun_before pairs (Err e) lost = lost

  commands_alone : (told now : Option World) (ks ls : List (List ℕ)) (cs ds ys : List Capture) (r s : Result Pairs EnvError) → RunsCommands environ shell folder told ks cs r → IsUnrun r
      → RunsCommands environ shell folder now ls ds s → IsOwn s → told ≡ now → ks ≡ ls → cs ≡ ds ++ ys → ⊥
  commands_alone told now ks ls cs ds ys r s (RunsCommands.none t) lost q own at are is = lost
  commands_alone told now ks ls cs ds ys r s (RunsCommands.more t k js es gs us y p rest) lost (RunsCommands.none u) own at are is = let no : ⊥ = cc in no
  commands_alone told now ks ls cs ds ys r s (RunsCommands.more t k js es gs us y p rest) lost (RunsCommands.more u l ms fs hs vs z q later) own at are is =
      let first : k ≡ l = cc in
      let others : js ≡ ms = cc in
      let here : RunsCommand environ shell folder u l es (Ok us) = subst (λ w. RunsCommand environ shell folder w l es (Ok us)) at (subst (λ c. RunsCommand environ shell folder t c es (Ok us)) first p) in
      let one = command_once environ shell folder u l es fs gs (hs ++ ys) (Ok us) (Ok vs) here tt q tt (is ∙ append_assoc fs hs ys) in
      let worlds : told_behind t es ≡ told_behind u fs = ap (λ w. told_behind w es) at ∙ ap (λ l. told_behind u l) one.1 in
      commands_alone (told_behind t es) (told_behind u fs) js ms gs hs ys y z rest (unrun_before us y lost) later (own_before environ shell folder vs z own) worlds others one.2
  commands_alone told now ks ls cs ds ys r s (RunsCommands.more t k js es gs us y p rest) lost (RunsCommands.refused u l ms fs f q) own at are is =
      let first : k ≡ l = cc in
      let here : RunsCommand environ shell folder u l es (Ok us) = subst (λ w. RunsCommand environ shell folder w l es (Ok us)) at (subst (λ c. RunsCommand environ shell folder t c es (Ok us)) first p) in
      let one = command_once environ shell folder u l es fs gs ys (Ok us) (Err f) here tt q own is in
      answered_or_refused us f one.0
  commands_alone told now ks ls cs ds ys r s (RunsCommands.refused t k js es e p) lost (RunsCommands.none u) own at are is = let no : ⊥ = cc in no
  commands_alone told now ks ls cs ds ys r s (RunsCommands.refused t k js es e p) lost (RunsCommands.more u l ms fs hs vs z q later) own at are is =
      let first : k ≡ l = cc in
      let here : RunsCommand environ shell folder u l es (Err e) = subst (λ w. RunsCommand environ shell folder w l es (Err e)) at (subst (λ c. RunsCommand environ shell folder t c es (Err e)) first p) in
      command_alone u l es fs (hs ++ ys) (Err e) (Ok vs) here lost q tt (is ∙ append_assoc fs hs ys)
  commands_alone told now ks ls cs ds ys r s (RunsCommands.refused t k js es e p) lost (RunsCommands.refused u l ms fs f q) own at are is =
      let first : k ≡ l = cc in
      let here : RunsCommand environ shell folder u l es (Err e) = subst (λ w. RunsCommand environ shell folder w l es (Err e)) at (subst (λ c. RunsCommand environ shell folder t c es (Err e)) first p) in
      command_alone u l es fs ys (Err e) (Err f) here lost q own is

-- ---- modules

-- a refusal that tells that a child wasn't run is none that is own
unrun_or_own : (e : EnvError) → tells_uncaptured e ≡ true → tells_failure e ≡ false → ⊥
unrun_or_own (error.DotenvCommand command (output.Io io)) lost own = true≢false own
unrun_or_own _ lost own = absurd (cc)

module _ (ask : DotenvAsk) (flags : RunFlags) (environ : Pairs) where
  unrun_printed : (t : Settings) (found : Result Pairs EnvError) → IsUnrun (pairs_of_commands t environ found) → IsUnrun found
  unrun_printed t (Ok x) lost = lost
  unrun_printed t (Err e) lost = lost

  from_alone : (told : Option World) (folder : List ℕ) (j : Justfile) (from : Result Sources EnvError) (cs ds ys : List Capture) (r s : Result Pairs EnvError)
      → LoadsFrom told ask flags environ folder j from cs r → IsUnrun r → LoadsFrom told ask flags environ folder j from ds s → IsOwn s → cs ≡ ds ++ ys → ⊥
  from_alone told folder j (Ok sources.Nothing) cs ds ys r s p lost q own is = subst (λ (z : Result Pairs EnvError). IsUnrun z) p.1 lost
  from_alone told folder j (Ok sources.Files) cs ds ys r s p lost q own is = pairs_reads told environ ask folder (settings_of j) r p.1 lost
  from_alone told folder j (Ok sources.Commands) cs ds ys r s p lost q own is =
      let t = settings_of j in
      commands_alone environ (shell flags t) folder told told (commands_of ask j) (commands_of ask j) cs ds ys p.0 q.0
      p.1 (unrun_printed t p.0 (subst (λ (z : Result Pairs EnvError). IsUnrun z) p.2 lost)) q.1 (own_printed ask flags environ t q.0 s q.2 own) refl refl is
  from_alone told folder j (Err e) cs ds ys r s p lost q own is =
      unrun_or_own e (subst (λ (z : Result Pairs EnvError). IsUnrun z) p.1 lost) (subst (λ (z : Result Pairs EnvError). IsOwn z) q.1 own)

  own_alone : (told now : Option World) → told ≡ now → (j k : Justfile) → j ≡ k → (cs ds ys : List Capture) (r s : Result Pairs EnvError)
      → LoadsOwn told ask flags environ (folder_of flags.folder j) j cs r → IsUnrun r → LoadsOwn now ask flags environ (folder_of flags.folder k) k ds s → IsOwn s → cs ≡ ds ++ ys → ⊥
  own_alone told now at j k here cs ds ys r s p lost q own is =
      from_alone now (folder_of flags.folder k) k (sources_of ask k) cs ds ys r s
      (subst (λ m. LoadsOwn now ask flags environ (folder_of flags.folder m) m cs r) here (subst (λ w. LoadsOwn w ask flags environ (folder_of flags.folder j) j cs r) at p)) lost q own is

  unrun_others : (one : DotenvOf) (r : Result (List DotenvOf) EnvError) → IsUnrun (before_others one r) → IsUnrun r
  unrun_others one (Ok ds) lost = lost
  unrun_others one (Err e) lost = lost

  modules_alone : (told now : Option World) (ps qs : Following) (cs ds ys : List Capture) (r s : Result (List DotenvOf) EnvError) → LoadsModules ask flags environ told ps cs r → IsUnrun r
      → LoadsModules ask flags environ now qs ds s → IsOwn s → told ≡ now → IsTold now → AreTold ds → ps ≡ qs → cs ≡ ds ++ ys → ⊥
  modules_alone told now ps qs cs ds ys r s (LoadsModules.none t) lost q own at so told_all is are = lost
  modules_alone told now ps qs cs ds ys r s (LoadsModules.refused t j before others es e p) lost (LoadsModules.none u) own at so told_all is are = let no : ⊥ = cc in no
  modules_alone told now ps qs cs ds ys r s (LoadsModules.refused t j before others es e p) lost (LoadsModules.refused u k after more fs f q) own at so told_all is are =
      let pair : ◌≡◌ {A = Justfile × Pairs} (j, before) (k, after) = cc in
      own_alone t u at j k (ap (λ (p : Justfile × Pairs). p.0) pair) es fs ys (Err e) (Err f) p lost q own are
  modules_alone told now ps qs cs ds ys r s (LoadsModules.refused t j before others es e p) lost (LoadsModules.more u k after its more fs hs z q later) own at so told_all is are =
      let pair : ◌≡◌ {A = Justfile × Pairs} (j, before) (k, after) = cc in
      own_alone t u at j k (ap (λ (p : Justfile × Pairs). p.0) pair) es fs (hs ++ ys) (Err e) (Ok its) p lost q tt (are ∙ append_assoc fs hs ys)
  modules_alone told now ps qs cs ds ys r s (LoadsModules.more t j before mine others es gs y p rest) lost (LoadsModules.none u) own at so told_all is are = let no : ⊥ = cc in no
  modules_alone told now ps qs cs ds ys r s (LoadsModules.more t j before mine others es gs y p rest) lost (LoadsModules.refused u k after more fs f q) own at so told_all is are =
      let pair : ◌≡◌ {A = Justfile × Pairs} (j, before) (k, after) = cc in
      let one = own_by ask flags environ t u at so j k (ap (λ (p : Justfile × Pairs). p.0) pair) es fs gs ys (Ok mine) (Err f) p tt q own are in
      answered_or_refused mine f one.0
  modules_alone told now ps qs cs ds ys r s (LoadsModules.more t j before mine others es gs y p rest) lost (LoadsModules.more u k after its more fs hs z q later) own at so told_all is are =
      let pair : ◌≡◌ {A = Justfile × Pairs} (j, before) (k, after) = cc in
      let here : j ≡ k = ap (λ (p : Justfile × Pairs). p.0) pair in
      let follows : before ≡ after = ap (λ (p : Justfile × Pairs). p.1) pair in
      let behind : others ≡ more = cc in
      let one = own_by ask flags environ t u at so j k here es fs gs (hs ++ ys) (Ok mine) (Ok its) p tt q tt (are ∙ append_assoc fs hs ys) in
      let same : mine ≡ its = same_answer mine its one.0 in
      let pairs : before ++ mine ≡ after ++ its = ap (λ l. l ++ mine) follows ∙ ap (λ l. after ++ l) same in
      let stacks : following (before ++ mine) (modules_of j) ++ others ≡ following (after ++ its) (modules_of k) ++ more =
      ap (λ l. following l (modules_of j) ++ others) pairs ∙ ap (λ m. following (after ++ its) (modules_of m) ++ others) here ∙ ap (λ l. following (after ++ its) (modules_of k) ++ l) behind in
      let worlds : told_behind t es ≡ told_behind u fs = ap (λ w. told_behind w es) at ∙ ap (λ l. told_behind u l) one.1 in
      let told_left = told_on ask flags environ u fs hs so told_all in
      modules_alone (told_behind t es) (told_behind u fs) (following (before ++ mine) (modules_of j) ++ others) (following (after ++ its) (modules_of k) ++ more) gs hs ys y z
      rest (unrun_others (dotenv_of j (before ++ mine)) y lost) later (own_others ask flags environ (dotenv_of k (after ++ its)) z own) worlds told_left.0 told_left.1 stacks one.2

pub dotenv_alone : DotenvAlone
dotenv_alone w ask flags environ j cs ds ys is are r s p lost q own =
    modules_alone ask flags environ (Some w) (Some w) (following [] (j ∷ [])) (following [] (j ∷ [])) cs ds ys r s p lost q own refl tt (told_front ask flags environ ds ys are) refl is
