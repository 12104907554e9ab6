-- What a justfile answers to words without a command.
use Rattle.std.specs.Prelude.{ℕ, ◌≡◌, List, Some, None, Result, Ok, Err}
use Rattle.just_exec.specs.declared.error.Error.{Error}
use Rattle.just_config.specs.declared.config.Config.{Config}
use Rattle.just_cli_plan.specs.Request.{LoadedRequest, ScopesRequest, Outline, EvaluatesVariables, PlansKeys}
use Rattle.just_cli_plan.specs.Steps.{Then}
use Rattle.just_cli_texts.specs.declared.printed.Printed.{Printed}
use Rattle.just_cli_texts.specs.Defaults.{listed_by_default, ListsLaid}
use Rattle.just_cli_texts.specs.Laid.{LaidRequest}

-- the listing of a module, or the plan of a run
pub data Reply : Type 0 where
  lists : Printed → Reply
  runs : Outline → Reply

abbrev pub as_list : Result Printed Error → Result Reply Error
as_list (Ok p) = Ok (Reply.lists p)
as_list (Err e) = Err e

abbrev pub as_plan : Result Outline Error → Result Reply Error
as_plan (Ok o) = Ok (Reply.runs o)
as_plan (Err e) = Err e

-- The reply behind the values of the variables: the listing of the module that the words name, where it is listed by default; else the plan of the recipes
-- that they ask for.
pub data Replies (c : Config) (q : LaidRequest) (s : ScopesRequest) (r : Result Reply Error) : Type 0 where
  by_list : (names : List (List ℕ)) (x : Result Printed Error) → listed_by_default c.default_list s.modules s.justfile s.wanted.words ≡ Some names → ListsLaid q.environ.pairs c q.laid names x → r ≡ as_list x → Replies c q s r
  by_plan : (x : Result Outline Error) → listed_by_default c.default_list s.modules s.justfile s.wanted.words ≡ None → PlansKeys s x → r ≡ as_plan x → Replies c q s r

-- the same from the dotenv pairs on
abbrev pub RepliesLoaded : Config → LaidRequest → LoadedRequest → Result Reply Error → Type 0
RepliesLoaded c q = Then EvaluatesVariables (Replies c q)
