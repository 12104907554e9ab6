-- The response to a request.
use Rattle.std.proofs.Common.{◌≡◌, inr, ℕ, List, Option, Some, None, Result, Ok, Err, sym, ap, ◌∙◌}
use Rattle.just_path_text.specs.Environ.{value_of}
use Rattle.just_lang_layout.specs.Paths.{Pairs}
use Rattle.just_config.specs.declared.config_error.ConfigError.TheVariants as config_error
use Rattle.just_config.specs.declared.request.Request.{Request}
use Rattle.just_config.specs.declared.request.Request.TheVariants as request
use Rattle.just_config.specs.declared.request.Response.TheVariants as response
use Rattle.just_config.specs.Requests.{response_text}
use Rattle.just_exec.specs.declared.error.Error.{Error}
use Rattle.just_exec.specs.declared.error.Error.TheVariants as error
use Rattle.just_cli_plan.specs.Own.{OrMemory}
use Rattle.just_cli_texts.specs.Responses.{responded}

module _ (environ : Pairs) (asked : Option Request) where
  pub responded_so : (name text : List ℕ) → Some (request.EnvironmentVariable name) ≡ asked → text ≡ response_text (response.EnvironmentVariable (value_of name environ)) → responded environ asked ≡ Ok text
  responded_so name text is at = sym (ap (λ (t : List ℕ). let into : Result (List ℕ) Error = Ok t in into) at ∙ ap (λ (o : Option Request). responded environ o) is)

  pub unresponded : (e : Error) → None ≡ asked → e ≡ error.Config config_error.RequestParse → OrMemory (λ x. responded environ asked ≡ Err x) e
  unresponded e none is = inr (sym (ap (λ (x : Error). let into : Result (List ℕ) Error = Err x in into) is ∙ ap (λ (o : Option Request). responded environ o) none))
