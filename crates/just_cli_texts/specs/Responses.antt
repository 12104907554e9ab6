-- The response to a request.
use Rattle.std.specs.Prelude.{ℕ, List, [], ◌∷◌, Option, Some, None, Result, Ok, Err}
use Rattle.just_path_text.specs.Environ.{value_of}
use Rattle.just_lang_layout.specs.Paths.{Pairs}
use Rattle.just_config.specs.declared.config_error.ConfigError.TheVariants as config_error
use Rattle.just_config.specs.declared.request.Request.{Request}
use Rattle.just_config.specs.declared.request.Request.TheVariants as request
use Rattle.just_config.specs.declared.request.Response.TheVariants as response
use Rattle.just_config.specs.Requests.{request_of, response_text}
use Rattle.just_exec.specs.declared.error.Error.{Error}
use Rattle.just_exec.specs.declared.error.Error.TheVariants as error

-- the request of some words: of one that is one
abbrev pub requested : List (List ℕ) → Option Request
requested [] = None
requested (t ∷ []) = request_of t
requested (t ∷ u ∷ ts) = None

-- the text of the response over an environment
abbrev pub responded : Pairs → Option Request → Result (List ℕ) Error
responded environ None = Err (error.Config config_error.RequestParse)
responded environ (Some (request.EnvironmentVariable name)) = Ok (response_text (response.EnvironmentVariable (value_of name environ)))
