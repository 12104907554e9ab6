-- The text of a response.
use Rattle.std.proofs.Common.{◌≡◌, ℕ, List, Some, None, false, refl, ap, ◌∙◌}
use Rattle.serde_json.specs.Data.{Data}
use Rattle.serde_json.specs.Written.{compact_text, has_float}
use Rattle.just_config.specs.declared.request.Response.{Response}
use Rattle.just_config.specs.declared.request.Response.TheVariants as response
use Rattle.just_config.specs.Requests.{response_data, response_text}

-- it has no number
no_float : (r : Response) → has_float (response_data r) ≡ false
no_float (response.EnvironmentVariable None) = refl
no_float (response.EnvironmentVariable (Some text)) = refl

-- the text of its value
pub text_so : (r : Response) (d : Data) (text : List ℕ) → d ≡ response_data r → (has_float d ≡ false → text ≡ compact_text d) → text ≡ response_text r
text_so r d text is h = h (ap (λ (x : Data). has_float x) is ∙ no_float r) ∙ ap (λ (x : Data). compact_text x) is
