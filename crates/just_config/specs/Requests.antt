-- Requests and their answers, as JSON.
use Rattle.std.specs.Prelude.{ℕ, Bool, false, ◌==◌, if◌then◌else◌, ◌+◌, List, [], ◌∷◌, Option, Some, None, codes, is_some, option_and_then}
use Rattle.serde_json.specs.Data.{Data, Members, null, string, object, member, no_members}
use Rattle.serde_json.specs.Read.{read}
use Rattle.serde_json.specs.Written.{compact_text}
use Rattle.serde_json.specs.Find.{get, as_object, as_str}
use Rattle.just_config.specs.declared.request.Request.{Request}
use Rattle.just_config.specs.declared.request.Request.TheVariants as request
use Rattle.just_config.specs.declared.request.Response.{Response}
use Rattle.just_config.specs.declared.request.Response.TheVariants as response

abbrev pub field : List ℕ
field = codes "environment-variable"

abbrev pub count : Members → ℕ
count no_members = 0
count (member k d ms) = count ms + 1

-- the request for a variable of that name
abbrev pub for_variable : Option (List ℕ) → Option Request
for_variable None = None
for_variable (Some name) = Some (request.EnvironmentVariable name)

-- whether these are the fields of an object with one
abbrev pub is_one : Option Members → Bool
is_one None = false
is_one (Some ms) = count ms == 1

-- whether it is an object with one field
abbrev pub has_one_field : Data → Bool
has_one_field d = is_one (as_object d)

-- an object with the one field is a request, where that is a text
abbrev pub as_request : Data → Option Request
as_request d = if has_one_field d then for_variable (option_and_then as_str (get field d)) else None

abbrev pub request_of : List ℕ → Option Request
request_of t = option_and_then as_request (read t)

abbrev pub is_one_request : List (List ℕ) → Bool
is_one_request [] = false
is_one_request (t ∷ []) = is_some (request_of t)
is_one_request (t ∷ (u ∷ ts)) = false

abbrev pub text_or_null : Option (List ℕ) → Data
text_or_null None = null
text_or_null (Some t) = string t

abbrev pub response_data : Response → Data
response_data (response.EnvironmentVariable found) = object (member field (text_or_null found) no_members)

-- its text, as JSON in its shortest form
abbrev pub response_text : Response → List ℕ
response_text r = compact_text (response_data r)
