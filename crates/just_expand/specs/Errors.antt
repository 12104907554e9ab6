-- The texts of the errors, over that of the context's error.
use Rattle.std.specs.Prelude.{ℕ, List, ◌++◌, Option, Some, codes, string_bytes}
use Rattle.std.specs.Fmt.{option_append}
use Rattle.just_expand.specs.declared.error.LookupError.{LookupError}
use Rattle.just_expand.specs.declared.error.Expand.{Expand}
use Rattle.just_expand.specs.declared.error.Expand.TheVariants as expand

-- the text of an error at a name: the name, and then the text of its cause
abbrev pub lookup_text : {E : Type 0} → (E → Option (List ℕ)) → LookupError E → Option (List ℕ)
lookup_text cause l = option_append (Some (codes "error looking key '" ++ (string_bytes l.var_name ++ codes "' up: "))) (cause l.cause)

-- the text of a refusal
abbrev pub expand_text : {E : Type 0} → (E → Option (List ℕ)) → Expand E → Option (List ℕ)
expand_text cause (expand.Lookup l) = lookup_text cause l
expand_text cause expand.NoMemory = Some (codes "out of memory")
