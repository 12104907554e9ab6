-- How many values the kinds of parameters take.
use Rattle.std.specs.Prelude.{Bool, true, false}
use Rattle.just_lang_syntax.specs.declared.ast.ParameterKind.{ParameterKind}
use Rattle.just_lang_syntax.specs.declared.ast.ParameterKind.TheVariants.{Singular, Plus, Star}

-- a `+` and a `*` take several
abbrev pub is_variadic : ParameterKind → Bool
is_variadic Singular = false
is_variadic Plus = true
is_variadic Star = true
