-- What sources come to is one thing.
use Rattle.std.specs.Prelude.{◌≡◌, ◌≢◌, List, [], ◌∷◌}
use Rattle.just_lang_types.specs.declared.error.CompileError.{CompileError}
use Rattle.just_lang_types.specs.declared.error.CompileKind.TheVariants as kind
use Rattle.just_lang_types.specs.declared.project.Justfile.{Justfile}
use Rattle.just_lang_types.specs.declared.project.LangError.{LangError}
use Rattle.just_lang_types.specs.declared.project.LangError.TheVariants as error
use Rattle.just_lang_types.specs.declared.source.Source.{Source}
use Rattle.just_lang_layout.specs.Paths.{Pairs}
use Rattle.just_lang_types.specs.Modules.{AreModules}
use Rattle.just_lang.specs.Projects.{IsFirstError}
use Rattle.just_lang.specs.Assembled.{IsJustfileOfSources}

-- an error that sources determine: it doesn't say of a pattern that it is too big, which the library decides
abbrev pub IsDetermined : LangError → Type 0
IsDetermined e = (c : CompileError) → e ≡ error.Compile c → c.kind ≢ kind.ArgumentPatternSize

pub record ProjectsAgree : Type 0 where
  -- sources make one justfile
  pub justfiles : (sources : List Source) (environ : Pairs) (j k : Justfile) → IsJustfileOfSources sources environ j → IsJustfileOfSources sources environ k → j ≡ k
  -- which has its modules in one order
  pub modules : (j : Justfile) (all others : List Justfile) → AreModules (j ∷ []) all → AreModules (j ∷ []) others → all ≡ others
  -- they break one first rule
  pub errors : (sources : List Source) (environ : Pairs) (e f : LangError) → IsFirstError sources environ e → IsFirstError sources environ f → IsDetermined e → IsDetermined f → e ≡ f
  -- and never do both
  pub either : (sources : List Source) (environ : Pairs) (j : Justfile) (e : LangError) → IsJustfileOfSources sources environ j → IsFirstError sources environ e → IsDetermined e → ⊥
