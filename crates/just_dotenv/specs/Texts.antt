-- The texts of refusals.
use Rattle.std.specs.Prelude.{ℕ, ◌++◌, List, codes, decimal}
use Rattle.just_dotenv.specs.declared.error.DotenvError.{DotenvError}
use Rattle.just_dotenv.specs.declared.error.DotenvError.TheVariants as error

-- what a refusal is printed as
abbrev pub error_text : DotenvError → List ℕ
error_text (error.Line n) = codes "line " ++ decimal n
error_text error.NoMemory = codes "out of memory"
