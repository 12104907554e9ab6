-- Versions in texts.
use Rattle.std.specs.Prelude.{ℕ, ◌&&◌, if◌then◌else◌, nat_le, List, ◌++◌, length, codes, Option, Some, None}
use Rattle.std.specs.Fmt.{decimal as digits_of}
use Rattle.just_config.specs.declared.version.Version.{Version}
use Rattle.just_config_words.specs.Cuts.{holds, before_first, behind_first}
use Rattle.just_lang_read.specs.Decimal.{decimal}

abbrev pub dot : ℕ
dot = 46

-- the number of a text of at most nine digits
abbrev pub number_of : List ℕ → Option ℕ
number_of t = if nat_le (length t) 9 then decimal t else None

abbrev pub three : Option ℕ → Option ℕ → Option ℕ → Option Version
three None y z = None
three (Some a) None z = None
three (Some a) (Some b) None = None
three (Some a) (Some b) (Some c) = Some (record { major = a; minor = b; patch = c })

-- the version of a text: three numbers with dots between
abbrev pub version_of : List ℕ → Option Version
version_of t =
    if holds dot t && holds dot (behind_first dot t)
    then three (number_of (before_first dot t)) (number_of (before_first dot (behind_first dot t))) (number_of (behind_first dot (behind_first dot t)))
    else None

-- a version as it is printed
abbrev pub version_text : Version → List ℕ
version_text v = digits_of v.major ++ (codes "." ++ (digits_of v.minor ++ (codes "." ++ digits_of v.patch)))
