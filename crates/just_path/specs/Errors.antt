-- What the errors of bytes that aren't UTF-8 show: where the bytes break, and the bytes.
use Rattle.std.specs.Prelude.{ℕ, List}
use Rattle.std.specs.declared.alloc.Global.{Global}
use Rattle.std.specs.declared.vec.Vec.{Vec}
use Rattle.just_path.specs.declared.broken.Broken.{Broken}
use Rattle.just_path.specs.declared.from_bytes_error.FromPathError.{FromPathError}
use Rattle.just_path.specs.declared.from_bytes_error.FromOsStrError.{FromOsStrError}
use Rattle.just_path.specs.declared.from_owned_error.FromPathBufError.{FromPathBufError}
use Rattle.just_path.specs.declared.from_owned_error.FromOsStringError.{FromOsStringError}
use Rattle.just_path.specs.declared.from_owned_error.FromBoxedPathError.{FromBoxedPathError}
use Rattle.just_path.specs.Utf8.{Breaks}

-- the bytes break at that place
abbrev pub BreaksAt : List ℕ → Broken → Type 0
BreaksAt bytes place = Breaks bytes place.up_to place.len

-- where borrowed bytes of a path break
abbrev pub path_place : FromPathError → Broken
path_place e = e.cause

-- where borrowed bytes of a system's text break
abbrev pub os_str_place : FromOsStrError → Broken
os_str_place e = e.cause

-- the bytes of a path that an error keeps, and where they break
abbrev pub path_buf_bytes : FromPathBufError → Vec ℕ Global
path_buf_bytes e = e.bytes

abbrev pub path_buf_place : FromPathBufError → Broken
path_buf_place e = e.cause

-- the same of a system's text
abbrev pub os_string_bytes : FromOsStringError → Vec ℕ Global
os_string_bytes e = e.bytes

abbrev pub os_string_place : FromOsStringError → Broken
os_string_place e = e.cause

-- the same of a boxed path
abbrev pub boxed_path_bytes : FromBoxedPathError → Vec ℕ Global
boxed_path_bytes e = e.bytes

abbrev pub boxed_path_place : FromBoxedPathError → Broken
boxed_path_place e = e.cause
