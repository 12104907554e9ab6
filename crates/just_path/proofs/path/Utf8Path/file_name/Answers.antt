-- The last component decides the file name.
use Rattle.std.proofs.Common.{◌∙◌, ap}
use Rattle.just_path.specs.Names.{file_name_of}
use Rattle.just_path.proofs.FileNames.{file_name_last, file_name_none}
use Rattle.just_path.proofs.path.Utf8Path.file_name.Goals as goal

pub returns-in-Some : goal.returns-in-Some
returns-in-Some c = c.name.ensures ∙ file_name_last _ _ _ c.in-Some.ensures ∙ ap file_name_of c.as_str.ensures

pub returns-in-None : goal.returns-in-None
returns-in-None c = file_name_none _ c.in-None.ensures ∙ ap file_name_of c.as_str.ensures
