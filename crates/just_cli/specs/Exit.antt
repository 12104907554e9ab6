-- The exit status of the program.
use Rattle.std.specs.Prelude.{ℕ, ◌≡◌, ◌&&◌, nat_lt, if◌then◌else◌, ℤ, pos, negsuc, List, [], Option, Some, None, Result, Ok, Err}
use Rattle.just_host_record.specs.declared.entry.Entry.{Entry}
use Rattle.just_cli.specs.declared.ended.Failure.{Failure}
use Rattle.just_cli.specs.declared.ended.Report.{Report}
use Rattle.just_cli.specs.Run.{IsEnded}
use Rattle.just_cli.specs.Words.{told_with}

-- a code as a status that tells a failure: the code itself, and 1 where it is none of 1 to 255
abbrev pub status_of_code : ℤ → ℕ
status_of_code (pos n) = if nat_lt 0 n && nat_lt n 256 then n else 1
status_of_code (negsuc n) = 1

-- 0 for a run that went well; else its failure's code
abbrev pub status_of : Result Report Failure → ℕ
status_of (Ok r) = 0
status_of (Err f) = status_of_code f.code

-- The exit status of a program whose words behind its name are these, and the record that its run left: that of the run that left it, over a host that
-- tells no world and had no record before; or 125, for want of memory, where there is no host.
pub data IsStatus (words : List (List ℕ)) (record_left : Option (List Entry)) (status : ℕ) : Type 0 where
  of_run : (result : Result Report Failure) (new : List Entry) → record_left ≡ Some new → IsEnded words (told_with None []) (told_with None new) result → status ≡ status_of result
      → IsStatus words record_left status
  no_memory : record_left ≡ None → status ≡ 125 → IsStatus words record_left status
