-- The table of options, one row an option: its long names, its short one, what it is, what it takes, in which form, and its variable.
use Rattle.std.specs.Prelude.{ℕ, Bool, false, ◌||◌, ◌==◌, nat_lt, if◌then◌else◌, List, [], ◌∷◌, ◌++◌, Option, Some, None, codes, bytes_eq}
use Rattle.just_config_words.specs.declared.table.Row.{Row}
use Rattle.just_config_words.specs.declared.entry.Entry.{Entry}
use Rattle.just_config_words.specs.declared.entry.Kind.{Kind}
use Rattle.just_config_words.specs.declared.entry.Kind.TheVariants as kind
use Rattle.just_config_words.specs.declared.entry.Values.{Values}
use Rattle.just_config_words.specs.declared.entry.Values.TheVariants as values
use Rattle.just_config_words.specs.declared.entry.Form.{Form}
use Rattle.just_config_words.specs.declared.entry.Form.TheVariants as form

-- ---- the letters of short names

abbrev pub capital_e : ℕ
capital_e = 69

abbrev pub capital_f : ℕ
capital_f = 70

abbrev pub capital_v : ℕ
capital_v = 86

abbrev pub letter_c : ℕ
letter_c = 99

abbrev pub letter_d : ℕ
letter_d = 100

abbrev pub letter_e : ℕ
letter_e = 101

abbrev pub letter_f : ℕ
letter_f = 102

abbrev pub letter_g : ℕ
letter_g = 103

abbrev pub letter_h : ℕ
letter_h = 104

abbrev pub letter_l : ℕ
letter_l = 108

abbrev pub letter_n : ℕ
letter_n = 110

abbrev pub letter_q : ℕ
letter_q = 113

abbrev pub letter_s : ℕ
letter_s = 115

abbrev pub letter_u : ℕ
letter_u = 117

abbrev pub letter_v : ℕ
letter_v = 118

-- ---- rows

-- an option, under its first long name; its other names; the variable that fills it
pub record TableRow : Type 0 where
  pub option : Entry
  pub other : Option (List ℕ)
  pub short : Option ℕ
  pub variable : Option (List ℕ)

abbrev pub row : List ℕ → Option (List ℕ) → Option ℕ → Kind → Values → Form → Option (List ℕ) → TableRow
row n o s k v f x = record { option = record { name = n; kind = k; values = v; form = f }; other = o; short = s; variable = x }

-- flags, and `--verbose`, which is counted
abbrev pub flags : List TableRow
flags =
    row (codes "allow-missing") None None kind.Flag values.Nothing form.Switch (Some (codes "JUST_ALLOW_MISSING"))
    ∷ row (codes "check") None None kind.Flag values.Nothing form.Switch None
    ∷ row (codes "clear-shell-args") None None kind.Flag values.Nothing form.Switch None
    ∷ row (codes "default-list") None None kind.Flag values.Nothing form.Switch (Some (codes "JUST_DEFAULT_LIST"))
    ∷ row (codes "dry-run") None (Some letter_n) kind.Flag values.Nothing form.Switch (Some (codes "JUST_DRY_RUN"))
    ∷ row (codes "explain") None None kind.Flag values.Nothing form.Switch (Some (codes "JUST_EXPLAIN"))
    ∷ row (codes "global-justfile") None (Some letter_g) kind.Flag values.Nothing form.Switch None
    ∷ row (codes "list-submodules") None None kind.Flag values.Nothing form.Switch (Some (codes "JUST_LIST_SUBMODULES"))
    ∷ row (codes "no-aliases") None None kind.Flag values.Nothing form.Switch (Some (codes "JUST_NO_ALIASES"))
    ∷ row (codes "no-cache") None None kind.Flag values.Nothing form.Switch (Some (codes "JUST_NO_CACHE"))
    ∷ row (codes "no-deps") (Some (codes "no-dependencies")) None kind.Flag values.Nothing form.Switch (Some (codes "JUST_NO_DEPS"))
    ∷ row (codes "no-dotenv") None None kind.Flag values.Nothing form.Switch (Some (codes "JUST_NO_DOTENV"))
    ∷ row (codes "one") None None kind.Flag values.Nothing form.Switch (Some (codes "JUST_ONE"))
    ∷ row (codes "quiet") None (Some letter_q) kind.Flag values.Nothing form.Switch (Some (codes "JUST_QUIET"))
    ∷ row (codes "shell-command") None None kind.Flag values.Nothing form.Switch None
    ∷ row (codes "unsorted") None (Some letter_u) kind.Flag values.Nothing form.Switch (Some (codes "JUST_UNSORTED"))
    ∷ row (codes "unstable") None None kind.Flag values.Nothing form.LooseSwitch (Some (codes "JUST_UNSTABLE"))
    ∷ row (codes "verbose") None (Some letter_v) kind.Counter values.Nothing form.Count (Some (codes "JUST_VERBOSE"))
    ∷ row (codes "yes") None None kind.Flag values.Nothing form.Switch (Some (codes "JUST_YES"))
    ∷ row (codes "complete-aliases") None None kind.Flag values.Nothing form.Switch None
    ∷ row (codes "highlight") None None kind.Flag values.Nothing form.Switch None
    ∷ row (codes "no-highlight") None None kind.Flag values.Nothing form.Switch None
    ∷ []

-- options with one value
abbrev pub one_values : List TableRow
one_values =
    row (codes "alias-style") None None kind.Single values.One form.AliasStyle (Some (codes "JUST_ALIAS_STYLE"))
    ∷ row (codes "ceiling") None None kind.Single values.One form.Text (Some (codes "JUST_CEILING"))
    ∷ row (codes "chooser") None None kind.Single values.One form.Text (Some (codes "JUST_CHOOSER"))
    ∷ row (codes "dump-format") None None kind.Single values.One form.DumpFormat (Some (codes "JUST_DUMP_FORMAT"))
    ∷ row (codes "evaluate-format") None None kind.Single values.One form.EvaluateFormat (Some (codes "JUST_EVALUATE_FORMAT"))
    ∷ row (codes "indentation") None None kind.Single values.One form.Indentation (Some (codes "JUST_INDENTATION"))
    ∷ row (codes "jobs") None None kind.Single values.One form.Jobs (Some (codes "JUST_JOBS"))
    ∷ row (codes "justfile") None (Some letter_f) kind.Single values.One form.Text (Some (codes "JUST_JUSTFILE"))
    ∷ row (codes "list-heading") None None kind.Single values.One form.Text (Some (codes "JUST_LIST_HEADING"))
    ∷ row (codes "list-prefix") None None kind.Single values.One form.Text (Some (codes "JUST_LIST_PREFIX"))
    ∷ row (codes "shell") None None kind.Single values.One form.Text None
    ∷ row (codes "tempdir") None None kind.Single values.One form.Text (Some (codes "JUST_TEMPDIR"))
    ∷ row (codes "working-directory") None (Some letter_d) kind.Single values.One form.Text (Some (codes "JUST_WORKING_DIRECTORY"))
    ∷ row (codes "color") None None kind.Single values.One form.Text None
    ∷ row (codes "command-color") None None kind.Single values.One form.Text None
    ∷ row (codes "cygpath") None None kind.Single values.One form.Text None
    ∷ []

-- options that may stand several times
abbrev pub repeated_values : List TableRow
repeated_values =
    row (codes "dotenv-command") None None kind.Repeatable values.One form.Text (Some (codes "JUST_DOTENV_COMMAND"))
    ∷ row (codes "dotenv-filename") None (Some capital_f) kind.Repeatable values.One form.Text None
    ∷ row (codes "dotenv-path") None (Some capital_e) kind.Repeatable values.One form.Text None
    ∷ row (codes "group") None None kind.Repeatable values.One form.Text (Some (codes "JUST_GROUP"))
    ∷ row (codes "justfile-name") None None kind.Repeatable values.One form.Text (Some (codes "JUST_JUSTFILE_NAME"))
    ∷ row (codes "shell-arg") None None kind.Repeatable values.Any form.Text None
    ∷ row (codes "set") None None kind.Repeatable values.Two form.Text None
    ∷ []

-- commands
abbrev pub commands : List TableRow
commands =
    row (codes "choose") None None kind.Command values.Nothing form.Text None
    ∷ row (codes "clean") None None kind.Command values.Following form.Text None
    ∷ row (codes "command") None (Some letter_c) kind.Command values.Rest form.Text None
    ∷ row (codes "dump") None None kind.Command values.Nothing form.Text None
    ∷ row (codes "edit") None (Some letter_e) kind.Command values.Nothing form.Text None
    ∷ row (codes "evaluate") (Some (codes "eval")) None kind.Command values.Nothing form.Text None
    ∷ row (codes "fmt") (Some (codes "format")) None kind.Command values.Nothing form.Text None
    ∷ row (codes "groups") None None kind.Command values.Nothing form.Text None
    ∷ row (codes "init") (Some (codes "initialize")) None kind.Command values.Nothing form.Text None
    ∷ row (codes "list") None (Some letter_l) kind.Command values.Following form.Text None
    ∷ row (codes "request") None None kind.Command values.One form.Text None
    ∷ row (codes "show") None (Some letter_s) kind.Command values.AtLeastOne form.Text None
    ∷ row (codes "summary") None None kind.Command values.Nothing form.Text None
    ∷ row (codes "usage") None None kind.Command values.AtLeastOne form.Text None
    ∷ row (codes "variables") None None kind.Command values.Nothing form.Text None
    ∷ row (codes "vectors") None None kind.Command values.One form.Vectors None
    ∷ []

-- what asks for the help or the version
abbrev pub questions : List TableRow
questions =
    row (codes "help") None (Some letter_h) kind.Help values.Nothing form.Text None
    ∷ row (codes "version") None (Some capital_v) kind.Version values.Nothing form.Text None
    ∷ []

-- options of `just` that aren't read here
abbrev pub left_out : List TableRow
left_out =
    row (codes "changelog") None None kind.LeftOut values.Nothing form.Text None
    ∷ row (codes "completions") None None kind.LeftOut values.Nothing form.Text None
    ∷ row (codes "json") None None kind.LeftOut values.Nothing form.Text None
    ∷ row (codes "man") None None kind.LeftOut values.Nothing form.Text None
    ∷ row (codes "time") None None kind.LeftOut values.Nothing form.Text None
    ∷ row (codes "timestamp") None None kind.LeftOut values.Nothing form.Text None
    ∷ row (codes "timestamp-format") None None kind.LeftOut values.Nothing form.Text None
    ∷ []

-- all of them, in their order
unfoldable pub table : List TableRow
table = flags ++ (one_values ++ (repeated_values ++ (commands ++ (questions ++ left_out))))

-- ---- looking options up

-- whether a text is there and is this one
abbrev pub is_text : Option (List ℕ) → List ℕ → Bool
is_text None name = false
is_text (Some text) name = bytes_eq text name

-- the option of a long name
abbrev pub entry_among : List TableRow → List ℕ → Option Entry
entry_among [] name = None
entry_among (r ∷ rs) name = if bytes_eq r.option.name name || is_text r.other name then Some r.option else entry_among rs name

abbrev pub is_letter : Option ℕ → ℕ → Bool
is_letter None c = false
is_letter (Some letter) c = letter == c

-- the option of a short name
abbrev pub lettered_among : List TableRow → ℕ → Option Entry
lettered_among [] c = None
lettered_among (r ∷ rs) c = if is_letter r.short c then Some r.option else lettered_among rs c

abbrev pub entry_named : List ℕ → Option Entry
entry_named name = entry_among table name

-- a letter is one of ASCII
abbrev pub entry_lettered : ℕ → Option Entry
entry_lettered c = if nat_lt c 128 then lettered_among table c else None

-- ---- a row as the code has it

abbrev pub text_in : Row → Option (List ℕ)
text_in r = elim r.variable [ None ↦ None | Some v ↦ Some v.now ]

abbrev pub other_in : Row → Option (List ℕ)
other_in r = elim r.other [ None ↦ None | Some v ↦ Some v.now ]

abbrev pub row_of : Row → TableRow
row_of r = row r.name.now (other_in r) r.short r.kind r.values r.form (text_in r)
