-- The attributes, settings and keys that the grammar knows by name, and what it asks of each.
use Rattle.std.specs.Prelude.{ℕ, Bool, true, false, ◌||◌, if◌then◌else◌, List, [], ◌∷◌, ◌++◌, codes, bytes_eq}
use Rattle.just_lang_syntax.specs.declared.form.Form.{Form}
use Rattle.just_lang_syntax.specs.declared.form.Form.TheVariants.{Bare, MaybeText, Text, Texts, Arg, Cache, Open}
use Rattle.just_lang_syntax.specs.declared.form.KeyForm.{KeyForm}
use Rattle.just_lang_syntax.specs.declared.form.KeyForm.TheVariants.{Alone, Either, Value, Number, Unknown}
use Rattle.just_lang_syntax.specs.declared.form.Sort.{Sort}
use Rattle.just_lang_syntax.specs.declared.form.Sort.TheVariants as sort

-- whether a name is one of these
abbrev pub is_one_of : List (List ℕ) → List ℕ → Bool
is_one_of [] name = false
is_one_of (known ∷ others) name = bytes_eq name known || is_one_of others name

-- the attributes that have nothing behind their names
abbrev pub bare_attributes : List (List ℕ)
bare_attributes =
    codes "default" ∷ codes "exit-message" ∷ codes "no-cd" ∷ codes "no-exit-message" ∷ codes "no-quiet" ∷ codes "parallel" ∷ codes "positional-arguments"
    ∷ codes "private" ∷ codes "linux" ∷ codes "unix" ∷ codes "macos" ∷ codes "windows" ∷ codes "openbsd" ∷ codes "freebsd" ∷ codes "netbsd"
    ∷ codes "dragonfly" ∷ codes "android" ∷ []

-- what may stand behind the name of an attribute
abbrev pub form_of : List ℕ → Form
form_of name =
    if is_one_of (codes "confirm" ∷ codes "doc" ∷ []) name then MaybeText
    else (if is_one_of (codes "extension" ∷ codes "group" ∷ codes "working-directory" ∷ []) name then Text
    else (if bytes_eq name (codes "script") then Texts
    else (if bytes_eq name (codes "arg") then Arg
    else (if bytes_eq name (codes "cache") then Cache else (if is_one_of bare_attributes name then Bare else Open)))))

-- the attributes
abbrev pub attributes : List (List ℕ)
attributes =
    codes "confirm" ∷ codes "doc" ∷ codes "extension" ∷ codes "group" ∷ codes "working-directory" ∷ codes "script" ∷ codes "arg" ∷ codes "cache"
    ∷ bare_attributes

-- whether the form is that of an attribute which there is
abbrev pub is_known : Form → Bool
is_known Bare = true
is_known MaybeText = true
is_known Text = true
is_known Texts = true
is_known Arg = true
is_known Cache = true
is_known Open = false

-- whether an attribute of the form may have nothing behind its name
abbrev pub may_be_bare : Form → Bool
may_be_bare Bare = true
may_be_bare MaybeText = true
may_be_bare Text = false
may_be_bare Texts = true
may_be_bare Arg = false
may_be_bare Cache = false
may_be_bare Open = true

-- whether one string may stand behind a colon
abbrev pub has_colon : Form → Bool
has_colon Bare = false
has_colon MaybeText = true
has_colon Text = true
has_colon Texts = true
has_colon Arg = true
has_colon Cache = false
has_colon Open = true

-- what may stand behind a key of `arg`
abbrev pub key_form : List ℕ → KeyForm
key_form name =
    if is_one_of (codes "flag" ∷ codes "multiple" ∷ []) name then Alone
    else (if bytes_eq name (codes "long") then Either
    else (if is_one_of (codes "short" ∷ codes "value" ∷ codes "help" ∷ codes "pattern" ∷ []) name then Value
    else (if is_one_of (codes "min" ∷ codes "max" ∷ []) name then Number else Unknown)))

abbrev pub may_stand_alone : KeyForm → Bool
may_stand_alone Alone = true
may_stand_alone Either = true
may_stand_alone Value = false
may_stand_alone Number = false
may_stand_alone Unknown = false

abbrev pub has_text : KeyForm → Bool
has_text Alone = false
has_text Either = true
has_text Value = true
has_text Number = false
has_text Unknown = false

-- the keys of `cache`
abbrev pub is_cache_key : List ℕ → Bool
is_cache_key name = is_one_of (codes "inputs" ∷ codes "outputs" ∷ codes "extra" ∷ []) name

-- the settings that are flags
abbrev pub flags : List (List ℕ)
flags =
    codes "allow-duplicate-recipes" ∷ codes "allow-duplicate-variables" ∷ codes "default-list" ∷ codes "dotenv-load" ∷ codes "dotenv-override"
    ∷ codes "dotenv-required" ∷ codes "export" ∷ codes "fallback" ∷ codes "guards" ∷ codes "ignore-comments" ∷ codes "lists" ∷ codes "no-cd"
    ∷ codes "no-exit-message" ∷ codes "positional-arguments" ∷ codes "quiet" ∷ codes "unstable" ∷ codes "windows-powershell" ∷ []

-- the settings that are expressions
abbrev pub text_settings : List (List ℕ)
text_settings =
    codes "dotenv-command" ∷ codes "dotenv-filename" ∷ codes "dotenv-path" ∷ codes "indentation" ∷ codes "tempdir" ∷ codes "working-directory" ∷ []

-- the settings that are lists
abbrev pub list_settings : List (List ℕ)
list_settings = codes "shell" ∷ codes "script-interpreter" ∷ codes "windows-shell" ∷ []

-- the settings
abbrev pub settings : List (List ℕ)
settings = text_settings ++ (list_settings ++ flags)

-- whether the sort is that of a setting which there is
abbrev pub is_sorted : Sort → Bool
is_sorted sort.Flag = true
is_sorted sort.Text = true
is_sorted sort.List = true
is_sorted sort.Open = false

-- the sort of a setting
abbrev pub sort_of : List ℕ → Sort
sort_of name =
    if is_one_of text_settings name then sort.Text
    else (if is_one_of list_settings name then sort.List
    else (if is_one_of flags name then sort.Flag else sort.Open))

-- the settings and the attributes that are left out
abbrev pub is_left_out_setting : List ℕ → Bool
is_left_out_setting name = is_one_of (codes "lazy" ∷ codes "minimum-version" ∷ codes "default-script" ∷ []) name

abbrev pub is_left_out_attribute : List ℕ → Bool
is_left_out_attribute name = is_one_of (codes "env" ∷ codes "metadata" ∷ codes "timestamp" ∷ []) name
