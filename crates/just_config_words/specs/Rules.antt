-- Which options don't go together, and which need others.
use Rattle.std.specs.Prelude.{ℕ, Bool, false, ◌||◌, ◌&&◌, if◌then◌else◌, List, [], ◌∷◌, ◌++◌, Option, Some, None, codes, bytes_eq}
use Rattle.std.specs.List.{list_any}
use Rattle.just_path_text.specs.Environ.{or_else}
use Rattle.just_config_words.specs.declared.occurrence.Occurrence.{Occurrence}
use Rattle.just_config_words.specs.Kinds.{is_command}

abbrev pub gives_command : Occurrence → Bool
gives_command o = is_command o.option.kind

-- whether the option's name is one of these
abbrev pub is_one_of : List (List ℕ) → Occurrence → Bool
is_one_of [] o = false
is_one_of (name ∷ names) o = bytes_eq o.option.name name || is_one_of names o

-- the word of the later one of two options of which the first test takes the one and the second the other; of several such pairs that of the
-- pair whose later word comes first. The first list has the options before
abbrev pub later_word : (Occurrence → Bool) → (Occurrence → Bool) → List Occurrence → List Occurrence → Option (List ℕ)
later_word p q before [] = None
later_word p q before (o ∷ os) = if (p o && list_any q before) || (q o && list_any p before) then Some o.word else later_word p q (before ++ o ∷ []) os

abbrev pub together : (Occurrence → Bool) → (Occurrence → Bool) → List Occurrence → Option (List ℕ)
together p q given = later_word p q [] given

abbrev pub first_word : List (List ℕ) → Option (List ℕ)
first_word [] = None
first_word (w ∷ ws) = Some w

-- the commands that take no positional words
abbrev pub without_positional : List (List ℕ)
without_positional = codes "clean" ∷ codes "list" ∷ codes "show" ∷ codes "usage" ∷ []

abbrev pub dotenv_others : List (List ℕ)
dotenv_others = codes "dotenv-filename" ∷ codes "dotenv-path" ∷ codes "no-dotenv" ∷ []

-- the word of the first rule that is broken: two commands; options that don't go together; one of some commands, and positional words
abbrev pub conflict : List Occurrence → List (List ℕ) → Option (List ℕ)
conflict given positional =
    or_else (together gives_command gives_command given)
    (or_else (together (is_one_of (codes "alias-style" ∷ [])) (is_one_of (codes "no-aliases" ∷ [])) given)
    (or_else (together (is_one_of (codes "dotenv-command" ∷ [])) (is_one_of dotenv_others) given)
    (or_else (together (is_one_of (codes "dotenv-filename" ∷ [])) (is_one_of (codes "dotenv-path" ∷ [])) given)
    (or_else (together (is_one_of (codes "dry-run" ∷ [])) (is_one_of (codes "quiet" ∷ [])) given)
    (or_else (together (is_one_of (codes "global-justfile" ∷ [])) (is_one_of (codes "justfile" ∷ codes "working-directory" ∷ [])) given)
    (if list_any (is_one_of without_positional) given then first_word positional else None))))))

-- the word of the first option of these names
abbrev pub word_of : List (List ℕ) → List Occurrence → Option (List ℕ)
word_of names [] = None
word_of names (o ∷ os) = if is_one_of names o then Some o.word else word_of names os

-- the word of the first of these options, where the other isn't given
abbrev pub alone : List (List ℕ) → List (List ℕ) → List Occurrence → Option (List ℕ)
alone names others given = if list_any (is_one_of others) given then None else word_of names given

-- the word of the first option that stands without one that it needs; the last rule also counts what variables fill in
abbrev pub missing : List Occurrence → List Occurrence → Option (List ℕ)
missing given filled =
    or_else (alone (codes "check" ∷ []) (codes "fmt" ∷ []) given)
    (or_else (alone (codes "group" ∷ codes "list-submodules" ∷ []) (codes "list" ∷ []) given)
    (or_else (alone (codes "shell-command" ∷ []) (codes "command" ∷ []) given)
    (alone (codes "working-directory" ∷ []) (codes "justfile" ∷ []) filled)))
