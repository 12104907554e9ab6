-- The comments directly above recipes and modules.
use Rattle.std.specs.Prelude.{◌≡◌, ℕ, nat_eq, ◌&&◌, Bool, false, if◌then◌else◌, List, [], ◌∷◌, Option, Some, None, option_map}
use Rattle.std.specs.Option.{option_and_then, option_copied, unwrap_or}
use Rattle.std.specs.Ordering.{nat_cmp, ordering_then}
use Rattle.std.specs.BTreeMap.{BTreeMap, get_by}
use denote.Ref.{Bor}
use Rattle.just_lang_read.specs.Characters.{is_blank}
use Rattle.just_lang_read.specs.Prefixes.{behind_sign}
use Rattle.just_lang_syntax.specs.declared.ast.AstItem.{AstItem}
use Rattle.just_lang_syntax.specs.declared.ast.AstItem.TheVariants as item
use Rattle.just_lang_syntax.specs.declared.ast.Name.{Name}
use Rattle.just_lang_shapes.specs.declared.comments.Comments.{Comments}

-- ---- what a comment says

abbrev pub without_blanks : List ℕ → List ℕ
without_blanks [] = []
without_blanks (c ∷ cs) = if is_blank c then without_blanks cs else c ∷ cs

-- the text behind the `#` and the blanks there
abbrev pub said_by : List ℕ → List ℕ
said_by text = without_blanks (unwrap_or (behind_sign 35 text) text)

-- what an item says of the one below it: a comment does
abbrev pub said_in : AstItem → Option (List ℕ)
said_in (item.Comment text) = Some (said_by text)
said_in item.Blank = None
said_in (item.Alias name target comment) = None
said_in (item.Import optional path comment) = None
said_in (item.Module attributes optional name path comment) = None
said_in (item.Assignment export name value comment) = None
said_in (item.Unexport name comment) = None
said_in (item.Setting name value comment) = None
said_in (item.Recipe r) = None

-- ---- the comment above

abbrev pub is_place_of : ℕ × ℕ → Name → Bool
is_place_of place n = nat_eq n.line place.0 && nat_eq n.column place.1

-- whether a place is that of the name of a recipe or a module
abbrev pub is_at : ℕ × ℕ → AstItem → Bool
is_at place (item.Recipe r) = is_place_of place r.name
is_at place (item.Module attributes optional name path comment) = is_place_of place name
is_at place item.Blank = false
is_at place (item.Comment text) = false
is_at place (item.Alias name target comment) = false
is_at place (item.Import optional path comment) = false
is_at place (item.Assignment export name value comment) = false
is_at place (item.Unexport name comment) = false
is_at place (item.Setting name value comment) = false

abbrev pub or_here : Bool → Option (List ℕ) → Option (Option (List ℕ)) → Option (Option (List ℕ))
or_here is_it above (Some found) = Some found
or_here is_it above None = if is_it then Some above else None

-- what stands directly above the item at a place, where there is one; `above` stands directly above the first item
abbrev pub above_from : Option (List ℕ) → List AstItem → ℕ × ℕ → Option (Option (List ℕ))
above_from above [] place = None
above_from above (x ∷ xs) place = or_here (is_at place x) above (above_from (said_in x) xs place)

abbrev pub flat : Option (Option (List ℕ)) → Option (List ℕ)
flat found = option_and_then (λ (above : Option (List ℕ)). above) found

-- what the comment says that stands directly above the recipe or module of that name; none where none does
abbrev pub comment_above : List AstItem → Name → Option (List ℕ)
comment_above items n = flat (above_from None items (n.line, n.column))

-- ---- what the code keeps

-- what a table has for a place
abbrev pub found_at : BTreeMap (ℕ × ℕ) (Option (Bor (List ℕ))) → ℕ × ℕ → Option (Option (List ℕ))
found_at table place = option_map option_copied (get_by (λ (k : ℕ × ℕ). ordering_then (nat_cmp place.0 k.0) (nat_cmp place.1 k.1)) table)

-- what it has for the place of a name
abbrev pub comment_in : Comments → Name → Option (List ℕ)
comment_in comments n = flat (found_at comments.table (n.line, n.column))

-- it has for each name what the comment says that stands directly above the recipe or module of that name
abbrev pub AreComments : List AstItem → Comments → Type 0
AreComments items comments = (n : Name) → comment_in comments n ≡ comment_above items n
