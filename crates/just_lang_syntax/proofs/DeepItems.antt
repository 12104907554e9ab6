-- Entries that hold an expression that is too deep: the code finds so exactly those that the grammar says do.
use Rattle.std.proofs.Common.{◌≡◌, ◌↔◌, ℕ, Bool, true, false, List, [], Option, Some, None, Err, codes, refl, ap, ◌∙◌, ⊎_elim}
use Rattle.just_lang_read.specs.Place.{Place, begins}
use Rattle.just_lang_read.specs.declared.error.ReadError.TheVariants.{Depth}
use Rattle.just_lang_read.proofs.Laws.{choose}
use Rattle.just_lang_syntax.specs.declared.ast.Name.{Name}
use Rattle.just_lang_syntax.specs.declared.ast.Attribute.{Attribute}
use Rattle.just_lang_syntax.specs.declared.form.Sort.{Sort}
use Rattle.just_lang_syntax.specs.declared.form.Sort.TheVariants as sort
use Rattle.just_lang_syntax.specs.declared.item.Opening.{Opening}
use Rattle.just_lang_syntax.specs.declared.item.Opening.TheVariants as opening
use Rattle.just_lang_syntax.specs.declared.entry.Body.{Body}
use Rattle.just_lang_read.specs.Lines.{skip, is_blank_line, IsToken}
use Rattle.just_lang_syntax.specs.Places.{IsName}
use Rattle.just_lang_syntax.specs.Forms.{sort_of}
use Rattle.just_lang_syntax.specs.Attributes.{AreAttributes}
use Rattle.just_lang_syntax.specs.Bodies.{is_body_line}
use Rattle.just_lang_syntax.specs.Items.{opening_at, opens_module}
use Rattle.just_lang_syntax.specs.File.{indentation_at, goes_into}
use Rattle.just_lang_syntax.specs.Deep.{IsDeepExpr, IsDeepAssignment, IsDeepSetting, IsDeepItem, IsDeepRecipeLine, IsDeepEntry}
use Rattle.just_lang_syntax.specs.Deep.IsDeepAssignment.{assignment}
use Rattle.just_lang_syntax.specs.Deep.IsDeepSetting.{text, any_text}
use Rattle.just_lang_syntax.specs.Deep.IsDeepItem.{assignment as assignment_item, export, setting, attributes, recipe}
use Rattle.just_lang_syntax.specs.Deep.IsDeepEntry.{line, item as item_entry}
use Rattle.just_lang_syntax.specs.ItemReaders as item
use Rattle.just_lang_syntax.specs.Readers as reader
use Rattle.just_lang_read.specs.Tokens as tokens
use Rattle.just_lang_syntax.proofs.Tokens.{token_ok, token_again, name_ok, name_again}
use Rattle.just_lang_syntax.proofs.AttributeSound.{attributes_ok}
use Rattle.just_lang_syntax.proofs.AttributeComplete.{attributes_again}
use Rattle.just_lang_syntax.proofs.DeepChains.{shallow_ok, shallow_refuse, shallow_gives, depth_either, depth_behind, depth_first}
use Rattle.just_lang_syntax.proofs.DeepNone.{token_shallow, name_shallow, newline_shallow, comment_shallow, rest_shallow, alias_shallow, import_shallow, module_shallow, unexport_shallow, truth_shallow, strings_shallow}
use Rattle.just_lang_syntax.proofs.DeepExpr.{expr_deep_ok, expr_deep_again}
use Rattle.just_lang_syntax.proofs.DeepAttributes.{attributes_deep_ok, attributes_deep_again}
use Rattle.just_lang_syntax.proofs.DeepRecipes.{recipe_line_deep_ok, recipe_line_deep_again}
use Rattle.just_lang_syntax.proofs.DeepBodies.{body_line_deep_ok, body_line_deep_again}

-- ---- items that are found too deep

-- an assignment that the code finds too deep is
assignment_deep_ok : (export : Bool) (p : Place) → item.assignment export p ≡ Err Depth → IsDeepAssignment p
unfolding item.assignment
assignment_deep_ok b p h =
    let (name, m, i, k) = depth_behind (reader.name p) _ (name_shallow p) h in
    let (u, n, t, j) = depth_behind (tokens.token (codes ":=") m) _ (token_shallow (codes ":=") m) k in
    assignment m n name (name_ok p name m i) (token_ok (codes ":=") m u n t)
    (expr_deep_ok n (depth_first (item.expr n) _ (λ x o l. shallow_gives (reader.rest o) _ (rest_shallow o) l) j))

-- a value that isn't there is not too deep
absent_shallow : (s : Sort) (p : Place) → item.absent s p ≡ Err Depth → ⊥
absent_shallow sort.Flag p h = shallow_ok _ h
absent_shallow sort.Text p h = shallow_refuse p h
absent_shallow sort.List p h = shallow_refuse p h
absent_shallow sort.Open p h = shallow_ok _ h

-- nor is a list of strings
list_shallow : (p : Place) → item.list_value p ≡ Err Depth → ⊥
list_shallow p h = shallow_gives (item.strings p) _ (strings_shallow p) h

-- a text that the code finds too deep is
text_value_deep_ok : (p : Place) → item.text_value p ≡ Err Depth → IsDeepExpr p
text_value_deep_ok p h = expr_deep_ok p (depth_first (item.expr p) _ (λ x m j. shallow_ok _ j) h)

-- a setting whose value the code finds too deep is
value_deep_ok : (s : Sort) (p m n o : Place) (name : Name) → IsToken (codes "set") p m → IsName m n name → IsToken (codes ":=") n o → sort_of name.text ≡ s
    → item.value_of s o ≡ Err Depth → IsDeepSetting p
value_deep_ok sort.Flag p m n o name t i u e h = absurd (shallow_gives (item.truth o) _ (truth_shallow o) h)
value_deep_ok sort.Text p m n o name t i u e h = text m n o name t i u e (text_value_deep_ok o h)
value_deep_ok sort.List p m n o name t i u e h = absurd (list_shallow o h)
value_deep_ok sort.Open p m n o name t i u e h =
    ⊎_elim (λ (s : _). absurd (list_shallow o s.1)) (λ (s : _). any_text m n o name t i u e s.0 (text_value_deep_ok o s.1))
    (choose (begins (codes "[") o) _ _ (Err Depth) h)

-- with the sign in front of the value
setting_value_deep_ok : (p m n : Place) (name : Name) → IsToken (codes "set") p m → IsName m n name → item.setting_value (sort_of name.text) n ≡ Err Depth
    → IsDeepSetting p
unfolding item.setting_value
setting_value_deep_ok p m n name t i h =
    ⊎_elim
    (λ (s : _).
    let (u, o, c, k) = depth_behind (tokens.token (codes ":=") n) _ (token_shallow (codes ":=") n) s.1 in
    value_deep_ok (sort_of name.text) p m n o name t i (token_ok (codes ":=") n u o c) refl
    (depth_first (item.value_of (sort_of name.text) o) _ (λ x r j. shallow_ok _ j) k))
    (λ (s : _). absurd (absent_shallow (sort_of name.text) n s.1))
    (choose (begins (codes ":=") n) _ _ (Err Depth) h)

-- a setting that the code finds too deep is
setting_deep_ok : (p : Place) → item.setting_item p ≡ Err Depth → IsDeepSetting p
unfolding item.setting_item
setting_deep_ok p h =
    let (u, m, t, k) = depth_behind (tokens.token (codes "set") p) _ (token_shallow (codes "set") p) h in
    let (name, n, i, j) = depth_behind (reader.name m) _ (name_shallow m) k in
    setting_value_deep_ok p m n name (token_ok (codes "set") p u m t) (name_ok m name n i)
    (depth_first (item.setting_value (sort_of name.text) n) _ (λ x o l. shallow_gives (reader.rest o) _ (rest_shallow o) l) j)

-- attributes and a recipe line that the code finds too deep are
attributed_deep_ok : (p : Place) → opening_at p ≡ opening.Recipe → item.attributed p ≡ Err Depth → IsDeepItem p
unfolding item.attributed
attributed_deep_ok p e h =
    ⊎_elim (λ (s : _). attributes e (attributes_deep_ok p s))
    (λ (s : _).
    let (xs, m, i, k) = s in
    ⊎_elim (λ (t : _). absurd (shallow_gives (item.module_item xs m) _ (module_shallow xs m) t.1))
    (λ (t : _).
    recipe m xs e (attributes_ok p m xs i) t.0
    (recipe_line_deep_ok xs m (depth_first (item.recipe_line xs m) _ (λ x n j. shallow_ok _ j) t.1)))
    (choose (opens_module m) _ _ (Err Depth) k))
    (depth_either (item.attributes p) _ h)

-- an item of each opening that the code finds too deep is
item_of_deep_ok : (o : Opening) (p : Place) → opening_at p ≡ o → item.item_of o p ≡ Err Depth → IsDeepItem p
item_of_deep_ok opening.Comment p e h = absurd (shallow_gives (reader.comment p) _ (comment_shallow p) h)
item_of_deep_ok opening.Alias p e h = absurd (shallow_gives (item.alias p) _ (alias_shallow p) h)
item_of_deep_ok opening.Import p e h = absurd (shallow_gives (item.import p) _ (import_shallow p) h)
item_of_deep_ok opening.Module p e h = absurd (shallow_gives (item.module_item [] p) _ (module_shallow [] p) h)
item_of_deep_ok opening.Export p e h =
    let (u, m, t, k) = depth_behind (tokens.token (codes "export") p) _ (token_shallow (codes "export") p) h in
    export m e (token_ok (codes "export") p u m t) (assignment_deep_ok true m (depth_first (item.assignment true m) _ (λ x n j. shallow_ok _ j) k))
item_of_deep_ok opening.Assignment p e h = assignment_item e (assignment_deep_ok false p (depth_first (item.assignment false p) _ (λ x n j. shallow_ok _ j) h))
item_of_deep_ok opening.Unexport p e h = absurd (shallow_gives (item.unexport p) _ (unexport_shallow p) h)
item_of_deep_ok opening.Setting p e h = setting e (setting_deep_ok p (depth_first (item.setting_item p) _ (λ x n j. shallow_ok _ j) h))
item_of_deep_ok opening.Recipe p e h = attributed_deep_ok p e h

-- an item that the code finds too deep is
pub item_deep_ok : (p : Place) → item.item_at p ≡ Err Depth → IsDeepItem p
unfolding item.item_at
item_deep_ok p h = item_of_deep_ok (opening_at p) p refl h

-- ---- items that are too deep are found so

-- an assignment that is too deep is found so
assignment_deep_again : (export : Bool) (p : Place) → IsDeepAssignment p → item.assignment export p ≡ Err Depth
unfolding item.assignment
assignment_deep_again b p (assignment m n name i t d) = rw (name_again p m name i, token_again (codes ":=") m n t, expr_deep_again n d) refl

-- a text that is too deep is found so
text_value_deep_again : (p : Place) → IsDeepExpr p → item.text_value p ≡ Err Depth
text_value_deep_again p d = rw (expr_deep_again p d) refl

-- the text of an unknown setting too
open_value_deep_again : (p : Place) → begins (codes "[") p ≡ false → IsDeepExpr p → item.open_value p ≡ Err Depth
open_value_deep_again p n d = rw n (text_value_deep_again p d)

-- with the sign in front of the value
setting_value_deep_again : (s : Sort) (p m : Place) → IsToken (codes ":=") p m → item.value_of s m ≡ Err Depth → item.setting_value s p ≡ Err Depth
unfolding item.setting_value
setting_value_deep_again s p m t h = rw (t.0, token_again (codes ":=") p m t, h) refl

-- with the name in front of the sign
named_deep_again : (p m n : Place) (name : Name) → IsToken (codes "set") p m → IsName m n name → item.setting_value (sort_of name.text) n ≡ Err Depth
    → item.setting_item p ≡ Err Depth
unfolding item.setting_item
named_deep_again p m n name t i h = rw (token_again (codes "set") p m t, name_again m n name i, h) refl

-- a setting that is too deep is found so
setting_deep_again : (p : Place) → IsDeepSetting p → item.setting_item p ≡ Err Depth
setting_deep_again p (text m n o name t i u e d) =
    named_deep_again p m n name t i
    (setting_value_deep_again (sort_of name.text) n o u (ap (λ (s : Sort). item.value_of s o) e ∙ text_value_deep_again o d))
setting_deep_again p (any_text m n o name t i u e b d) =
    named_deep_again p m n name t i
    (setting_value_deep_again (sort_of name.text) n o u (ap (λ (s : Sort). item.value_of s o) e ∙ open_value_deep_again o b d))

-- attributes that are too deep come first
attributes_first_again : (p : Place) → item.attributes p ≡ Err Depth → item.attributed p ≡ Err Depth
unfolding item.attributed
attributes_first_again p h = rw h refl

-- a recipe line behind attributes that is too deep is found so
recipe_deep_again : (p m : Place) (xs : List Attribute) → AreAttributes p m xs → opens_module m ≡ false → IsDeepRecipeLine m → item.attributed p ≡ Err Depth
unfolding item.attributed
recipe_deep_again p m xs are n d = rw (attributes_again p m xs are, n, recipe_line_deep_again xs m d) refl

-- an item that is too deep is found so by its opening
item_of_deep_again : (p : Place) → IsDeepItem p → item.item_of (opening_at p) p ≡ Err Depth
item_of_deep_again p (assignment_item e d) = ap (λ (o : Opening). item.item_of o p) e ∙ rw (assignment_deep_again false p d) refl
item_of_deep_again p (export m e t d) =
    ap (λ (o : Opening). item.item_of o p) e ∙ rw (token_again (codes "export") p m t, assignment_deep_again true m d) refl
item_of_deep_again p (setting e d) = ap (λ (o : Opening). item.item_of o p) e ∙ rw (setting_deep_again p d) refl
item_of_deep_again p (attributes e d) = ap (λ (o : Opening). item.item_of o p) e ∙ attributes_first_again p (attributes_deep_again p d)
item_of_deep_again p (recipe m xs e are n d) = ap (λ (o : Opening). item.item_of o p) e ∙ recipe_deep_again p m xs are n d

-- an item that is too deep is found so
pub item_deep_again : (p : Place) → IsDeepItem p → item.item_at p ≡ Err Depth
unfolding item.item_at
item_deep_again p d = item_of_deep_again p d

-- ---- entries

-- a blank line is not too deep
blank_shallow : (p : Place) → tokens.blank_line p ≡ Err Depth → ⊥
unfolding tokens.blank_line
blank_shallow p h = newline_shallow (skip p) h

-- an entry that is an item and is found too deep is
entry_item_deep_ok : (p : Place) → item.entry_item p ≡ Err Depth → IsDeepItem p
entry_item_deep_ok p h = item_deep_ok p (depth_first (item.item_at p) _ (λ x m j. shallow_ok _ j) h)

-- a line of a body or an item that is found too deep is
in_body_deep_ok : (o : Option (List ℕ)) (b : Body) (p : Place) → is_blank_line p ≡ false → indentation_at b p ≡ o → item.in_body o p ≡ Err Depth → IsDeepEntry b p
in_body_deep_ok None b p n e h = item_entry n (ap (λ (o : Option (List ℕ)). goes_into o p) e) (entry_item_deep_ok p h)
in_body_deep_ok (Some indentation) b p n e h =
    ⊎_elim
    (λ (s : _).
    line indentation n e (body_line_deep_ok indentation p s.0 (depth_first (item.body_line indentation p) _ (λ x m j. shallow_ok _ j) s.1)))
    (λ (s : _). item_entry n (ap (λ (o : Option (List ℕ)). goes_into o p) e ∙ s.0) (entry_item_deep_ok p s.1))
    (choose (is_body_line indentation p) _ _ (Err Depth) h)

-- an entry that the code finds too deep is
pub entry_deep_ok : (b : Body) (p : Place) → item.entry_at b p ≡ Err Depth → IsDeepEntry b p
unfolding item.entry_at
entry_deep_ok b p h =
    ⊎_elim (λ (s : _). absurd (shallow_gives (tokens.blank_line p) _ (blank_shallow p) s.1))
    (λ (s : _). in_body_deep_ok (indentation_at b p) b p s.0 refl s.1)
    (choose (is_blank_line p) _ _ (Err Depth) h)

-- an entry that is an item and is too deep is found so
entry_item_deep_again : (p : Place) → IsDeepItem p → item.entry_item p ≡ Err Depth
entry_item_deep_again p d = rw (item_deep_again p d) refl

-- a line of a body that is too deep is found so
line_deep_again : (indentation : List ℕ) (p : Place) → is_body_line indentation p ≡ true → item.body_line indentation p ≡ Err Depth
    → item.line_or_item indentation p ≡ Err Depth
line_deep_again indentation p b h = rw (b, h) refl

-- an item that is too deep is found so where no line of the body stands
not_line_again : (o : Option (List ℕ)) (p : Place) → goes_into o p ≡ false → IsDeepItem p → item.in_body o p ≡ Err Depth
not_line_again None p n d = entry_item_deep_again p d
not_line_again (Some indentation) p n d = rw n (entry_item_deep_again p d)

-- what is found too deep where no blank line stands is so as an entry
in_body_deep_again : (b : Body) (p : Place) → is_blank_line p ≡ false → item.in_body (indentation_at b p) p ≡ Err Depth → item.entry_at b p ≡ Err Depth
unfolding item.entry_at
in_body_deep_again b p n h = rw n h

-- an entry that is too deep is found so
pub entry_deep_again : (b : Body) (p : Place) → IsDeepEntry b p → item.entry_at b p ≡ Err Depth
entry_deep_again b p (line indentation n e d) =
    let (i, h) = body_line_deep_again indentation p d in
    in_body_deep_again b p n (ap (λ (o : Option (List ℕ)). item.in_body o p) e ∙ line_deep_again indentation p i h)
entry_deep_again b p (item_entry n w d) = in_body_deep_again b p n (not_line_again (indentation_at b p) p w d)

-- so the code finds too deep exactly what is
pub entry_deep_is : (b : Body) (p : Place) → (item.entry_at b p ≡ Err Depth) ↔ IsDeepEntry b p
entry_deep_is b p = (entry_deep_ok b p, entry_deep_again b p)
