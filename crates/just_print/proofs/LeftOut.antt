-- Whether a tree has a left-out setting or attribute is a matter of its shape.
use Rattle.std.proofs.Common.{◌≡◌, ◌∙◌, Bool, true, false, ◌&&◌, if◌then◌else◌, List, [], ◌∷◌, map, Option, Some, None, refl, sym, ap}
use Rattle.std.specs.Option.{option_map}
use Rattle.just_lang_syntax.specs.declared.ast.Name.{Name}
use Rattle.just_lang_syntax.specs.declared.ast.Attribute.{Attribute}
use Rattle.just_lang_syntax.specs.declared.ast.AstItem.{AstItem}
use Rattle.just_lang_syntax.specs.declared.ast.AstItem.TheVariants as item
use Rattle.just_lang_syntax.specs.Forms.{is_left_out_setting, is_left_out_attribute}
use Rattle.just_lang_syntax.specs.File.{first_of, left_out_among, left_out_of, first_left_out}
use Rattle.just_print.specs.Printed.{is_blank_item, one_blank}
use Rattle.just_print.specs.Shapes.{bare_name, bare_attribute, bare_item, shape, SameShape}

-- one of two, without places
pick : (b : Bool) (n : Name) (o : Option Name) → option_map bare_name (if b then Some n else o) ≡ (if b then Some (bare_name n) else option_map bare_name o)
pick true n o = refl
pick false n o = refl

-- the first of two, without places
first_bare : (a o : Option Name) → option_map bare_name (first_of a o) ≡ first_of (option_map bare_name a) (option_map bare_name o)
first_bare None o = refl
first_bare (Some n) o = refl

-- the left-out attribute without its place is that of the attributes without places
among_bare : (xs : List Attribute) → option_map bare_name (left_out_among xs) ≡ left_out_among (map bare_attribute xs)
among_bare [] = refl
among_bare (x ∷ xs) =
    pick (is_left_out_attribute x.name.text) x.name (left_out_among xs)
    ∙ ap (λ (o : Option Name). if is_left_out_attribute x.name.text then Some (bare_name x.name) else o) (among_bare xs)

-- and so of an item
of_bare : (x : AstItem) → option_map bare_name (left_out_of x) ≡ left_out_of (bare_item x)
of_bare item.Blank = refl
of_bare (item.Comment text) = refl
of_bare (item.Alias name target comment) = refl
of_bare (item.Import optional path comment) = refl
of_bare (item.Module attributes optional name path comment) = among_bare attributes
of_bare (item.Assignment export name value comment) = refl
of_bare (item.Unexport name comment) = refl
of_bare (item.Setting name value comment) = pick (is_left_out_setting name.text) name None
of_bare (item.Recipe x) = among_bare x.attributes

-- a blank line has none
blank_has_none : (x : AstItem) → is_blank_item x ≡ true → left_out_of x ≡ None
blank_has_none item.Blank h = refl
blank_has_none (item.Comment text) h = absurd (let no : ⊥ = cc in no)
blank_has_none (item.Alias name target comment) h = absurd (let no : ⊥ = cc in no)
blank_has_none (item.Import optional path comment) h = absurd (let no : ⊥ = cc in no)
blank_has_none (item.Module attributes optional name path comment) h = absurd (let no : ⊥ = cc in no)
blank_has_none (item.Assignment export name value comment) h = absurd (let no : ⊥ = cc in no)
blank_has_none (item.Unexport name comment) h = absurd (let no : ⊥ = cc in no)
blank_has_none (item.Setting name value comment) h = absurd (let no : ⊥ = cc in no)
blank_has_none (item.Recipe x) h = absurd (let no : ⊥ = cc in no)

-- the first left-out name of items without places, where a blank line is dropped or not
step_bare : (b c : Bool) (x : AstItem) (xs : List AstItem) → is_blank_item x ≡ b
    → ((d : Bool) → option_map bare_name (first_left_out xs) ≡ first_left_out (map bare_item (one_blank d xs)))
    → option_map bare_name (first_left_out (x ∷ xs)) ≡ first_left_out (map bare_item (if b && c then one_blank true xs else x ∷ one_blank b xs))
step_bare true true x xs h go = rw (blank_has_none x h) (go true)
step_bare true false x xs h go =
    first_bare (left_out_of x) (first_left_out xs)
    ∙ ap (λ (o : Option Name). first_of o (option_map bare_name (first_left_out xs))) (of_bare x)
    ∙ ap (λ (o : Option Name). first_of (left_out_of (bare_item x)) o) (go true)
step_bare false c x xs h go =
    first_bare (left_out_of x) (first_left_out xs)
    ∙ ap (λ (o : Option Name). first_of o (option_map bare_name (first_left_out xs))) (of_bare x)
    ∙ ap (λ (o : Option Name). first_of (left_out_of (bare_item x)) o) (go false)

-- the same, of what is tested
test_bare : (t b : Bool) (x : AstItem) (xs : List AstItem) → is_blank_item x ≡ t
    → ((d : Bool) → option_map bare_name (first_left_out xs) ≡ first_left_out (map bare_item (one_blank d xs)))
    → option_map bare_name (first_left_out (x ∷ xs)) ≡ first_left_out (map bare_item (one_blank b (x ∷ xs)))
test_bare t b x xs h go =
    step_bare t b x xs h go ∙ ap (λ (k : Bool). first_left_out (map bare_item (if k && b then one_blank true xs else x ∷ one_blank k xs))) (sym h)

-- the first left-out name of a tree, without its place, is that of its shape
left_out_bare : (xs : List AstItem) (b : Bool) → option_map bare_name (first_left_out xs) ≡ first_left_out (map bare_item (one_blank b xs))
left_out_bare [] b = refl
left_out_bare (x ∷ xs) b = test_bare (is_blank_item x) b x xs refl (left_out_bare xs)

-- no name is none without its place
none_of : (o : Option Name) → option_map bare_name o ≡ None → o ≡ None
none_of None h = refl
none_of (Some n) h = absurd (let no : ⊥ = cc in no)

-- a tree of the shape of one that has no left-out name has none
pub left_out_of_shape : (xs ys : List AstItem) → SameShape xs ys → first_left_out xs ≡ None → first_left_out ys ≡ None
left_out_of_shape xs ys same none =
    none_of (first_left_out ys)
    (left_out_bare ys false ∙ (ap first_left_out (sym same) ∙ (sym (left_out_bare xs false) ∙ ap (λ (o : Option Name). option_map bare_name o) none)))
