-- Each component list has one normal form under the three rewrites.
use Rattle.std.proofs.Common.{◌≡◌, ℕ, Bool, true, false, not, ◌&&◌, List, [], ◌∷◌, ◌++◌, refl, sym, ap, ◌∙◌}
use Rattle.just_path.specs.Comps.{Comp, prefix, root, current, parent, normal}
use Rattle.just_path.specs.Clean.{Rewrites, current_goes, pair_goes, parent_goes, RewritesTo, stays, goes, IsNormal, IsNormalForm, without_parents, after_name, normal_form_with, normal_form}
use Rattle.just_path.proofs.Truths.{and_left, and_right, and_both, and_false}
use Rattle.just_path.specs.Reduced.{begins_with_parent, may_precede, is_reduced}

-- two lists of one normal form have one normal form behind the same components
normal_form_front : (xs a b : List Comp) → normal_form a ≡ normal_form b → normal_form (xs ++ a) ≡ normal_form (xs ++ b)
normal_form_front [] a b h = h
normal_form_front (x ∷ xs) a b h = ap (normal_form_with x) (normal_form_front xs a b h)

-- the normal form is the same without a `.`
pub drops_current : (xs ys : List Comp) → normal_form (xs ++ current ∷ ys) ≡ normal_form (xs ++ ys)
drops_current xs ys = normal_form_front xs (current ∷ ys) ys refl

-- it is the same without a name and the `..` directly behind it
pub drops_pair : (xs ys : List Comp) (n : List ℕ) → normal_form (xs ++ normal n ∷ parent ∷ ys) ≡ normal_form (xs ++ ys)
drops_pair xs ys n = normal_form_front xs (normal n ∷ parent ∷ ys) ys refl

-- it is the same without a `..` directly behind the root
pub drops_parent : (xs ys : List Comp) → normal_form (xs ++ root ∷ parent ∷ ys) ≡ normal_form (xs ++ root ∷ ys)
drops_parent xs ys = normal_form_front xs (root ∷ parent ∷ ys) (root ∷ ys) refl

-- a rewrite leaves the normal form as it is
normal_form_rewritten : (c d : List Comp) → Rewrites c d → normal_form c ≡ normal_form d
normal_form_rewritten c d (current_goes xs ys e f) = ap normal_form e ∙ drops_current xs ys ∙ ap normal_form (sym f)
normal_form_rewritten c d (pair_goes xs ys n e f) = ap normal_form e ∙ drops_pair xs ys n ∙ ap normal_form (sym f)
normal_form_rewritten c d (parent_goes xs ys e f) = ap normal_form e ∙ drops_parent xs ys ∙ ap normal_form (sym f)

-- any number of rewrites leaves the normal form as it is
normal_form_along : (d c : List Comp) → RewritesTo d c → normal_form c ≡ normal_form d
normal_form_along d _ stays = refl
normal_form_along d _ (goes c e r l) = normal_form_rewritten c e r ∙ normal_form_along d e l

-- a rewrite is one behind a further component too
rewrites_front : (x : Comp) (c d : List Comp) → Rewrites c d → Rewrites (x ∷ c) (x ∷ d)
rewrites_front x c d (current_goes xs ys e f) = current_goes (x ∷ xs) ys (ap (λ r. x ∷ r) e) (ap (λ r. x ∷ r) f)
rewrites_front x c d (pair_goes xs ys n e f) = pair_goes (x ∷ xs) ys n (ap (λ r. x ∷ r) e) (ap (λ r. x ∷ r) f)
rewrites_front x c d (parent_goes xs ys e f) = parent_goes (x ∷ xs) ys (ap (λ r. x ∷ r) e) (ap (λ r. x ∷ r) f)

-- so are any number of rewrites
RewritesTo_front : (x : Comp) (d c : List Comp) → RewritesTo d c → RewritesTo (x ∷ d) (x ∷ c)
RewritesTo_front x d _ stays = stays
RewritesTo_front x d _ (goes c e r l) = goes (x ∷ c) (x ∷ e) (rewrites_front x c e r) (RewritesTo_front x d e l)

-- rewrites behind rewrites are rewrites
RewritesTo_then : (d e c : List Comp) → RewritesTo e c → RewritesTo d e → RewritesTo d c
RewritesTo_then d e _ stays m = m
RewritesTo_then d e _ (goes c f r l) m = goes c f r (RewritesTo_then d e f l m)

-- each `..` directly behind the root goes by rewrites
root_RewritesTo : (cs : List Comp) → RewritesTo (root ∷ without_parents cs) (root ∷ cs)
root_RewritesTo [] = stays
root_RewritesTo (prefix t ∷ cs) = stays
root_RewritesTo (root ∷ cs) = stays
root_RewritesTo (current ∷ cs) = stays
root_RewritesTo (parent ∷ cs) = goes (root ∷ parent ∷ cs) (root ∷ cs) (parent_goes [] cs refl refl) (root_RewritesTo cs)
root_RewritesTo (normal n ∷ cs) = stays

-- a name goes with a `..` directly behind it, else it stays
name_RewritesTo : (n : List ℕ) (cs : List Comp) → RewritesTo (after_name n cs) (normal n ∷ cs)
name_RewritesTo n [] = stays
name_RewritesTo n (prefix t ∷ cs) = stays
name_RewritesTo n (root ∷ cs) = stays
name_RewritesTo n (current ∷ cs) = stays
name_RewritesTo n (parent ∷ cs) = goes (normal n ∷ parent ∷ cs) cs (pair_goes [] cs n refl refl) stays
name_RewritesTo n (normal m ∷ cs) = stays

-- what a component makes of a list is reached by rewrites
normal_form_with_RewritesTo : (c : Comp) (cs : List Comp) → RewritesTo (normal_form_with c cs) (c ∷ cs)
normal_form_with_RewritesTo (prefix t) cs = stays
normal_form_with_RewritesTo root cs = root_RewritesTo cs
normal_form_with_RewritesTo current cs = goes (current ∷ cs) cs (current_goes [] cs refl refl) stays
normal_form_with_RewritesTo parent cs = stays
normal_form_with_RewritesTo (normal n) cs = name_RewritesTo n cs

-- each list is rewritten to its normal form
pub RewritesTo_normal_form : (c : List Comp) → RewritesTo (normal_form c) c
RewritesTo_normal_form [] = stays
RewritesTo_normal_form (c ∷ cs) = RewritesTo_then (normal_form_with c (normal_form cs)) (c ∷ normal_form cs) (c ∷ cs) (RewritesTo_front c (normal_form cs) cs (RewritesTo_normal_form cs)) (normal_form_with_RewritesTo c (normal_form cs))

-- a list that no rewrite applies to is rewritten to itself alone
normal_RewritesTo_itself : (d c : List Comp) → RewritesTo d c → IsNormal c → d ≡ c
normal_RewritesTo_itself d _ stays n = refl
normal_RewritesTo_itself d _ (goes c e r l) n = absurd (n e r)

-- the law: a list has at most one normal form
pub one_normal_form : (c a b : List Comp) → IsNormalForm c a → IsNormalForm c b → a ≡ b
one_normal_form c a b h k =
    sym (normal_RewritesTo_itself (normal_form a) a (RewritesTo_normal_form a) h.1) ∙ sym (normal_form_along a c h.0) ∙ normal_form_along b c k.0 ∙ normal_RewritesTo_itself (normal_form b) b (RewritesTo_normal_form b) k.1

-- what is left without the `..` in front begins with none
without_parents_begins : (cs : List Comp) → begins_with_parent (without_parents cs) ≡ false
without_parents_begins [] = refl
without_parents_begins (prefix t ∷ cs) = refl
without_parents_begins (root ∷ cs) = refl
without_parents_begins (current ∷ cs) = refl
without_parents_begins (parent ∷ cs) = without_parents_begins cs
without_parents_begins (normal n ∷ cs) = refl

-- a reduced list is reduced without the `..` in front
without_parents_is_reduced : (cs : List Comp) → is_reduced cs ≡ true → is_reduced (without_parents cs) ≡ true
without_parents_is_reduced [] h = refl
without_parents_is_reduced (prefix t ∷ cs) h = h
without_parents_is_reduced (root ∷ cs) h = h
without_parents_is_reduced (current ∷ cs) h = h
without_parents_is_reduced (parent ∷ cs) h = without_parents_is_reduced cs h
without_parents_is_reduced (normal n ∷ cs) h = h

-- it is reduced behind a name, or without its first `..`
after_name_is_reduced : (n : List ℕ) (cs : List Comp) → is_reduced cs ≡ true → is_reduced (after_name n cs) ≡ true
after_name_is_reduced n [] h = refl
after_name_is_reduced n (prefix t ∷ cs) h = h
after_name_is_reduced n (root ∷ cs) h = h
after_name_is_reduced n (current ∷ cs) h = h
after_name_is_reduced n (parent ∷ cs) h = h
after_name_is_reduced n (normal m ∷ cs) h = h

-- what a component makes of a reduced list is reduced
normal_form_with_is_reduced : (c : Comp) (cs : List Comp) → is_reduced cs ≡ true → is_reduced (normal_form_with c cs) ≡ true
normal_form_with_is_reduced (prefix t) cs h = h
normal_form_with_is_reduced root cs h = and_both (not (begins_with_parent (without_parents cs))) (is_reduced (without_parents cs)) (ap not (without_parents_begins cs)) (without_parents_is_reduced cs h)
normal_form_with_is_reduced current cs h = h
normal_form_with_is_reduced parent cs h = h
normal_form_with_is_reduced (normal n) cs h = after_name_is_reduced n cs h

-- a normal form is reduced
pub normal_form_is_reduced : (c : List Comp) → is_reduced (normal_form c) ≡ true
normal_form_is_reduced [] = refl
normal_form_is_reduced (c ∷ cs) = normal_form_with_is_reduced c (normal_form cs) (normal_form_is_reduced cs)

-- a list is not reduced where its end is not
pub not_reduced_front : (xs a : List Comp) → is_reduced a ≡ false → is_reduced (xs ++ a) ≡ false
not_reduced_front [] a h = h
not_reduced_front (x ∷ xs) a h = and_false (may_precede x (xs ++ a)) (is_reduced (xs ++ a)) (not_reduced_front xs a h)

-- a reduced list has no rewrite
reduced_has_no_rewrite : (c d : List Comp) → Rewrites c d → is_reduced c ≡ true → ⊥
reduced_has_no_rewrite c d (current_goes xs ys e f) h = let g : is_reduced c ≡ false = ap is_reduced e ∙ not_reduced_front xs (current ∷ ys) refl in cc
reduced_has_no_rewrite c d (pair_goes xs ys n e f) h = let g : is_reduced c ≡ false = ap is_reduced e ∙ not_reduced_front xs (normal n ∷ parent ∷ ys) refl in cc
reduced_has_no_rewrite c d (parent_goes xs ys e f) h = let g : is_reduced c ≡ false = ap is_reduced e ∙ not_reduced_front xs (root ∷ parent ∷ ys) refl in cc

-- so no rewrite applies to it
reduced_is_normal : (c : List Comp) → is_reduced c ≡ true → IsNormal c
reduced_is_normal c h = λ d r. reduced_has_no_rewrite c d r h

-- the law: `reduced` gives it
pub IsNormalForm-normal_form : (c : List Comp) → IsNormalForm c (normal_form c)
IsNormalForm-normal_form c = (RewritesTo_normal_form c, reduced_is_normal (normal_form c) (normal_form_is_reduced c))

-- a reduced list is its own normal form
pub normal_form_of_reduced : (n : List Comp) → is_reduced n ≡ true → normal_form n ≡ n
normal_form_of_reduced n h = normal_RewritesTo_itself (normal_form n) n (RewritesTo_normal_form n) (reduced_is_normal n h)

-- a stack that no rewrite applies to, with one component more or less
last_alone : (k c : Comp) → is_reduced (k ∷ c ∷ []) ≡ true → is_reduced (k ∷ []) ≡ true
last_alone (prefix t) c h = refl
last_alone root c h = refl
last_alone current c h = h
last_alone parent c h = refl
last_alone (normal n) c h = refl

-- whether a list begins with `..` depends on its first component alone
same_begins : (l : Comp) (xs ys : List Comp) → begins_with_parent (l ∷ xs) ≡ begins_with_parent (l ∷ ys)
same_begins (prefix t) xs ys = refl
same_begins root xs ys = refl
same_begins current xs ys = refl
same_begins parent xs ys = refl
same_begins (normal n) xs ys = refl

-- a component may precede a list where it may precede a longer one
same_follows : (k l : Comp) (ks : List Comp) (c : Comp) → may_precede k (l ∷ (ks ++ c ∷ [])) ≡ true → may_precede k (l ∷ ks) ≡ true
same_follows (prefix t) l ks c h = refl
same_follows root l ks c h = ap not (same_begins l ks (ks ++ c ∷ [])) ∙ h
same_follows current l ks c h = h
same_follows parent l ks c h = refl
same_follows (normal n) l ks c h = ap not (same_begins l ks (ks ++ c ∷ [])) ∙ h

-- a reduced list is reduced without its last component
pub reduced_init : (ks : List Comp) (c : Comp) → is_reduced (ks ++ c ∷ []) ≡ true → is_reduced ks ≡ true
reduced_init [] c h = refl
reduced_init (k ∷ []) c h = last_alone k c h
reduced_init (k ∷ l ∷ ks) c h = and_both (may_precede k (l ∷ ks)) (is_reduced (l ∷ ks)) (same_follows k l ks c (and_left (may_precede k (l ∷ (ks ++ c ∷ []))) (is_reduced (l ∷ (ks ++ c ∷ []))) h)) (reduced_init (l ∷ ks) c (and_right (may_precede k (l ∷ (ks ++ c ∷ []))) (is_reduced (l ∷ (ks ++ c ∷ []))) h))

-- whether a component may be put behind the last of a stack
abbrev pub fits : Comp → Comp → Bool
fits k c = may_precede k (c ∷ []) && may_precede c []

-- a component may precede a longer list where it may precede a list
more_follows : (k l : Comp) (ks : List Comp) (c : Comp) → may_precede k (l ∷ ks) ≡ true → may_precede k (l ∷ (ks ++ c ∷ [])) ≡ true
more_follows (prefix t) l ks c h = refl
more_follows root l ks c h = ap not (same_begins l (ks ++ c ∷ []) ks) ∙ h
more_follows current l ks c h = h
more_follows parent l ks c h = refl
more_follows (normal n) l ks c h = ap not (same_begins l (ks ++ c ∷ []) ks) ∙ h

-- a reduced list with a component that fits its last is reduced
pub reduced_push : (ks : List Comp) (k c : Comp) → is_reduced (ks ++ k ∷ []) ≡ true → fits k c ≡ true → is_reduced ((ks ++ k ∷ []) ++ c ∷ []) ≡ true
reduced_push [] k c h f =
    and_both (may_precede k (c ∷ [])) (is_reduced (c ∷ [])) (and_left (may_precede k (c ∷ [])) (may_precede c []) f) (and_both (may_precede c []) true (and_right (may_precede k (c ∷ [])) (may_precede c []) f) refl)
reduced_push (j ∷ []) k c h f = and_both (may_precede j (k ∷ c ∷ [])) (is_reduced (k ∷ c ∷ [])) (more_follows j k [] c (and_left (may_precede j (k ∷ [])) (is_reduced (k ∷ [])) h)) (reduced_push [] k c (and_right (may_precede j (k ∷ [])) (is_reduced (k ∷ [])) h) f)
reduced_push (j ∷ i ∷ ks) k c h f =
    and_both (may_precede j (i ∷ ((ks ++ k ∷ []) ++ c ∷ []))) (is_reduced (i ∷ ((ks ++ k ∷ []) ++ c ∷ [])))
    (more_follows j i (ks ++ k ∷ []) c (and_left (may_precede j (i ∷ (ks ++ k ∷ []))) (is_reduced (i ∷ (ks ++ k ∷ []))) h))
    (reduced_push (i ∷ ks) k c (and_right (may_precede j (i ∷ (ks ++ k ∷ []))) (is_reduced (i ∷ (ks ++ k ∷ []))) h) f)

-- what may stand anywhere
alone_follows : (k c : Comp) → begins_with_parent (c ∷ []) ≡ false → may_precede k [] ≡ true → may_precede k (c ∷ []) ≡ true
alone_follows (prefix t) c b h = refl
alone_follows root c b h = ap not b
alone_follows current c b h = h
alone_follows parent c b h = refl
alone_follows (normal n) c b h = ap not b

-- a reduced list with a component that fits anything is reduced
pub reduced_plain : (ks : List Comp) (c : Comp) → begins_with_parent (c ∷ []) ≡ false → may_precede c [] ≡ true → is_reduced ks ≡ true → is_reduced (ks ++ c ∷ []) ≡ true
reduced_plain [] c b f h = and_both (may_precede c []) true f refl
reduced_plain (k ∷ []) c b f h =
    and_both (may_precede k (c ∷ [])) (is_reduced (c ∷ [])) (alone_follows k c b (and_left (may_precede k []) true h)) (and_both (may_precede c []) true f refl)
reduced_plain (k ∷ l ∷ ks) c b f h =
    and_both (may_precede k (l ∷ (ks ++ c ∷ []))) (is_reduced (l ∷ (ks ++ c ∷ [])))
    (more_follows k l ks c (and_left (may_precede k (l ∷ ks)) (is_reduced (l ∷ ks)) h))
    (reduced_plain (l ∷ ks) c b f (and_right (may_precede k (l ∷ ks)) (is_reduced (l ∷ ks)) h))

-- the first component of a reduced list may precede the others
pub reduced_first : (c : Comp) (cs : List Comp) → is_reduced (c ∷ cs) ≡ true → may_precede c cs ≡ true
reduced_first c cs h = and_left (may_precede c cs) (is_reduced cs) h

-- a reduced list is reduced without its first component
pub reduced_rest : (c : Comp) (cs : List Comp) → is_reduced (c ∷ cs) ≡ true → is_reduced cs ≡ true
reduced_rest c cs h = and_right (may_precede c cs) (is_reduced cs) h
