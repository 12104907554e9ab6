-- The modules of a stack.
use Rattle.std.proofs.Common.{◌≡◌, ℕ, zero, suc, ◌-◌, List, [], ◌∷◌, ◌++◌, map, sym, ap, ◌∙◌, refl, append_assoc, append-nil, arith}
use Rattle.std.specs.List.{flat_map}
use Rattle.just_lang_layout.specs.declared.layout.File.{File}
use Rattle.just_lang_layout.specs.declared.layout.Module.{Module}
use Rattle.just_lang_layout.specs.declared.target.Target.{Target}
use Rattle.just_lang_layout.specs.declared.pending.Pending.{Pending}
use Rattle.just_lang_layout.specs.declared.pending.Declaration.{Declaration}
use Rattle.just_lang_layout.specs.Modules.{child, module_of, modules_from, there, declarations, own_visits}
use Rattle.just_lang_layout.specs.Pending.{made_of, all_of, within, modules_left}

-- a module on top of a stack comes first
pub top_first : (fs : List File) (T : List (List Target)) (ps : List Pending) (p : Pending) → modules_left fs T (ps ++ p ∷ []) ≡ made_of fs T p ++ modules_left fs T ps
top_first fs T [] p = sym (append-nil (made_of fs T p))
top_first fs T (q ∷ qs) p =
    ap (λ (ms : List Module). ms ++ made_of fs T q) (top_first fs T qs p)
    ∙ append_assoc (made_of fs T p) (modules_left fs T qs) (made_of fs T q)

-- modules, and one behind them
all-snoc : (fs : List File) (T : List (List Target)) (ps : List Pending) (p : Pending) → all_of fs T (ps ++ p ∷ []) ≡ all_of fs T ps ++ made_of fs T p
all-snoc fs T [] p = append-nil (made_of fs T p)
all-snoc fs T (q ∷ qs) p =
    ap (λ (ms : List Module). made_of fs T q ++ ms) (all-snoc fs T qs p)
    ∙ sym (append_assoc (made_of fs T q) (all_of fs T qs) (made_of fs T p))

map-snoc : (p : Pending) (ds : List Declaration) (d : Declaration) → map (child p) (ds ++ d ∷ []) ≡ map (child p) ds ++ child p d ∷ []
map-snoc p [] d = refl
map-snoc p (e ∷ es) d = ap (λ (ps : List Pending). child p e ∷ ps) (map-snoc p es d)

-- the last of some modules goes on top of a stack
pub child_pushed : (fs : List File) (T : List (List Target)) (p : Pending) (ds : List Declaration) (d : Declaration) (stack : List Pending)
    → all_of fs T (map (child p) ds) ++ modules_left fs T (stack ++ child p d ∷ []) ≡ all_of fs T (map (child p) (ds ++ d ∷ [])) ++ modules_left fs T stack
child_pushed fs T p ds d stack =
    ap (λ (ms : List Module). all_of fs T (map (child p) ds) ++ ms) (top_first fs T stack (child p d))
    ∙ sym (append_assoc (all_of fs T (map (child p) ds)) (made_of fs T (child p d)) (modules_left fs T stack))
    ∙ ap (λ (ms : List Module). ms ++ modules_left fs T stack) (sym (all-snoc fs T (map (child p) ds) (child p d)))
    ∙ ap (λ (ps : List Pending). all_of fs T ps ++ modules_left fs T stack) (sym (map-snoc p ds d))

-- modules of one depth
same_depth : (fs : List File) (T : List (List Target)) (n : ℕ) (p : Pending) (ds : List Declaration) → p.depth - 1 ≡ n
    → flat_map (modules_from fs T n) (map (child p) ds) ≡ all_of fs T (map (child p) ds)
same_depth fs T n p [] h = refl
same_depth fs T n p (d ∷ ds) h =
    ap (λ (ms : List Module). ms ++ flat_map (modules_from fs T n) (map (child p) ds)) (ap (λ (k : ℕ). modules_from fs T k (child p d)) (sym h))
    ∙ ap (λ (ms : List Module). made_of fs T (child p d) ++ ms) (same_depth fs T n p ds h)

-- a module and those within it
made : (fs : List File) (T : List (List Target)) (n : ℕ) (p : Pending) → p.depth ≡ n
    → modules_from fs T n p ≡ module_of fs T p ∷ within fs T n p (declarations fs (own_visits T p.file))
made fs T zero p e = refl
made fs T (suc n) p e = ap (λ (ms : List Module). module_of fs T p ∷ ms) (same_depth fs T n p (there (declarations fs (own_visits T p.file))) (omega (arith, e)))

-- a module is taken from a stack, and those within it are put there
pub module_taken : (fs : List File) (T : List (List Target)) (ps new : List Pending) (p : Pending)
    → modules_left fs T new ≡ within fs T p.depth p (declarations fs (own_visits T p.file)) ++ modules_left fs T ps
    → modules_left fs T (ps ++ p ∷ []) ≡ module_of fs T p ∷ modules_left fs T new
module_taken fs T ps new p e =
    top_first fs T ps p
    ∙ ap (λ (ms : List Module). ms ++ modules_left fs T ps) (made fs T p.depth p refl)
    ∙ ap (λ (ms : List Module). module_of fs T p ∷ ms) (sym e)
