-- The names that both lists of dependencies go through, each once.
use Rattle.std.proofs.Common.{rules, ◌≡◌, ◌++◌, [], ◌∙◌, ℕ, List, sym, ap}
use Rattle.std.proofs.lemmas.List.Elements.{filter_map-append}
use Rattle.just_lang_syntax.specs.declared.ast.AstDependency.{AstDependency}
use Rattle.just_lang_names.specs.Names.{layout_of}
use Rattle.just_lang.specs.Disabling.{each_once, absent_of_dependency}
use Rattle.just_lang.specs.DisablingTables.{texts, absent_in}
use Rattle.just_lang.proofs.disabled.own_absent.Goals as goal

pub returns : goal.returns
returns c =
    let layout = layout_of c.args.names.now in
    let m = c.args.one.now.number in
    let recipe = c.args.one.now.recipe.now in
    let front : texts c.add_absent.new.absent.items ≡ absent_in layout m recipe.priors = search rules in
    let both : texts c.add_absent-2.new.absent.items ≡ texts c.add_absent.new.absent.items ++ absent_in layout m recipe.subsequents = search rules in
    c.in_ok-once.ensures ∙ ap (each_once []) (ap texts c.as_slice.ensures.value ∙ both ∙ ap (λ (xs : List (List ℕ)). xs ++ absent_in layout m recipe.subsequents) front
    ∙ sym (filter_map-append (λ (d : AstDependency). absent_of_dependency layout m d.path) recipe.priors recipe.subsequents))
