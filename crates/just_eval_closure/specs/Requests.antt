-- What a request knows of its project.
use Rattle.std.specs.Prelude.{map}
use Rattle.just_lang_types.specs.Modules.{located}
use Rattle.just_eval_closure.specs.declared.request.Request.{Request}
use Rattle.just_eval_closure.specs.Entries.{AreEntries}

-- the request finds each recipe by its path, with what it sees
abbrev pub IsIndexed : Request → Type 0
IsIndexed r = AreEntries r.scopes.now (located (map (λ m. m.now) r.modules.items)) r.entries
