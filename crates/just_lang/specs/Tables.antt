-- What the tables of a project say.
use Rattle.std.specs.Prelude.{◌≡◌, ℕ, List, Option}
use Rattle.just_lang_names.specs.Names.{AreNames, layout_of, wins_of}
use Rattle.just_lang.specs.DisablingTables.{IsDisabling}
use Rattle.just_lang_justfile.specs.Links.{Links}
use Rattle.just_lang.specs.declared.tables.Tables.{Tables}
use Rattle.just_lang.specs.Befores.{AreBeforeEach}
use Rattle.just_lang.specs.Linked.{links_of}

-- for each recipe the one for whose own modules it can't be run
abbrev pub causes_of : Tables → List (Option ℕ)
causes_of tables = tables.disabling.now.causes.items

-- the tables are those of one layout
pub record AreTables (tables : Tables) : Type 0 where
  pub names_are : AreNames tables.names.now
  pub before_are : AreBeforeEach (wins_of tables.names.now) (layout_of tables.names.now) tables.before.now
  pub disabling_is : IsDisabling tables.disabling.now
  pub same : tables.disabling.now.recipes.now.names.now ≡ tables.names.now

-- what paths come to, and what can't be run
abbrev pub links_in : Tables → Links
links_in tables = links_of (wins_of tables.names.now) (layout_of tables.names.now) (causes_of tables)
