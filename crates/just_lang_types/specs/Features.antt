-- What may only be used where unstable features are.
use Rattle.std.specs.Prelude.{ℕ, List, codes}
use Rattle.just_lang_types.specs.declared.unstable_feature.UnstableFeature.{UnstableFeature}
use Rattle.just_lang_types.specs.declared.unstable_feature.UnstableFeature.TheVariants as feature

-- that something is unstable
abbrev pub feature_text : UnstableFeature → List ℕ
feature_text feature.CachedRecipes = codes "cached recipes are currently unstable"
feature_text feature.ListsSetting = codes "the `lists` setting is currently unstable"
