-- One file: what is answered of it.
use Rattle.std.proofs.Common.{◌≡◌, ◌⊎◌, inl, inr, ℕ, List, Option, Some, None, ap, sym, ◌∙◌, subst}
use Rattle.std.specs.Prelude.{chars, Ok, Err}
use Rattle.just_host_record.specs.World.{World}
use Rattle.just_dotenv.specs.File.{Gives, Stops}
use Rattle.just_dotenv.specs.Meaning.{Pairs}
use Rattle.just_env.specs.declared.env_error.EnvError.{EnvError}
use Rattle.just_env.specs.declared.env_error.EnvError.TheVariants as error
use Rattle.just_env.specs.Files.{FindsText, LoadsFile}

pub file_absent : (told : Option World) (environ : Pairs) (path : List ℕ) → FindsText told path (Ok None) → LoadsFile told environ path (Ok None)
file_absent told environ path finds = LoadsFile.absent finds

pub file_there : (told : Option World) (environ : Pairs) (path text : List ℕ) (pairs : Pairs) → FindsText told path (Ok (Some text)) → Gives (chars text) environ pairs → LoadsFile told environ path (Ok (Some pairs))
file_there told environ path text pairs finds gives = LoadsFile.there text pairs finds gives

pub file_unread : (told : Option World) (environ : Pairs) (path : List ℕ) (e : EnvError) → (e ≡ error.NoMemory) ⊎ FindsText told path (Err e) → (e ≡ error.NoMemory) ⊎ LoadsFile told environ path (Err e)
file_unread told environ path e (inl memory) = inl memory
file_unread told environ path e (inr finds) = inr (LoadsFile.unread e finds)

pub file_faulty : (told : Option World) (environ : Pairs) (path named text : List ℕ) (e : EnvError) → FindsText told path (Ok (Some text)) → named ≡ path
    → (e ≡ error.NoMemory) ⊎ ((line : ℕ) × Stops (chars text) line × (e ≡ error.Dotenv named line)) → (e ≡ error.NoMemory) ⊎ LoadsFile told environ path (Err e)
file_faulty told environ path named text e finds at (inl memory) = inl memory
file_faulty told environ path named text e finds at (inr stops) =
    inr (subst (λ x. LoadsFile told environ path (Err x)) (sym (stops.2 ∙ ap (λ p. error.Dotenv p stops.0) at)) (LoadsFile.faulty text stops.0 finds stops.1))
