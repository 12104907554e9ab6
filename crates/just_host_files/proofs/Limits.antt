-- To read one byte more than the limit tells whether a text is within it.
use Rattle.std.proofs.Common.{◌≡◌, ◌+◌, ◌<◌, ℕ, List, [], ◌++◌, length, take, nat_lt, true, Option, Some, None, option_map, Result, Err, IfSome, sym, ap, subst, ◌∙◌, arith}
use Rattle.std.proofs.Math.Decide.{dec_lt}
use Rattle.std.specs.declared.string.String.{String}
use Rattle.std.specs.declared.alloc.Global.{Global}
use Rattle.std.proofs.lemmas.Bool.Decides.{nat_tests}
use Rattle.std.proofs.lemmas.List.{take_all, length-take-le}
use Rattle.just_path.specs.declared.host.Miss.{Miss}
use Rattle.just_path.specs.declared.host.Miss.TheVariants as miss
use Rattle.just_host_record.specs.declared.outside.TheConstants.{MAX_BYTES}
use Rattle.just_host_record.specs.World.{text_in}
use Rattle.just_host_files.specs.Texts.{Tells}

-- more bytes than the limit are too many
too_large : (xs : List ℕ) → MAX_BYTES < length xs → text_in xs ≡ Err miss.TooLarge
too_large xs more = let over : nat_lt MAX_BYTES (length xs) ≡ true = grind (arith, nat_tests) in rw over

-- of a longer list one more than n items are more than n
cut_over : (n : ℕ) (xs : List ℕ) → n < length xs → n < length (take (n + 1) xs)
cut_over n xs more = let all : length (take (n + 1) xs) ≡ n + 1 = length-take-le (n + 1) xs (omega arith) in omega arith

-- the first bytes, one more than the limit, are the text that all are
pub text_in-take : (xs : List ℕ) → text_in (take (MAX_BYTES + 1) xs) ≡ text_in xs
text_in-take xs =
    elim (dec_lt MAX_BYTES (length xs)) as (λ _. text_in (take (MAX_BYTES + 1) xs) ≡ text_in xs) [
      | yes more ↦ too_large (take (MAX_BYTES + 1) xs) (cut_over MAX_BYTES xs more) ∙ sym (too_large xs more)
      | no within ↦ ap text_in (take_all (MAX_BYTES + 1) xs (omega arith))
    ]

-- known bytes that were read up to one more than the limit tell the text
read_some : (xs bytes first : List ℕ) (limit : ℕ) (r : Result (String Global) Miss) → limit ≡ MAX_BYTES + 1 → first ≡ [] → bytes ≡ first ++ take limit xs → Tells (text_in bytes) r → Tells (text_in xs) r
read_some xs bytes first limit r is none read h =
    subst (λ t. Tells t r) (ap text_in (read ∙ ap (λ f. f ++ take limit xs) none ∙ ap (λ n. take n xs) is) ∙ text_in-take xs) h

-- the same where the bytes are known or not
read_of : (known : Option (List ℕ)) (bytes first : List ℕ) (limit : ℕ) (r : Result (String Global) Miss) → limit ≡ MAX_BYTES + 1 → first ≡ [] → IfSome (option_map (take limit) known) (λ xs. bytes ≡ first ++ xs) → Tells (text_in bytes) r → IfSome known (λ xs. Tells (text_in xs) r)
read_of None bytes first limit r is none read h = tt
read_of (Some xs) bytes first limit r is none read h = read_some xs bytes first limit r is none read h

-- of a reader whose bytes are known, what was read up to one byte more than the limit tells the text
pub read_known : (known left : Option (List ℕ)) (bytes first : List ℕ) (limit : ℕ) (r : Result (String Global) Miss) → left ≡ known → limit ≡ MAX_BYTES + 1 → first ≡ [] → IfSome (option_map (take limit) left) (λ xs. bytes ≡ first ++ xs) → Tells (text_in bytes) r → IfSome known (λ xs. Tells (text_in xs) r)
read_known known left bytes first limit r same is none read h =
    read_of known bytes first limit r is none (subst (λ o. IfSome (option_map (take limit) o) (λ xs. bytes ≡ first ++ xs)) same read) h
