-- One more file.
use Rattle.std.proofs.Common.{◌≡◌, ℕ, suc, ◌+◌, ◌<◌, List, ◌++◌, drop, length, get_or, Option, sym, ap, ◌∙◌, add-one, append_assoc}
use Rattle.just_lang_syntax.specs.declared.ast.AstItem.{AstItem}
use Rattle.just_lang_syntax.specs.declared.error.FaultKind.{FaultKind}
use Rattle.just_lang_layout.specs.declared.layout.File.{File}
use Rattle.just_lang_layout.specs.Items.{in_file, items_from}
use Rattle.just_lang_spots.specs.declared.spot.Spot.{Spot}
use Rattle.just_lang_spots.specs.declared.entries.Entry.{Entry}
use Rattle.just_lang_spots.specs.Spots.{earlier, first_spot}
use Rattle.just_lang_spots.specs.Entries.{entries}
use Rattle.just_lang_spots.proofs.Spots.{first_behind}
use Rattle.just_lang_spots.proofs.ListLaws.{drop_here}
use Rattle.just_lang_rules.specs.FaultSpots.{fault_spot}
use Rattle.just_lang_rulebook.specs.Faults.{fault_spots_from}

-- the items of one more file
pub files_more : (old new : List Entry) (files : List File) (n : ℕ) (file : File) → n < length files → file ≡ get_or files n file → entries new ≡ entries old ++ in_file n file.items
    → entries new ++ items_from (n + 1) (drop (n + 1) files) ≡ entries old ++ items_from n (drop n files)
files_more old new files n file less is e =
    let rest : List File = drop (n + 1) files in
    ap (λ (ys : List (ℕ × AstItem)). ys ++ items_from (n + 1) rest) e ∙ append_assoc (entries old) (in_file n file.items) (items_from (n + 1) rest)
    ∙ ap (λ (m : ℕ). entries old ++ (in_file n file.items ++ items_from m rest)) (add-one n)
    ∙ ap (λ (fs : List File). entries old ++ items_from n fs) (sym (drop_here files n file less is))

-- one more file: what was found behind its fault, and what is still to come
pub faults_step : (kind : FaultKind) (found here next : Option Spot) (files : List File) (n : ℕ) (file : File) → n < length files → file ≡ get_or files n file
    → here ≡ first_spot (fault_spot kind n file.fault) → next ≡ earlier found here
    → earlier next (first_spot (fault_spots_from kind (n + 1) (drop (n + 1) files))) ≡ earlier found (first_spot (fault_spots_from kind n (drop n files)))
faults_step kind found here next files n file less is h k =
    let rest : List File = drop (n + 1) files in
    ap (λ (m : ℕ). earlier next (first_spot (fault_spots_from kind m rest))) (add-one n)
    ∙ ap (λ (o : Option Spot). earlier o (first_spot (fault_spots_from kind (suc n) rest))) (k ∙ ap (earlier found) h)
    ∙ sym (first_behind found (fault_spot kind n file.fault) (fault_spots_from kind (suc n) rest))
    ∙ ap (λ (fs : List File). earlier found (first_spot (fault_spots_from kind n fs))) (sym (drop_here files n file less is))
