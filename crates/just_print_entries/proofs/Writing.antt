-- Parts are written one after the other.
use Rattle.std.proofs.Common.{◌≡◌, ℕ, List, [], ◌∷◌, ◌++◌, append-nil, append_assoc, reverse, sym, ap, ◌∙◌, subst}
use Rattle.std.proofs.lemmas.List.{reverse-append, reverse-reverse}
use Rattle.just_print_entries.specs.declared.options.ListOptions.{ListOptions}
use Rattle.just_print_entries.specs.Listings.{Piece, AreWritten}
use Rattle.just_print_entries.specs.Listings.Piece.{lines, inner}
use Rattle.just_print_entries.specs.Written.{added, opened}

-- a part is written, and what is put in its place
written_so : (o : ListOptions) (p : Piece) (ps : List Piece) (rest : List ℕ) → AreWritten o (opened o p ++ ps) rest → AreWritten o (p ∷ ps) (added p ++ rest)
written_so o (lines text) ps rest a = AreWritten.written text ps rest a
written_so o (inner indent m) ps rest a = AreWritten.within indent m ps rest a

-- whatever is written of what is pending stands behind what was written
abbrev pub Leads : ListOptions → List Piece → List ℕ → List Piece → List ℕ → Type 0
Leads o first heading pending out = (rest : List ℕ) → AreWritten o (reverse pending) rest → (body : List ℕ) × AreWritten o first body × (out ++ rest ≡ heading ++ body)

pub one_written : (o : ListOptions) (first : List Piece) (heading : List ℕ) (ps us qs : List Piece) (p : Piece) (out new : List ℕ) → ps ≡ us ++ p ∷ [] → qs ≡ us ++ reverse (opened o p) → new ≡ out ++ added p
    → Leads o first heading ps out → Leads o first heading qs new
one_written o first heading ps us qs p out new is are more leads rest a =
    let within : reverse qs ≡ opened o p ++ reverse us = ap reverse are ∙ reverse-append us (reverse (opened o p)) ∙ ap (λ l. l ++ reverse us) (reverse-reverse (opened o p)) in
    let turned : reverse ps ≡ p ∷ reverse us = ap reverse is ∙ reverse-append us (p ∷ []) in
    let here : AreWritten o (p ∷ reverse us) (added p ++ rest) = written_so o p (reverse us) rest (subst (λ l. AreWritten o l rest) within a) in
    let (body, b, e) = leads (added p ++ rest) (subst (λ l. AreWritten o l (added p ++ rest)) (sym turned) here) in
    (body, b, ap (λ l. l ++ rest) more ∙ append_assoc out (added p) rest ∙ e)

pub begun : (o : ListOptions) (first ps : List Piece) (heading out : List ℕ) → ps ≡ [] ++ reverse first → out ≡ heading → Leads o first heading ps out
begun o first ps heading out is same rest a = (rest, subst (λ l. AreWritten o l rest) (ap reverse is ∙ reverse-reverse first) a, ap (λ l. l ++ rest) same)

pub all_written : (o : ListOptions) (first ps : List Piece) (heading out : List ℕ) → ps ≡ [] → Leads o first heading ps out → (body : List ℕ) × AreWritten o first body × (out ≡ heading ++ body)
all_written o first ps heading out none leads =
    let (body, b, e) = leads [] (subst (λ l. AreWritten o l []) (sym (ap reverse none)) AreWritten.nothing) in
    (body, b, sym (append-nil out) ∙ e)
