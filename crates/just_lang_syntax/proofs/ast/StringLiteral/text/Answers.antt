-- A string that is neither a block nor double quoted means its own text.
use Rattle.std.proofs.Common.{Some, if◌then◌else◌, encode_utf8_all, chars, ap, sym, ◌∙◌, subst, rules, IsUtf8}
use Rattle.std.proofs.lemmas.Str.{encodes-chars}
use Rattle.just_lang_read.specs.Indentation.{unindented}
use Rattle.just_lang_syntax.specs.Strings.{plain_text}
use Rattle.just_lang_syntax.specs.Meanings.{cooked_text}
use Rattle.just_lang_syntax.proofs.ast.StringLiteral.text.Goals as goal

pub returns-then-not-is_cooked : goal.returns-then-not-is_cooked
returns-then-not-is_cooked c =
    let x = c.args.self.now in
    let raw = x.raw in
    ap (λ b. if b then cooked_text (plain_text x) else Some (encode_utf8_all (plain_text x))) (sym c.is_cooked.ensures ∙ c.if-not-is_cooked.true)
    ∙ ap (λ b. Some (encode_utf8_all (if b then unindented (chars raw) else chars raw))) (sym c.is_block.ensures ∙ c.if-not-is_block.true)
    ∙ ap (λ t. Some t) (encodes-chars raw (subst (λ b. IsUtf8 b) c.as_str.ensures c.as_str.utf8) ∙ search rules)
