-- One chunk more is written; where none is left, nothing more is shown.
use Rattle.std.proofs.Common.{◌≡◌, ◌∙◌, List, ℕ, true, ◌++◌, refl, sym, ap, append_assoc}
use Rattle.std.proofs.lemmas.List.{append-nil}
use Rattle.std.proofs.lemmas.Str.{utf8_lossy_empty}
use Rattle.std.proofs.Output.{has_written_append, has_written_of_eq}
use Rattle.std.specs.Str.Lossy.{utf8_lossy}
use Rattle.std.specs.Str.Chunks.{utf8_chunks_rest, utf8_chunk_valid, utf8_chunk_invalid}
use Rattle.just_path.specs.Utf8.{chunk_shown}
use Rattle.just_path.proofs.LossyTexts.{lossy_parts}
use Rattle.just_path.proofs.broken.write_lossy.Goals as goal

pub loop-chunk-preserved : goal.loop-chunk-preserved
loop-chunk-preserved g c =
    λ plain.
    let (done, wrote, same) = c.loop-chunk.invariant plain in
    let v : List ℕ = utf8_chunk_valid c.in-Some.chunk in
    let i : List ℕ = utf8_chunk_invalid c.in-Some.chunk in
    let r : List ℕ = utf8_chunks_rest c.next.new.self in
    let (parts, less, last, first) = c.in-Some.ensures.steps in
    let shown : utf8_lossy (utf8_chunks_rest c.loop-chunk.left) ≡ chunk_shown v i ++ utf8_lossy r = lossy_parts (utf8_chunks_rest c.loop-chunk.left) v i r parts last first.0 first.1 in (
      done ++ chunk_shown v i,
      has_written_append _ _ _ _ _ _ wrote (c.in_ok-write_chunk.ensures wrote.plain (refl {a = true})),
      append_assoc done (chunk_shown v i) (utf8_lossy r) ∙ ap (λ t. done ++ t) (sym shown) ∙ same,
    )

pub returns : goal.returns
returns g c = λ plain ok.
    let (done, wrote, same) = c.loop-chunk.invariant plain in
    has_written_of_eq _ _ _ _ _ (sym (append-nil done) ∙ ap (λ t. done ++ t) (sym (utf8_lossy_empty (utf8_chunks_rest c.loop-chunk.left) c.in_default.ensures.steps.0)) ∙ same) wrote
