-- What is told is printed, or memory is wanting for it.
use Rattle.std.proofs.Common.{inl, refl, sym, ap, ◌∙◌, subst, append-nil}
use Rattle.just_cli_texts.specs.Prints.{alone}
use Rattle.just_cli.specs.Printing.{IsPrinted, IsUnprintedBy}
use Rattle.just_cli.proofs.PrintingLaws.{is_unprinted}
use Rattle.just_cli.proofs.vectors.show_vectors.Goals as goal

pub returns-in-Ok : goal.returns-in-Ok
returns-in-Ok g c =
    subst (λ p. IsPrinted p c.args.quiet (g.H.Host.told c.args.host) (g.H.Host.told c.print.result.host) c.print.result.result) (c.alone.ensures ∙ ap alone c.in-Ok.ensures) c.print.ensures

pub returns-in-Err : goal.returns-in-Err
returns-in-Err g c =
    let before = g.H.Host.told c.args.host in
    is_unprinted _ _ before before (g.H.Host.told c.fail.result.host) refl _ _ _ c.fail.ensures.failed c.new.ensures (IsUnprintedBy.no_text (inl refl) (sym (append-nil before.entries)))
    c.fail.ensures.told c.fail.ensures.world
