use Rattle.std.proofs.lemmas.Result.{err_from_is_err_and}
use Rattle.given.proofs.Spans.{refused-of, one_of, else-bytes}
use mathlib.Core.Path.{refl}
use Rattle.rules.specs.declared.kind.Kind.TheVariants.{Else}
use Rattle.rules.specs.Switch.{bare_row}
use Rattle.given.proofs.span.elses.Goals as goal

pub returns-in_err-after : goal.returns-in_err-after
returns-in_err-after c = let p = err_from_is_err_and c.from_residual.result c.from_residual.ensures.1 in rw (p.1, p.2) (refused-of (bare_row Else) c.requires.count_bound c.if-count-eq0.false c.turn.ensures refl c.in_err-after.was)

pub returns : goal.returns
returns c = one_of (bare_row Else) c.requires.count_bound c.if-count-eq0.false c.turn.ensures refl c.in_ok-after.was (else-bytes c.bare.ensures) c.store.ensures
