use mathlib.Core.Path.{sym, ◌∙◌}
use native.Mathlib.Omega.{arith}
use Rattle.layout.proofs.Numbers.{nothing-spent}
use Rattle.hardener.proofs.Passes.{pass-short, pass-fit, pass-made}
use borrow.Author.Rules.{rules}
use Rattle.hardener.proofs.pass.pass.Goals as goal

pub returns-then-not-fits : goal.returns-then-not-fits
returns-then-not-fits g c = pass-short g.U.Use.comparing c.args.rows.now (g.U.Use.given c.args.used.now) c.args.out.now (omega (arith, c.from-size.ensures, c.line_of.ensures)) (sym c.fits.ensures ∙ c.if-not-fits.true)

pub returns-then-make : goal.returns-then-make
returns-then-make g c = pass-made g.U.Use.comparing c.args.rows.now (g.U.Use.given c.args.used.now) c.args.out.now _ (omega (arith, c.from-size.ensures, c.line_of.ensures)) (pass-fit g.U.Use.comparing c.args.rows.now (g.U.Use.given c.args.used.now) c.args.out.now (omega (arith, c.from-size.ensures, c.line_of.ensures)) (sym c.fits.ensures ∙ c.if-not-fits.false) c.requires.out_len) c.make.ensures c.if-make.true

pub lay_out-requires-clause-map_scopes_in_bounds : goal.lay_out-requires-clause-map_scopes_in_bounds
lay_out-requires-clause-map_scopes_in_bounds g c = (search rules, nothing-spent _, search rules)
