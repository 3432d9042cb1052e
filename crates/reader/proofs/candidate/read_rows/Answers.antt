use native.Mathlib.Omega.{arith}
use Rattle.rules.specs.Row.{table_bytes}
use Rattle.rules.specs.ReadBack.{function_row_if}
use Rattle.rows.proofs.Stores.{added-length}
use Rattle.reader.proofs.Passes.{opened_low, dos-none, reading-next, readings}
use borrow.Author.Rules.{rules}
use Rattle.reader.proofs.candidate.read_rows.Goals as goal

pub loop-line-init : goal.loop-line-init
loop-line-init c = search (readings, rules)

pub returns-then-at-gt-LARGEST : goal.returns-then-at-gt-LARGEST
returns-then-at-gt-LARGEST c = search (readings, rules)

pub stand-at-requires : goal.stand-at-requires
stand-at-requires c = (record { table = c.requires.0; inside = omega arith }, c.requires.1, omega (arith, opened_low c.loop-line.opening c.open-opened.ensures, added-length (table_bytes (function_row_if c.loop-line.opening)) c.open-opened.ensures, (dos-none c.past_dos-next.ensures (omega arith) c.loop-line.invariant).length_is))

pub loop-line-preserved : goal.loop-line-preserved
loop-line-preserved c = reading-next (dos-none c.past_dos-next.ensures (omega arith) c.loop-line.invariant) (omega arith) (omega arith) c.open-opened.ensures c.stand-at.ensures c.opens_next-opening.ensures

pub returns : goal.returns
returns c = search (readings, rules)
