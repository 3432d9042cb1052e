-- Cases (C) and (D) of 01 once more, this time from the theorem: its premises can be met. Assumes nothing.
use mathlib.Core.Path.{◌≡◌, refl}
use mathlib.Core.Bool.{true}
use mathlib.Core.List.{[], ◌∷◌}
use native.Mathlib.Omega.{arith}
use lib.Dec.{lit≤}
use Rattle.rules.specs.Row.{table_of}
use Rattle.rules.specs.Line.{lines_in}
use Rattle.rules.specs.Run.{tally}
use Rattle.rules.specs.Hardened.{counter_form, strike_by_lem, hardened_run}
use Rattle.rules.specs.Demands.{struck_shown, alarm_step, done_at, overflows_at, caught_from, slip_of, Slipped, Told, beyond_m, wide, small}
use Rattle.rules.specs.Match.{shown, quiet_at_lem, quiet_done, matching_of, guard_from_lem}
use Rattle.rules.specs.ReadBack.{source_bytes, is_hardened_lem}
use Rattle.rules.specs.Listing.{variables}
use Rattle.rules.specs.Cases.{rows, lines, given}
use Rattle.rules.proofs.Logic.{clash}
use Rattle.rules.proofs.Compute.{compute}
use Rattle.rules.proofs.Demand3.{demand_3}

listing-hardened : is_hardened_lem lines ≡ true
unfolding rows lines compute
listing-hardened = refl

-- the unstruck run stands before line 4 of its function; place 6 is the ret, and the tick of line 4 is between
pub case-C : struck_shown (hardened_run (lines_in lines) (strike_by_lem 4 6) 20 given)
    ≡ record { outcome = 2; steps = 5; trace = 1 ∷ 3 ∷ []; variables = variables 1 1 0 0 }
unfolding rows lines compute alarm_step done_at overflows_at caught_from guard_from_lem
case-C = (demand_3 lines given 20 4 6 listing-hardened).jumped.caught refl (lit≤ tt) refl

-- place 1 is before the tick of the do at place 0: no guard is between, and the source's run without that do is the one
small-D : Told (counter_form (lines_in lines)) (lines_in lines) (table_of (source_bytes lines)) given 20 0 1 → Slipped (counter_form (lines_in lines)) (lines_in lines) (table_of (source_bytes lines)) given 20 0 1
unfolding rows lines compute guard_from_lem
small-D (beyond_m l q) = absurd (omega arith)
small-D (wide l w q) = clash w refl
small-D (small l w q) = q

pub case-D : shown (hardened_run (lines_in lines) (strike_by_lem 0 1) 20 given) ≡ record { outcome = 1; trace = []; variables = variables 0 1 0 0; functions = 0 ∷ [] }
unfolding rows lines compute tally quiet_at_lem quiet_done matching_of slip_of
case-D = (small-D ((demand_3 lines given 20 0 1 listing-hardened).told refl)).as_slipped
