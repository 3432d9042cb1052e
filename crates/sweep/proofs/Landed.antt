-- The lines that are told of a jump across one do. Assumes what the loop over the steps keeps.
use mathlib.Core.Path.{ap}
use mathlib.Core.List.{List, []}
use Prim.Native.Nat.{ℕ, ◌-◌}
use native.Mathlib.Omega.{arith}
use lib.ListN.{length, take, drop}
use Rattle.rules.specs.Line.{lines_in}
use Rattle.rules.specs.Function.{start_of}
use Rattle.line.proofs.Decode.{line-bytes}
use Rattle.state.specs.declared.machine.Machine.{Machine}
use Rattle.machine.specs.Step.{Map}
use Rattle.compare.specs.declared.narrow.Narrow.{Narrow}
use Rattle.compare.specs.Narrow.{NarrowIs}
use Rattle.compare.proofs.Landing.{line-there}
use Rattle.sweeper.proofs.Settling.{first_is}
use Rattle.sweeper.specs.Walk.{state_of}
use Rattle.sweeper.proofs.Sweeping.{Sweeping, standing, stands-before}
use Rattle.sweep.specs.Lands.{Lands}

module _ {bs : List ℕ} {mp : Map} {b : ℕ} {tr vs : List ℕ} {k left : ℕ} {m : Machine} {ws : List ℕ} {at : ℕ} (w : Sweeping bs mp b tr vs k left m ws at) where
  pub lands : (r : Narrow) → NarrowIs (lines_in bs) m ws (take (length tr - at) (drop at tr)) left r → Lands bs mp.starts m.registers r.line
  lands r n =
      let st = w.walking.stood in
      let so = w.ready.sound in
      let sb = stands-before w in
      let f = first_is bs mp w.ready k (state_of bs vs k) m ws st in
      let q = ap (start_of (lines_in bs)) (st.stands []).function_is in
      record {
        known = omega (arith, (st.stands []).function_is, (st.stands []).inside.known, so.within.few_functions);
        from_first = omega (arith, f, q, sb.not_before);
        to_first = omega (arith, f, q, sb.across_from, n.line_is);
        in_lines = line-bytes bs m.registers.at (line-there (lines_in bs) m ws (standing w) sb so).0;
      }
