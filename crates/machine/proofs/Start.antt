-- What a run of the code starts in stands for the start of the hardened machine. Assumes a hardened table.
use mathlib.Core.Path.{◌≡◌, refl, sym, ap, ◌∙◌, subst}
use mathlib.Core.List.{List}
use Prim.Native.Nat.{ℕ, ◌≤◌}
use native.Mathlib.Omega.{arith}
use lib.ListN.{length, length-set}
use Rattle.rules.specs.Line.{Line, lines_in}
use Rattle.rules.specs.Hardened.{clear, put, hardened_start}
use Rattle.state.specs.declared.machine.Machine.{Machine}
use Rattle.state.specs.Machine.{first_registers, begun_at}
use Rattle.state.proofs.Begun.{begins}
use Rattle.guard.specs.Counters.{fresh_at}
use Rattle.guard.proofs.Zeroed.{length-zeroed}
use Rattle.machine.specs.Step.{parts_of}
use Rattle.machine.specs.Run.{parts_in}
use Rattle.machine.specs.Stands.{Own, Sound, Stands, Going}
use Rattle.machine.proofs.Own.{own_fresh}

stands-first : (ls : List Line) → Sound ls → (ks fs vs ws tr : List ℕ) → length ks ≡ 16 → length fs ≡ 16 → length ws ≡ 1024 → Own ws 0 (put 0 1 clear)
    → Stands ls tr (parts_of (first_registers 0) ks fs vs ws tr) (hardened_start vs)
stands-first ls so ks fs vs ws tr a b c o =
    record {
      sizes = record { deep = omega arith; resumes_are = a; functions_are = b; words_are = c };
      function_is = refl;
      at_is = refl;
      inside = so.first;
      own_is = o;
      waiting = tt;
      last_is = refl;
      vars_are = refl;
      traces = record { slots_are = refl; traced_is = refl };
    }

module _ (bs vs ws tr : List ℕ) (x : Machine) (so : Sound (lines_in bs)) (bg : x ≡ begun_at 0 vs) (long : length ws ≡ 1024) (b : ℕ) (h : b ≤ length tr) (few : b ≤ 65535) where
  fresh-long : length (fresh_at ws 0 1) ≡ 1024
  fresh-long = simp length-set (length-zeroed ws 0 64 (omega arith) ∙ long)

  pub stands-start : Stands (lines_in bs) tr (parts_in x (fresh_at ws 0 1) tr) (hardened_start vs)
  stands-start =
      subst (λ y. Stands (lines_in bs) tr (parts_of y x.resumes x.functions x.variables (fresh_at ws 0 1) tr) (hardened_start vs)) (sym (begins bg).registers_are)
      (subst (λ y. Stands (lines_in bs) tr (parts_of (first_registers 0) x.resumes x.functions y (fresh_at ws 0 1) tr) (hardened_start vs)) (sym (begins bg).vars_are)
      (stands-first (lines_in bs) so x.resumes x.functions vs (fresh_at ws 0 1) tr (begins bg).resumes_are (begins bg).functions_are fresh-long (own_fresh ws 0 1 (omega arith))))

  no_steps : x.registers.steps ≡ 0
  no_steps = ap (λ y. y.steps) (begins bg).registers_are

  none-traced : x.registers.traced ≡ 0
  none-traced = ap (λ y. y.traced) (begins bg).registers_are

  pub going_start : Going (lines_in bs) b (parts_in x (fresh_at ws 0 1) tr)
  going_start =
      record {
        state = hardened_start vs;
        held = tr;
        stands = stands-start;
        few = omega (arith, no_steps);
        slots = omega (arith, no_steps);
        traced = omega (arith, none-traced);
      }
