-- Each check of each guard, by computation. Assumes nothing.
use mathlib.Core.Path.{refl}
use Rattle.rules.specs.Checks.{Checks}
use Rattle.rules.proofs.Compute.{compute}

pub checks : Checks
unfolding compute
checks =
    record {
      tick = refl;
      tick_other = refl;
      test = refl;
      test_other = refl;
      leave = refl;
      leave_child = refl;
      leave_around = refl;
      out = refl;
      out_other = refl;
      call = refl;
      call_other = refl;
      call_deep = refl;
      call_deep_other = refl;
      back = refl;
      back_other = refl;
      back_callee = refl;
      ret = refl;
      ret_other = refl;
      host = refl;
      host_other = refl;
    }
