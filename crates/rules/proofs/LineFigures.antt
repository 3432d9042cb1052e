-- What single lines name, by computation. Assumes nothing.
use mathlib.Core.Path.{refl}
use Rattle.rules.specs.Figures.{highest_value}
use Rattle.rules.specs.LineFigures.{LineFigures}

pub line-figures : LineFigures
unfolding highest_value
line-figures =
    record {
      do_none = refl;
      tick_a = refl;
      test_b = refl;
      test_c = refl;
      leave_e = refl;
      out_a = refl;
      call_b = refl;
      back_b = refl;
      ret_a = refl;
    }
