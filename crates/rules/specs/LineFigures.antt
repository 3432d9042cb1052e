-- The counter values that single lines name (02, No. 2) in worked cases: e, a, b and c of a guard are such; its region numbers and go, which
-- are 9 here, and the row number of a do are not. A case is named by the field that is the highest in it. proofs/LineFigures.antt closes
-- them by computation.
use Rattle.std.specs.Prelude.{ℕ, ◌≡◌, [], ◌∷◌}
use Rattle.rules.specs.Line.{Line, do_line, tick_line, test_line, leave_line, out_line, call_line, back_line, ret_line, no_operands}
use Rattle.rules.specs.Figures.{highest_value}

abbrev pub named : Line → ℕ
named l = highest_value (l ∷ [])

pub record LineFigures : Type 0 where
  pub do_none : named (do_line no_operands 9) ≡ 0
  pub tick_a : named (tick_line 9 1 2) ≡ 2
  pub test_b : named (test_line no_operands 9 9 9 1 2 4 3 9) ≡ 4
  pub test_c : named (test_line no_operands 9 9 9 1 2 3 4 9) ≡ 4
  pub leave_e : named (leave_line 9 9 4 3 2 9) ≡ 4
  pub out_a : named (out_line 9 9 9 1 2 9) ≡ 2
  pub call_b : named (call_line 9 1 2 3 9) ≡ 3
  pub back_b : named (back_line 9 1 2 3) ≡ 3
  pub ret_a : named (ret_line 1 2) ≡ 2
