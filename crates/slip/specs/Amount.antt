-- What a small jump amounts to, as a program says it in one line (02, No. 6). `Says` is that it is what the theorem says.
use Rattle.std.specs.Prelude.{ℕ, ◌+◌, ◌≤◌, ◌<◌, ◌≡◌, Bool, true, false, cond, List, eqb, leb}
use Rattle.rules.specs.Row.{Table, table_of}
use Rattle.rules.specs.Line.{Line, do_line, tick_line, test_line, leave_line, out_line, call_line, back_line, ret_line, line_at, lines_in}
use Rattle.rules.specs.Function.{last_place}
use Rattle.rules.specs.ReadBack.{source_bytes, is_hardened_lem}
use Rattle.rules.specs.Source.{source_run}
use Rattle.rules.specs.Hardened.{Hardened, counter_form, place_line}
use Rattle.rules.specs.Slip.{Slip, untouched, left_out, done_twice}
use Rattle.rules.specs.Demands.{strikes, slip_of}
use Rattle.rules.specs.RunPromise.{state_at, last_at, is_wide, is_small}
use Rattle.state.specs.declared.machine.Registers.{Registers}
use Rattle.state.specs.Machine.{onward}
use Rattle.machine.specs.Step.{Map, Parts, After}
use Rattle.machine.specs.Run.{run_of}
use Rattle.strike.specs.Struck.{first_line, places_in}
use Rattle.slip.specs.declared.amount.Amount.{Amount}
use Rattle.slip.specs.declared.amount.Amount.TheVariants.{NotSmall, Nothing, LeavesOut, Twice}

-- the do of this row, crossed forward or back
abbrev pub slips_by : (row : ℕ) → (back : Bool) → Amount
slips_by row back = cond back (Twice row) (LeavesOut row)

-- across a line: nothing but a do can be crossed
abbrev pub over_line : Line → (back : Bool) → Amount
over_line (do_line o e) back = slips_by e back
over_line (tick_line r e a) back = NotSmall
over_line (test_line o r s t e a b c go) back = NotSmall
over_line (leave_line r s e a b go) back = NotSmall
over_line (out_line r s t e a go) back = NotSmall
over_line (call_line r e a b go) back = NotSmall
over_line (back_line r e a b) back = NotSmall
over_line (ret_line e a) back = NotSmall

unfoldable pub over_do_lem : List Line → (k : ℕ) → (back : Bool) → Amount
over_do_lem ls k back = over_line (line_at ls k) back

-- from line x to line y
unfoldable pub amount_between : List Line → (x y : ℕ) → Amount
amount_between ls x y =
    cond (eqb y x) Nothing (cond (eqb y (x + 1)) (over_do_lem ls x false) (cond (eqb x (y + 1)) (over_do_lem ls y true) NotSmall))

-- ---- of a run by the definitions: from the state in which the jump finds it
unfoldable pub amount_from : (lines : List ℕ) → (place : ℕ) → Hardened → Amount
amount_from bs p s = cond (leb p (last_place (lines_in bs) s.running.function)) (amount_between (lines_in bs) s.running.at (place_line (lines_in bs) p s)) NotSmall

unfoldable pub amount_of : (lines vars : List ℕ) → (budget k place : ℕ) → Amount
amount_of bs vs b k p =
    let F = counter_form (lines_in bs) in
    cond (strikes F (lines_in bs) vs b k) (amount_from bs p (state_at F (lines_in bs) vs k)) NotSmall

-- other bytes are never run
abbrev pub amount_given : (hardened : Bool) → Amount → Amount
amount_given hardened a = cond hardened a NotSmall

-- ---- of the code's run: from where the registers are, to a place of the function that runs
unfoldable pub amount_at : (lines : List ℕ) → Map → Registers → (place : ℕ) → Amount
amount_at bs m h p = cond (leb p (places_in m h)) (amount_between (lines_in bs) h.at (first_line m h + p)) NotSmall

-- after the first k steps, if the budget holds one more and they do not end the run
abbrev pub amount_after : (lines : List ℕ) → Map → (place : ℕ) → After → Amount
amount_after bs m p a = onward a.step (λ k. amount_at bs m a.parts.registers p) NotSmall

unfoldable pub amount_run : (lines : List ℕ) → Map → (budget k place : ℕ) → Parts → Amount
amount_run bs m b k p parts = cond (leb b k) NotSmall (amount_after bs m p (run_of bs m k parts))

-- ---- what the theorem says: the slip, and the row that the source's run reaches in its step
abbrev pub slip_row : Table → (vars : List ℕ) → Slip → ℕ
slip_row t vs untouched = 0
slip_row t vs (left_out j) = (source_run t j vs).state.running.at
slip_row t vs (done_twice j) = (source_run t j vs).state.running.at

abbrev pub amount_by : Slip → (row : ℕ) → Amount
amount_by untouched row = Nothing
amount_by (left_out j) row = LeavesOut row
amount_by (done_twice j) row = Twice row

-- what is said of a jump in the run of a hardened table: of a small one what the theorem says, of any other nothing
pub record Says (lines vars : List ℕ) (budget k place : ℕ) (said : Amount) : Type 0 where
  pub not_struck : strikes (counter_form (lines_in lines)) (lines_in lines) vars budget k ≡ false → said ≡ NotSmall
  pub beyond : last_at (counter_form (lines_in lines)) (lines_in lines) vars k < place → said ≡ NotSmall
  pub wide : is_wide (counter_form (lines_in lines)) (lines_in lines) vars k place → said ≡ NotSmall
  pub small : strikes (counter_form (lines_in lines)) (lines_in lines) vars budget k ≡ true → place ≤ last_at (counter_form (lines_in lines)) (lines_in lines) vars k
      → is_small (counter_form (lines_in lines)) (lines_in lines) vars k place
      → said ≡ amount_by (slip_of (counter_form (lines_in lines)) (lines_in lines) vars k place) (slip_row (table_of (source_bytes lines)) vars (slip_of (counter_form (lines_in lines)) (lines_in lines) vars k place))

pub record AmountPromise (lines vars : List ℕ) (budget k place : ℕ) (said : Amount) : Type 0 where
  pub answers : said ≡ amount_given (is_hardened_lem lines) (amount_of lines vars budget k place)
  pub says : is_hardened_lem lines ≡ true → Says lines vars budget k place said
