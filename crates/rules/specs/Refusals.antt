-- Each cause of "What turns a call away" (01) by itself, and of two causes the one that is tested first, as worked cases about the
-- public calls. proofs/Refusals.antt closes them by computation.
use Rattle.std.specs.Prelude.{ℕ, zero, suc, ◌≡◌, List, [], ◌∷◌, ◌++◌, replicate, set}
use Rattle.rules.specs.Limits.{no_step}
use Rattle.rules.specs.Row.{row_width}
use Rattle.rules.specs.Calls.{check_call, harden_call, read_back_call, run_source_call, run_hardened_call}
use Rattle.rules.specs.Listing.{listed, slots, room, wrote, wrote_nothing, ran_nothing}
use Rattle.rules.specs.Cases.{rows, lines, given}

-- the number that these rows get
abbrev pub number : List ℕ → ℕ
number numerals = check_call (listed row_width numerals)

abbrev pub function : ℕ
function = 0x010000000000

abbrev pub if_row : ℕ
if_row = 0x030000000000

abbrev pub else_row : ℕ
else_row = 0x040000000000

abbrev pub loop_row : ℕ
loop_row = 0x050000000000

abbrev pub end : ℕ
end = 0x060000000000

abbrev pub break : ℕ
break = 0x070000000000

-- these rows so many times
abbrev pub times : ℕ → List ℕ → List ℕ
times zero xs = []
times (suc n) xs = xs ++ times n xs

pub record Refusals : Type 0 where
  -- 1 by itself, and before 2
  pub ragged : check_call (replicate 7 1) ≡ 1
  pub ragged_first : check_call (replicate 6151 1) ≡ 1
  -- 2, by the length alone
  pub too_long : check_call (replicate 6150 0) ≡ 2
  -- 3: a kind, an op, a p, a q, an unused field
  pub kind_zero : number (0 ∷ []) ≡ 3
  pub kind_thirteen : number (function ∷ 0x0d0000000000 ∷ end ∷ []) ≡ 3
  pub do_op : number (function ∷ 0x020400000000 ∷ end ∷ []) ≡ 3
  pub test_op : number (function ∷ 0x030300000000 ∷ end ∷ end ∷ []) ≡ 3
  pub p_over : number (function ∷ 0x020010000000 ∷ end ∷ []) ≡ 3
  pub q_over : number (function ∷ 0x020100100000 ∷ end ∷ []) ≡ 3
  pub q_unused : number (function ∷ 0x020000010000 ∷ end ∷ []) ≡ 3
  pub n_unused : number (function ∷ 0x020200000100 ∷ end ∷ []) ≡ 3
  pub end_field : number (function ∷ 0x060000000001 ∷ []) ≡ 3
  -- 3 before 4 at a row, and the earlier row first
  pub field_first : number (0x020400000000 ∷ []) ≡ 3
  pub row_first : number (end ∷ 0x0d0000000000 ∷ []) ≡ 4
  -- 4: outside, function in function, else without open then part, break outside a loop, left open
  pub outside : number (end ∷ []) ≡ 4
  pub function_inside : number (function ∷ function ∷ end ∷ end ∷ []) ≡ 4
  pub lone_else : number (function ∷ else_row ∷ end ∷ []) ≡ 4
  pub loop_else : number (function ∷ loop_row ∷ else_row ∷ end ∷ end ∷ []) ≡ 4
  pub second_else : number (function ∷ if_row ∷ else_row ∷ else_row ∷ end ∷ end ∷ []) ≡ 4
  pub lone_break : number (function ∷ if_row ∷ break ∷ end ∷ end ∷ []) ≡ 4
  pub left_open : number (function ∷ end ∷ function ∷ []) ≡ 4
  -- 5, and 4 before it
  pub functions_33 : number (times 32 (function ∷ end ∷ []) ++ (function ∷ end ∷ [])) ≡ 5
  pub functions_32 : number (times 32 (function ∷ end ∷ [])) ≡ 0
  pub misplaced_first : number (times 31 (function ∷ end ∷ []) ++ (function ∷ function ∷ [])) ≡ 4
  -- 6: a 17th open if; before the end's 4
  pub open_17 : number (function ∷ times 17 (if_row ∷ [])) ≡ 6
  pub open_16 : number (function ∷ times 16 (if_row ∷ []) ++ times 17 (end ∷ [])) ≡ 0
  pub regions_65 : number (function ∷ times 64 (if_row ∷ end ∷ []) ++ (end ∷ [])) ≡ 6
  pub regions_64 : number (function ∷ times 63 (if_row ∷ end ∷ []) ++ (end ∷ [])) ≡ 0
  -- 7, and the end's 4 before it
  pub no_function : number (function ∷ 0x090000000100 ∷ end ∷ []) ≡ 7
  pub end_first : number (function ∷ 0x090000000100 ∷ []) ≡ 4
  -- 8, where the output is one byte short, and 7 before it
  pub output_exact : harden_call rows (room 140) ≡ wrote 140 lines
  pub output_short : harden_call rows (room 139) ≡ wrote_nothing 139 8
  pub number_first : harden_call (listed row_width (function ∷ 0x090000000100 ∷ end ∷ [])) [] ≡ wrote_nothing 0 7
  pub read_exact : read_back_call lines (room 36) ≡ wrote 36 rows
  pub read_short : read_back_call lines (room 35) ≡ wrote_nothing 35 8
  -- 9, where a slot or a counter word is missing, and the table's number before it
  pub slots_short : run_source_call rows given 20 (slots 19) ≡ ran_nothing 19 9 given
  pub words_short : run_hardened_call lines given 20 no_step 0 (slots 20) (times 1023 (1 ∷ []))
      ≡ record { run = ran_nothing 20 9 given; words = times 1023 (1 ∷ []) }
  pub table_first : run_source_call [] given 20 [] ≡ ran_nothing 0 1 given
  -- 10: a line's value changed, no bytes, a byte too many; before 8 and 9
  pub changed : run_hardened_call (set lines 12 3) given 20 0 0 [] []
      ≡ record { run = ran_nothing 0 10 given; words = [] }
  pub read_empty : read_back_call [] [] ≡ wrote_nothing 0 10
  pub read_ragged : read_back_call (lines ++ (0 ∷ [])) [] ≡ wrote_nothing 0 10
