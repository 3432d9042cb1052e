-- Switches (02, No. 1) in worked cases: a table with its chain, hardened table and runs, and each cause by itself and in its order.
-- crates/chain/proofs/Cases.antt closes them by computation.
use Rattle.std.specs.Prelude.{ℕ, zero, suc, ◌+◌, ◌*◌, ◌/◌, ◌%◌, ◌≡◌, List, [], ◌∷◌, ◌++◌}
use Rattle.rules.specs.declared.answer.Fault.{Fault}
use Rattle.rules.specs.Limits.{no_step}
use Rattle.rules.specs.Row.{row_width}
use Rattle.rules.specs.Line.{line_width}
use Rattle.rules.specs.Switch.{chain_bytes}
use Rattle.rules.specs.Calls.{Running, HardenedRunning, check_call, harden_call, read_back_call, run_source_call, run_hardened_call}
use Rattle.rules.specs.Fault.{fault_call}
use Rattle.rules.specs.Listing.{listed, variables, slots, words, room, wrote, ran, ran_hardened}
use Rattle.rules.specs.Refusals.{function, if_row, else_row, loop_row, end, break, times}

-- v1 = 1 where v0 is 10, 2 where it is 50, else 3
unfoldable pub banded : List ℕ
banded =
    listed row_width
    (0x010000000000 ∷
    0x0a0000000000 ∷
    0x0b0000000a00 ∷
    0x020001000100 ∷
    0x0b0000003200 ∷
    0x020001000200 ∷
    0x0c0000000000 ∷
    0x020001000300 ∷
    0x060000000000 ∷
    0x060000000000 ∷ [])

unfoldable pub banded_chain : List ℕ
banded_chain =
    listed row_width
    (0x010000000000 ∷
    0x030000000a00 ∷
    0x020001000100 ∷
    0x040000000000 ∷
    0x030000003200 ∷
    0x020001000200 ∷
    0x040000000000 ∷
    0x020001000300 ∷
    0x060000000000 ∷
    0x060000000000 ∷
    0x060000000000 ∷ [])

unfoldable pub banded_lines : List ℕ
banded_lines =
    listed line_width
    (0x230000000a000001020001000200050007000400 ∷
    0x2100010001000000000002000000000000000000 ∷
    0x2200000000000100000005000600000000000000 ∷
    0x2400000000000100000006000300020000000c00 ∷
    0x23000000320002030400070008000a000c000800 ∷
    0x2100010002000000000005000000000000000000 ∷
    0x220000000000030000000a000b00000000000000 ∷
    0x240000000000030200000b000900080000000b00 ∷
    0x2100010003000000000007000000000000000000 ∷
    0x220000000000040000000c000d00000000000000 ∷
    0x240000000000040200000d000900080000000b00 ∷
    0x2400000000000200000009000300020000000c00 ∷
    0x2800000000000000000003000400000000000000 ∷ [])

abbrev pub banded_run : (v0 : ℕ) → Running
banded_run v = run_source_call banded (variables v 0 0 0) 20 (slots 20)

abbrev pub banded_hardened : (v0 : ℕ) → HardenedRunning
banded_hardened v = run_hardened_call banded_lines (variables v 0 0 0) 20 no_step 0 (slots 20) words

pub record BandedCases : Type 0 where
  pub chain : chain_bytes banded ≡ banded_chain
  pub listing : harden_call banded (room 270) ≡ wrote 270 banded_lines
  pub read_back : read_back_call banded_lines (room 70) ≡ wrote 70 banded_chain
  pub at_10 : banded_run 10 ≡ ran 20 1 4 (2 ∷ []) (variables 10 1 0 0)
  pub at_50 : banded_run 50 ≡ ran 20 1 6 (5 ∷ []) (variables 50 2 0 0)
  pub at_200 : banded_run 200 ≡ ran 20 1 6 (7 ∷ []) (variables 200 3 0 0)
  pub hardened_10 : banded_hardened 10 ≡ ran_hardened 20 1 5 (2 ∷ []) (variables 10 1 0 0)
  pub hardened_50 : banded_hardened 50 ≡ ran_hardened 20 1 7 (5 ∷ []) (variables 50 2 0 0)
  pub hardened_200 : banded_hardened 200 ≡ ran_hardened 20 1 7 (7 ∷ []) (variables 200 3 0 0)

abbrev pub switch : ℕ
switch = 0x0a0000000000

abbrev pub case : (n : ℕ) → ℕ
case n = 0x0b0000000000 + 256 * (n % 256) + n / 256

abbrev pub default : ℕ
default = 0x0c0000000000

-- the cases 0, 1, .. , so many of them
abbrev pub cases : (count : ℕ) → List ℕ
cases zero = []
cases (suc n) = cases n ++ (case n ∷ [])

-- the number that a function with these rows gets; and its row
abbrev pub inside : List ℕ → ℕ
inside rows = check_call (listed row_width (function ∷ rows ++ (end ∷ [])))

abbrev pub fault_in : List ℕ → Fault
fault_in rows = fault_call (listed row_width (function ∷ rows ++ (end ∷ [])))

abbrev pub fault : (number row : ℕ) → Fault
fault n i = record { number = n; row = i }

pub record SwitchRefusals : Type 0 where
  -- an empty switch, a default alone, a case alone, cases and a default
  pub empty : inside (switch ∷ end ∷ []) ≡ 0
  pub default_alone : inside (switch ∷ default ∷ end ∷ []) ≡ 0
  pub one_case : inside (switch ∷ case 0 ∷ end ∷ []) ≡ 0
  pub three_parts : inside (switch ∷ case 65535 ∷ case 0 ∷ default ∷ end ∷ []) ≡ 0
  -- 3: a field of each row, and a kind beyond 0c
  pub p_15 : inside (0x0a000f000000 ∷ end ∷ []) ≡ 0
  pub p_16 : inside (0x0a0010000000 ∷ end ∷ []) ≡ 3
  pub switch_op : inside (0x0a0100000000 ∷ end ∷ []) ≡ 3
  pub switch_q : inside (0x0a0000010000 ∷ end ∷ []) ≡ 3
  pub switch_n : inside (0x0a0000000100 ∷ end ∷ []) ≡ 3
  pub case_op : inside (switch ∷ 0x0b0100000000 ∷ end ∷ []) ≡ 3
  pub case_p : inside (switch ∷ 0x0b0001000000 ∷ end ∷ []) ≡ 3
  pub case_q : inside (switch ∷ 0x0b0000010000 ∷ end ∷ []) ≡ 3
  pub default_n : inside (switch ∷ 0x0c0000000100 ∷ end ∷ []) ≡ 3
  pub kind_0d : inside (0x0d0000000000 ∷ []) ≡ 3
  -- 4, "A case or default elsewhere", "a row before the first of them"
  pub lone_case : inside (case 0 ∷ []) ≡ 4
  pub lone_default : inside (default ∷ []) ≡ 4
  pub do_first : inside (switch ∷ 0x020000000000 ∷ case 0 ∷ end ∷ []) ≡ 4
  pub do_only : inside (switch ∷ 0x020000000000 ∷ end ∷ []) ≡ 4
  pub switch_first : inside (switch ∷ switch ∷ end ∷ end ∷ []) ≡ 4
  pub case_in_if : inside (switch ∷ case 0 ∷ if_row ∷ case 1 ∷ end ∷ end ∷ []) ≡ 4
  pub break_first : inside (loop_row ∷ switch ∷ break ∷ end ∷ end ∷ []) ≡ 4
  -- 4, "an else straight in either", "or either after a default"
  pub else_in_case : inside (switch ∷ case 0 ∷ else_row ∷ end ∷ []) ≡ 4
  pub else_in_default : inside (switch ∷ default ∷ else_row ∷ end ∷ []) ≡ 4
  pub else_in_if_case : inside (if_row ∷ switch ∷ case 0 ∷ else_row ∷ end ∷ end ∷ []) ≡ 4
  pub else_of_if : inside (if_row ∷ switch ∷ end ∷ else_row ∷ end ∷ []) ≡ 0
  pub case_last : inside (switch ∷ default ∷ case 0 ∷ end ∷ []) ≡ 4
  pub two_defaults : inside (switch ∷ default ∷ default ∷ end ∷ []) ≡ 4
  -- "break still leaves the innermost loop"; something left open
  pub lone_break : inside (switch ∷ case 0 ∷ break ∷ end ∷ []) ≡ 4
  pub break_through : inside (loop_row ∷ switch ∷ case 0 ∷ break ∷ end ∷ end ∷ []) ≡ 0
  pub open_case : inside (switch ∷ case 0 ∷ []) ≡ 4
  pub open_switch : inside (switch ∷ []) ≡ 4
  -- 11, "tested right after 4"; a switch inside has its own numbers
  pub repeated : inside (switch ∷ case 3 ∷ case 3 ∷ end ∷ []) ≡ 11
  pub default_between : inside (switch ∷ case 3 ∷ default ∷ case 3 ∷ end ∷ []) ≡ 4
  pub inside_own : inside (switch ∷ case 3 ∷ switch ∷ case 3 ∷ end ∷ case 4 ∷ end ∷ []) ≡ 0
  pub outside_again : inside (switch ∷ case 3 ∷ switch ∷ case 3 ∷ end ∷ case 3 ∷ end ∷ []) ≡ 11
  pub two_switches : inside (switch ∷ case 3 ∷ end ∷ switch ∷ case 3 ∷ end ∷ []) ≡ 0
  pub field_first : inside (switch ∷ case 3 ∷ 0x0b0100000300 ∷ end ∷ []) ≡ 3
  -- 6, "each case counting as one open if", and 11 before it
  pub cases_16 : inside (switch ∷ cases 16 ++ (end ∷ [])) ≡ 0
  pub cases_17 : inside (switch ∷ cases 17 ++ (end ∷ [])) ≡ 6
  pub repeated_17 : inside (switch ∷ cases 16 ++ (case 3 ∷ end ∷ [])) ≡ 11
  pub loops_14 : inside (times 14 (loop_row ∷ []) ++ switch ∷ cases 2 ++ default ∷ end ∷ times 14 (end ∷ [])) ≡ 0
  pub loops_14_more : inside (times 14 (loop_row ∷ []) ++ switch ∷ cases 3 ++ end ∷ times 14 (end ∷ [])) ≡ 6
  pub loops_16_default : inside (times 16 (loop_row ∷ []) ++ switch ∷ default ∷ end ∷ times 16 (end ∷ [])) ≡ 0
  pub loops_16_empty : inside (times 16 (loop_row ∷ []) ++ switch ∷ end ∷ times 16 (end ∷ [])) ≡ 0
  pub loops_16_case : inside (times 16 (loop_row ∷ []) ++ switch ∷ case 0 ∷ end ∷ times 16 (end ∷ [])) ≡ 6
  -- 6, the regions of the chain: a first case opens one, a later case two, a default after a case one
  pub regions_64 : inside ((switch ∷ cases 16 ++ (end ∷ [])) ++ (switch ∷ cases 16 ++ (end ∷ [])) ++ (loop_row ∷ end ∷ [])) ≡ 0
  pub full_default : inside ((switch ∷ cases 16 ++ (default ∷ end ∷ [])) ++ (switch ∷ cases 15 ++ (default ∷ end ∷ [])) ++ (loop_row ∷ end ∷ switch ∷ default ∷ end ∷ switch ∷ end ∷ [])) ≡ 0
  pub full_case : inside ((switch ∷ cases 16 ++ (default ∷ end ∷ [])) ++ (switch ∷ cases 15 ++ (default ∷ end ∷ [])) ++ (loop_row ∷ end ∷ switch ∷ case 0 ∷ end ∷ [])) ≡ 6
  pub last_case : inside ((switch ∷ cases 16 ++ (default ∷ end ∷ [])) ++ (switch ∷ cases 15 ++ (default ∷ end ∷ [])) ++ (switch ∷ case 0 ∷ end ∷ [])) ≡ 0
  pub last_default : inside ((switch ∷ cases 16 ++ (default ∷ end ∷ [])) ++ (switch ∷ cases 15 ++ (default ∷ end ∷ [])) ++ (switch ∷ case 0 ∷ default ∷ end ∷ [])) ≡ 6
  -- the row of a fault is one of the rows as given
  pub row_of_repeated : fault_in (switch ∷ case 3 ∷ case 3 ∷ end ∷ []) ≡ fault 11 3
  pub row_after_switch : fault_in (switch ∷ case 1 ∷ case 2 ∷ default ∷ end ∷ else_row ∷ []) ≡ fault 4 6
  pub row_of_call : fault_in (switch ∷ case 1 ∷ case 2 ∷ end ∷ 0x090000000100 ∷ []) ≡ fault 7 5
  pub row_of_end : fault_in (switch ∷ case 0 ∷ []) ≡ fault 4 4
  pub row_of_17th : fault_in (switch ∷ cases 17 ++ (end ∷ [])) ≡ fault 6 18
