-- Two small programs, worked by hand from 01: an else taken and not taken, with a continue; and calls, which return or recurse to the
-- limit. proofs/Worked.antt closes it by computation.
use Rattle.std.specs.Prelude.{ℕ, ◌≡◌, List, [], ◌∷◌, replicate}
use Rattle.rules.specs.Limits.{no_step}
use Rattle.rules.specs.Row.{row_width}
use Rattle.rules.specs.Line.{line_width}
use Rattle.rules.specs.Calls.{Running, HardenedRunning, harden_call, read_back_call, run_source_call, run_hardened_call}
use Rattle.rules.specs.Listing.{listed, variables, slots, words, room, wrote, ran, ran_hardened}

-- while v0 differs from 2 { v0 = v0 + v1; if v0 = 1 { v2 = 7 } else { continue } v3 = v0 }
unfoldable pub turn_rows : List ℕ
turn_rows =
    listed row_width
    (0x010000000000 ∷
    0x050100000200 ∷
    0x020200010000 ∷
    0x030000000100 ∷
    0x020002000700 ∷
    0x040000000000 ∷
    0x080000000000 ∷
    0x060000000000 ∷
    0x020103000000 ∷
    0x060000000000 ∷
    0x060000000000 ∷ [])

-- regions: 0 the function's body, base 1; 1 the loop's, base 5; 2 the then part, base 10; 3 the else part, base 12
unfoldable pub turn_lines : List ℕ
turn_lines =
    listed line_width
    (0x2301000002000001000001000200050003000c00 ∷
    0x2102000100000000000002000000000000000000 ∷
    0x2200000000000100000005000600000000000000 ∷
    0x23000000010001020300060007000a000c000700 ∷
    0x2100020007000000000004000000000000000000 ∷
    0x220000000000020000000a000b00000000000000 ∷
    0x240000000000020100000b000800070000000900 ∷
    0x250000000000030001000c000100000000000000 ∷
    0x240000000000030100000d000800070000000900 ∷
    0x2101030000000000000008000000000000000000 ∷
    0x2200000000000100000008000900000000000000 ∷
    0x2400000000000100000009000100020000000000 ∷
    0x2800000000000000000003000400000000000000 ∷ [])

-- function 0: call 1; v2 = 5. Function 1: if v0 differs from 0 { v0 = v0 - v1; call 1 }
unfoldable pub call_rows : List ℕ
call_rows =
    listed row_width
    (0x010000000000 ∷
    0x090000000100 ∷
    0x020002000500 ∷
    0x060000000000 ∷
    0x010000000000 ∷
    0x030100000000 ∷
    0x020300010000 ∷
    0x090000000100 ∷
    0x060000000000 ∷
    0x060000000000 ∷ [])

-- regions: function 0's body, base 1; function 1's body, base 6, and its then part, base 10
unfoldable pub call_lines : List ℕ
call_lines =
    listed line_width
    (0x2600000000000000000001000200060000000500 ∷
    0x2700000000000000000002000300090000000000 ∷
    0x2100020005000000000002000000000000000000 ∷
    0x2200000000000000000003000400000000000000 ∷
    0x2800000000000000000004000500000000000000 ∷
    0x23010000000000010000060007000a0008000b00 ∷
    0x2103000100000000000006000000000000000000 ∷
    0x220000000000010000000a000b00000000000000 ∷
    0x260000000000010000000b000c00060000000500 ∷
    0x270000000000010000000c000d00090000000000 ∷
    0x240000000000010000000d000800070000000b00 ∷
    0x2800000000000000000008000900000000000000 ∷ [])

-- a run with so many slots and that budget, and no jump
abbrev pub source : (rows vars : List ℕ) → (budget : ℕ) → Running
source rows vs b = run_source_call rows vs b (slots b)

abbrev pub hardened : (lines vars : List ℕ) → (budget : ℕ) → HardenedRunning
hardened lines vs b = run_hardened_call lines vs b no_step 0 (slots b) words

-- The first round takes the then part and passes the else part, the second takes the else part and its continue: rows 1 2 3 4 5 8 9,
-- 1 2 3 6, 1, 10. With v0 = v1 = 1 function 1 calls itself once and both calls return: rows 1, 5 6 7, 5 9, 8 9, 2 3. With v1 = 0 it
-- calls itself until 16 functions are open: one row and then 15 times three, and the last budgeted step ends with 3.
pub record Worked : Type 0 where
  pub turns_harden : harden_call turn_rows (room 280) ≡ wrote 280 turn_lines
  pub turns_read : read_back_call turn_lines (room 70) ≡ wrote 70 turn_rows
  pub turns_source : source turn_rows (variables 0 1 0 0) 20
      ≡ ran 20 1 13 (2 ∷ 4 ∷ 8 ∷ 2 ∷ []) (variables 2 1 7 1)
  pub turns_hardened : hardened turn_lines (variables 0 1 0 0) 20
      ≡ ran_hardened 20 1 17 (2 ∷ 4 ∷ 8 ∷ 2 ∷ []) (variables 2 1 7 1)
  pub calls_harden : harden_call call_rows (room 240) ≡ wrote 240 call_lines
  pub calls_read : read_back_call call_lines (room 60) ≡ wrote 60 call_rows
  pub calls_source : source call_rows (variables 1 1 0 0) 20 ≡ ran 20 1 10 (6 ∷ 2 ∷ []) (variables 0 1 5 0)
  pub calls_hardened : hardened call_lines (variables 1 1 0 0) 20
      ≡ ran_hardened 20 1 14 (6 ∷ 2 ∷ []) (variables 0 1 5 0)
  pub deep_source : source call_rows (variables 1 0 0 0) 46 ≡ ran 46 3 46 (replicate 15 6) (variables 1 0 0 0)
  pub deep_hardened : hardened call_lines (variables 1 0 0 0) 61
      ≡ ran_hardened 61 3 61 (replicate 15 6) (variables 1 0 0 0)
