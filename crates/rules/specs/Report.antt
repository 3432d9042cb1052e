-- The customer's report as a worked case: a break inside ifs inside a loop, then two dos that load the fee anew.
-- proofs/Report.antt closes it by computation; the lines and answers here are worked by hand from 01.
use Rattle.std.specs.Prelude.{ℕ, ◌≡◌, List, [], ◌∷◌}
use Rattle.rules.specs.Limits.{no_step}
use Rattle.rules.specs.Row.{row_width}
use Rattle.rules.specs.Line.{line_width}
use Rattle.rules.specs.Calls.{HardenedRunning, harden_call, run_source_call, run_hardened_call}
use Rattle.rules.specs.Listing.{listed, variables, slots, words, room, wrote, ran, ran_hardened}

-- v0 = 3; while v0 differs from 0 { if v0 = 1 { if v1 = 1 { break } } v0 = v0 - v1 } v2 = 500; v3 = v2
unfoldable pub rows : List ℕ
rows =
    listed row_width
    (0x010000000000 ∷
    0x020000000300 ∷
    0x050100000000 ∷
    0x030000000100 ∷
    0x030001000100 ∷
    0x070000000000 ∷
    0x060000000000 ∷
    0x060000000000 ∷
    0x020300010000 ∷
    0x060000000000 ∷
    0x02000200f401 ∷
    0x020103020000 ∷
    0x060000000000 ∷ [])

-- regions: 0 the function's body, base 1; 1 the loop's, base 8; 2 and 3 the then parts, bases 12 and 15
unfoldable pub lines : List ℕ
lines =
    listed line_width
    (0x2100000003000000000001000000000000000000 ∷
    0x2200000000000000000001000200000000000000 ∷
    0x2301000000000001000002000300080004000b00 ∷
    0x23000000010001020100080009000c000a000800 ∷
    0x230001000100020302000c000d000f000e000700 ∷
    0x250000000000030001000f000400000000000b00 ∷
    0x2400000000000302000010000e000d0000000700 ∷
    0x240000000000020100000e000a00090000000800 ∷
    0x2103000100000000000008000000000000000000 ∷
    0x220000000000010000000a000b00000000000000 ∷
    0x240000000000010000000b000200030000000200 ∷
    0x21000200f401000000000a000000000000000000 ∷
    0x2200000000000000000004000500000000000000 ∷
    0x210103020000000000000b000000000000000000 ∷
    0x2200000000000000000005000600000000000000 ∷
    0x2800000000000000000006000700000000000000 ∷ [])

abbrev pub given : List ℕ
given = variables 0 1 0 0

abbrev pub hardened : (budget k place : ℕ) → HardenedRunning
hardened b k p = run_hardened_call lines given b k p (slots 30) words

-- The unstruck run does 21 steps for the source's 16, one more for each do, and both quote 500. A jump that comes with the
-- break behind it (step 16, before line 11) and goes over both dos to the ret ends in an alarm instead of a fee of 0.
pub record Report : Type 0 where
  pub hardens : harden_call rows (room 330) ≡ wrote 330 lines
  pub source : run_source_call rows given 30 (slots 30)
      ≡ ran 30 1 16 (1 ∷ 8 ∷ 8 ∷ 10 ∷ 11 ∷ []) (variables 1 1 500 500)
  pub unstruck : hardened 30 no_step 0 ≡ ran_hardened 30 1 21 (1 ∷ 8 ∷ 8 ∷ 10 ∷ 11 ∷ []) (variables 1 1 500 500)
  pub caught : hardened 30 16 15 ≡ ran_hardened 30 2 17 (1 ∷ 8 ∷ 8 ∷ []) (variables 1 1 0 0)
