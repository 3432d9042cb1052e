-- The listing and the ten cases of 01, "A table and its listing", as one table about the public calls, from bytes.
-- proofs/Cases.antt closes it by computation.
use Rattle.std.specs.Prelude.{ℕ, ◌≡◌, List, [], ◌∷◌}
use Rattle.rules.specs.Limits.{no_step}
use Rattle.rules.specs.Row.{row_width}
use Rattle.rules.specs.Line.{line_width}
use Rattle.rules.specs.Calls.{HardenedRunning, harden_call, read_back_call, run_source_call, run_hardened_call}
use Rattle.rules.specs.Listing.{listed, variables, slots, words, room, wrote, wrote_nothing, ran, ran_hardened}

-- "Input:"
unfoldable pub rows : List ℕ
rows =
    listed row_width
    (0x010000000000 ∷
    0x020000000200 ∷
    0x050100000000 ∷
    0x020300010000 ∷
    0x060000000000 ∷
    0x060000000000 ∷ [])

-- "Output:"
unfoldable pub lines : List ℕ
lines =
    listed line_width
    (0x2100000002000000000001000000000000000000 ∷
    0x2200000000000000000001000200000000000000 ∷
    0x2301000000000001000002000300060004000600 ∷
    0x2103000100000000000003000000000000000000 ∷
    0x2200000000000100000006000700000000000000 ∷
    0x2400000000000100000007000200030000000200 ∷
    0x2800000000000000000004000500000000000000 ∷ [])

-- "With v1 = 1, all else 0, budget 20 and no jump unless named"
abbrev pub given : List ℕ
given = variables 0 1 0 0

abbrev pub hardened : (budget k place : ℕ) → HardenedRunning
hardened b k p = run_hardened_call lines given b k p (slots 20) words

pub record Cases : Type 0 where
  pub listing : harden_call rows (room 150) ≡ wrote 150 lines
  pub read_back : read_back_call lines (room 40) ≡ wrote 40 rows
  pub A : run_source_call rows given 20 (slots 20) ≡ ran 20 1 9 (1 ∷ 3 ∷ 3 ∷ []) (variables 0 1 0 0)
  pub B : hardened 20 no_step 0 ≡ ran_hardened 20 1 12 (1 ∷ 3 ∷ 3 ∷ []) (variables 0 1 0 0)
  pub C : hardened 20 4 6 ≡ ran_hardened 20 2 5 (1 ∷ 3 ∷ []) (variables 1 1 0 0)
  pub D : hardened 20 0 1 ≡ ran_hardened 20 1 3 [] (variables 0 1 0 0)
  pub E : hardened 20 0 7 ≡ ran_hardened 20 2 1 [] (variables 0 1 0 0)
  pub F : hardened 20 0 8 ≡ ran_hardened 20 4 0 [] (variables 0 1 0 0)
  pub G : hardened 11 no_step 0 ≡ ran_hardened 20 0 11 (1 ∷ 3 ∷ 3 ∷ []) (variables 0 1 0 0)
  pub H : harden_call [] (room 40) ≡ wrote_nothing 40 1
  pub I : harden_call (listed row_width (0x010000000000 ∷ [])) (room 40) ≡ wrote_nothing 40 4
  pub J : harden_call (listed row_width (0x010000000000 ∷ 0x060000000000 ∷ [])) (room 40)
      ≡ wrote 40 (listed line_width (0x2800000000000000000001000200000000000000 ∷ []))
