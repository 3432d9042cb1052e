-- How much a table will take (02, No. 2): "the line count, the most regions that a function has and the highest counter value that a line
-- names". They are counted in the hardened table; sums over the rows, which write no table, give the same. proofs/Figures/ proves it.
use Rattle.std.specs.Prelude.{ℕ, zero, suc, ◌+◌, max, ◌≡◌, Bool, false, cond, ◌&&◌, ◌||◌, List, [], ◌∷◌, eqb, length}
use Rattle.rules.specs.declared.sums.Sums.{Sums}
use Rattle.rules.specs.declared.kind.Kind.{Kind}
use Rattle.rules.specs.declared.kind.Kind.TheVariants.{Function, Do, If, Else, Loop, End, Break, Continue, Call, Unknown}
use Rattle.rules.specs.Verdict.{Accepted}
use Rattle.rules.specs.Limits.{max_regions}
use Rattle.rules.specs.Row.{Table, table_of}
use Rattle.rules.specs.Scan.{body, shape_of, regions_after, is_function_lem}
use Rattle.rules.specs.Check.{verdict_of}
use Rattle.rules.specs.Value.{takes}
use Rattle.rules.specs.Line.{Line, do_line, tick_line, test_line, leave_line, out_line, call_line, back_line, ret_line, line_at}
use Rattle.rules.specs.Harden.{line_count, harden}
use Rattle.rules.specs.Function.{function_at}

-- ---- in the hardened table
-- the counter values that a line names: e, a, b and c of a guard; the e of a do is a row number
abbrev pub values_in : Line → List ℕ
values_in (do_line o e) = []
values_in (tick_line r e a) = e ∷ a ∷ []
values_in (test_line o r s t e a b c go) = e ∷ a ∷ b ∷ c ∷ []
values_in (leave_line r s e a b go) = e ∷ a ∷ b ∷ []
values_in (out_line r s t e a go) = e ∷ a ∷ []
values_in (call_line r e a b go) = e ∷ a ∷ b ∷ []
values_in (back_line r e a b) = e ∷ a ∷ b ∷ []
values_in (ret_line e a) = e ∷ a ∷ []

abbrev pub highest : List ℕ → ℕ
highest [] = 0
highest (x ∷ xs) = max x (highest xs)

-- "the highest counter value that a line names"
unfoldable pub highest_value : List Line → ℕ
highest_value [] = 0
highest_value (l ∷ ls) = max (highest (values_in l)) (highest_value ls)

-- the line is a guard of region g: it checks that region's counter
abbrev pub guards : (g : ℕ) → Line → Bool
guards g (do_line o e) = false
guards g (tick_line r e a) = eqb r g
guards g (test_line o r s t e a b c go) = eqb r g
guards g (leave_line r s e a b go) = eqb r g
guards g (out_line r s t e a go) = eqb r g
guards g (call_line r e a b go) = eqb r g
guards g (back_line r e a b) = eqb r g
guards g (ret_line e a) = eqb 0 g

-- one of the first so many lines is a guard of region g of function n
unfoldable pub has_region : List Line → (n g count : ℕ) → Bool
has_region ls n g zero = false
has_region ls n g (suc k) = has_region ls n g k || (eqb (function_at ls k) n && guards g (line_at ls k))

-- how many of the first so many regions function n has
unfoldable pub regions_in : List Line → (n count : ℕ) → ℕ
regions_in ls n zero = 0
regions_in ls n (suc g) = regions_in ls n g + cond (has_region ls n g (length ls)) 1 0

-- the most regions that one of the first so many functions has
unfoldable pub most_in : List Line → (count : ℕ) → ℕ
most_in ls zero = 0
most_in ls (suc n) = max (most_in ls n) (regions_in ls n max_regions)

-- "the most regions that a function has"
abbrev pub most_regions : List Line → ℕ
most_regions ls = most_in ls (function_at ls (length ls))

-- ---- by sums over the rows. What an end has is counted with the row that opens what it ends: so the end of a switch, which stands for as
-- many ends as it has cases, adds nothing.
-- the lines of a row
abbrev pub lines_by : Kind → ℕ
lines_by Function = line_count Function + line_count End
lines_by Do = line_count Do
lines_by If = line_count If + line_count End
lines_by Else = line_count Else
lines_by Loop = line_count Loop + line_count End
lines_by End = 0
lines_by Break = line_count Break
lines_by Continue = line_count Continue
lines_by Call = line_count Call
lines_by Unknown = line_count Unknown

-- the values of a row: what it takes, and the first value of the region that it opens
abbrev pub values_by : Kind → ℕ
values_by Function = 1 + takes End body
values_by Do = takes Do body
values_by If = 1 + takes If body
values_by Else = 1 + takes Else body
values_by Loop = 1 + takes Loop body
values_by End = 0
values_by Break = takes Break body
values_by Continue = takes Continue body
values_by Call = takes Call body
values_by Unknown = takes Unknown body

-- the regions of the function that is open after a row: a function begins with its body
abbrev pub opened_by : Kind → (opened : ℕ) → ℕ
opened_by k o = cond (is_function_lem k) 1 (regions_after (shape_of k) o)

abbrev pub no_sums : Sums
no_sums = record { lines = 0; value = 0; opened = 0; most = 0 }

abbrev pub counted : Kind → Sums → Sums
counted k s =
    record {
      lines = s.lines + lines_by k;
      value = s.value + values_by k;
      opened = opened_by k s.opened;
      most = max s.most (opened_by k s.opened);
    }

-- more rows
unfoldable pub sums_from : Table → Sums → Sums
sums_from [] s = s
sums_from (r ∷ rs) s = sums_from rs (counted r.kind s)

abbrev pub sums_of : Table → Sums
sums_of t = sums_from t no_sums

-- ---- they agree, for every accepted table
pub record Agree (ls : List Line) (s : Sums) : Type 0 where
  pub lines_agree : length ls ≡ s.lines
  pub regions_agree : most_regions ls ≡ s.most
  pub value_agrees : highest_value ls ≡ s.value

abbrev pub SumsAgree : Type 0
SumsAgree = (rows : List ℕ) → verdict_of rows ≡ Accepted → Agree (harden (table_of rows)) (sums_of (table_of rows))
