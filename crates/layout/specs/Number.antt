-- What the passes that number the rows leave: what was taken, the bases of the regions, the values of the rows.
use Rattle.std.specs.Prelude.{ℕ, zero, suc, ◌+◌, ◌/◌, ◌≤◌, ◌<◌, ◌≡◌, List, length, get_or, set}
use Rattle.rules.specs.Limits.{max_rows}
use Rattle.rules.specs.Row.{Table, table_of, kind_at}
use Rattle.rules.specs.Scan.{open_at, region_of, regions}
use Rattle.rules.specs.Value.{takes_in, taken, size, base, value_in}

-- what row i takes in its own region, and its value
unfoldable pub takes_at : Table → (i : ℕ) → ℕ
takes_at t i = takes_in (kind_at t i) (region_of (open_at t i)) (open_at t i)

unfoldable pub value_of : Table → (i : ℕ) → ℕ
value_of t i = value_in t i (open_at t i)

-- what the rows before row i take in its region
unfoldable pub took_before : Table → (i : ℕ) → ℕ
took_before t i = taken t (region_of (open_at t i)) i

-- word k is that of row k, for the rows before row n
pub record Took (bs took : List ℕ) (n : ℕ) : Type 0 where
  pub each : (k : ℕ) → k < n → get_or took k 0 ≡ took_before (table_of bs) k

-- word g is what the rows before row i take in region g
pub record Spent (bs spent : List ℕ) (i : ℕ) : Type 0 where
  pub room : 1025 ≤ length spent
  pub each : (g : ℕ) → get_or spent g 0 ≡ taken (table_of bs) g i

-- row i is added: the words of the regions, and word i of what was taken before
pub record Spends (bs : List ℕ) (i : ℕ) (spent' took took' : List ℕ) : Type 0 where
  pub spent_is : Spent bs spent' (suc i)
  pub took_is : took' ≡ set took i (took_before (table_of bs) i)

-- 1 and the sizes of the regions before region g, where word h of the list is one below the size of region h
unfoldable pub sums : List ℕ → (g : ℕ) → ℕ
sums l zero = 1
sums l (suc g) = sums l g + suc (get_or l g 0)

-- 02, No. 3: "a running sum that adds each region's size once, in the order the regions open, and show that it gives every region 01's base".
-- Of the list only the words of the regions opened before region g count. proofs/Numbers.antt proves it.
abbrev pub RunningSum : Type 0
RunningSum = (t : Table) (l : List ℕ) (g : ℕ) → ((h : ℕ) → h < g → suc (get_or l h 0) ≡ size t h) → sums l g ≡ base t g

pub record Summed (spent sums_are : List ℕ) (count : ℕ) : Type 0 where
  pub each : (g : ℕ) → g < count → get_or sums_are g 0 ≡ sums spent g

-- word g is the base of region g
pub record Based (bs bases : List ℕ) : Type 0 where
  pub room : 1025 ≤ length bases
  pub each : (g : ℕ) → g ≤ regions (table_of bs) (length bs / 6) → get_or bases g 0 ≡ base (table_of bs) g

-- word i is the value of row i
pub record Valued (bs values : List ℕ) : Type 0 where
  pub room : max_rows ≤ length values
  pub each : (i : ℕ) → i < length bs / 6 → get_or values i 0 ≡ value_of (table_of bs) i
