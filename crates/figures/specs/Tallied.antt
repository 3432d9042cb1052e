-- The sums so far in few numbers, and what a row does to them. Assumes nothing: these are definitions.
use Rattle.std.specs.Prelude.{ℕ, ◌+◌, ◌*◌, ◌-◌, ◌/◌, ◌%◌, max, ◌≤◌, ◌<◌, ◌≡◌, Bool, cond, List, eqb, ltb, length, get_or}
use Rattle.rules.specs.declared.kind.Kind.{Kind}
use Rattle.rules.specs.declared.kind.Kind.TheVariants.{Function, If, Else}
use Rattle.rules.specs.declared.sums.Sums.{Sums}
use Rattle.rules.specs.Row.{row_width, kind_of}
use Rattle.rules.specs.Switch.{given_of, chain_to}
use Rattle.rules.specs.Figures.{lines_by, values_by, sums_of}
use Rattle.figures.specs.declared.tally.Tally.{Tally}
use Rattle.figures.specs.Counted.{regions_by, after_switch}

-- lines, values and regions in one number: the first two are less than 65,536
abbrev pub packed : (lines values regions : ℕ) → ℕ
packed l v r = l + 65536 * v + 4294967296 * r

-- what a row of this kind adds
abbrev pub weight : Kind → ℕ
weight k = packed (lines_by k) (values_by k) (regions_by k)

-- more than the first byte of any row of 01
abbrev pub kinds : ℕ
kinds = 10

pub record Weights (by : List ℕ) : Type 0 where
  pub long : length by ≡ kinds
  pub each : (i : ℕ) → i < kinds → get_or by i 0 ≡ weight (kind_of i)

-- a row of this kind more, which opens no function
abbrev pub added : Kind → Tally → Tally
added k t = record { all = t.all + weight k; before = t.before; most = t.most }

-- the regions opened in all functions together
abbrev pub regions_all : Tally → ℕ
regions_all t = t.all / 4294967296

-- a function more; the regions of the one before it are compared with the most so far
abbrev pub begun_by : Tally → Tally
begun_by t = record { all = t.all + weight Function; before = regions_all t; most = max t.most (regions_all t - t.before) }

-- a row of 01, by its first byte
unfoldable pub plain_tally : (byte : ℕ) → Tally → Tally
plain_tally b t = cond (eqb b 0x01) (begun_by t) (added (kind_of b) t)

-- a row of a switch
abbrev pub else_tally : (first : Bool) → Tally → Tally
else_tally first t = cond first t (added Else t)

unfoldable pub part_tally : (byte : ℕ) → (first : Bool) → Tally → Tally
part_tally b first t = cond (eqb b 0x0b) (added If (else_tally first t)) (cond (eqb b 0x0c) (else_tally first t) t)

abbrev pub row_tally : (byte : ℕ) → (first : Bool) → Tally → Tally
row_tally b first t = cond (ltb b kinds) (plain_tally b t) (part_tally b first t)

-- the sums by themselves
abbrev pub sums_in : Tally → Sums
sums_in t =
    record {
      lines = t.all % 65536;
      value = t.all / 65536 % 65536;
      opened = regions_all t - t.before;
      most = max t.most (regions_all t - t.before);
    }

-- far from sixty-four bits, and below it by some rows
abbrev pub top : ℕ
top = 4294967296 * 60000

abbrev pub room : ℕ
room = 4294967296 * 50000

-- the numbers may take a row, and the regions before the open function are some of all
pub record Fits (t : Tally) : Type 0 where
  pub all_low : t.all < room
  pub most_low : t.most < 50000
  pub before_low : t.before ≤ regions_all t

-- they are these sums; each is at most m
pub record Tells (m : ℕ) (t : Tally) (s : Sums) : Type 0 where
  pub all_is : t.all ≡ packed s.lines s.value (t.before + s.opened)
  pub most_is : s.most ≡ max t.most s.opened
  pub lines_low : s.lines ≤ m
  pub value_low : s.value ≤ m
  pub regions_low : t.before + s.opened ≤ m
  pub most_low : t.most ≤ m

-- after the rows before row at
pub record Counting (bs : List ℕ) (at : ℕ) (first : Bool) (t : Tally) : Type 0 where
  pub not_past : row_width * at ≤ length bs
  pub first_is : first ≡ after_switch (given_of bs) at
  pub tells : Tells (4 * at) t (sums_of (chain_to (given_of bs) at))
