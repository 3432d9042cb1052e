-- The map of a function: for each line that its run is struck at and each place that it is struck to, the worst that any such strike of the
-- sweep ended with. How a strike ends is rules/specs/Sweep's; nothing here knows which strikes need no run.
use Rattle.std.specs.Prelude.{ℕ, zero, suc, ◌<◌, ◌≡◌, cond, ◌&&◌, List, eqb, ltb, length, get_or}
use Rattle.rules.specs.declared.ending.Ending.{Ending}
use Rattle.rules.specs.declared.ending.Ending.TheVariants.{Alarmed, Same, Other, Unfinished}
use Rattle.rules.specs.Limits.{max_lines}
use Rattle.rules.specs.Line.{Line}
use Rattle.rules.specs.Form.{Form}
use Rattle.rules.specs.Hardened.{counter_form}
use Rattle.rules.specs.RunPromise.{state_at}
use Rattle.rules.specs.Sweep.{unstruck_run, struck_ending}
use Rattle.cells.specs.declared.rank.Rank.{Rank}
use Rattle.cells.specs.declared.rank.Rank.TheVariants as ranks

-- how bad an ending is
abbrev pub rank : Ending → Rank
rank Alarmed = ranks.Alarmed
rank Same = ranks.Same
rank Unfinished = ranks.Unfinished
rank Other = ranks.Other

-- the higher, the worse; 0 is a pair that was never struck
abbrev pub badness : Rank → ℕ
badness ranks.Never = 0
badness ranks.Alarmed = 1
badness ranks.Same = 2
badness ranks.Unfinished = 3
badness ranks.Other = 4

abbrev pub worse : Rank → Rank → Rank
worse x y = cond (ltb (badness x) (badness y)) y x

-- the strike before step k to place p, where function f then stands before line y
unfoldable pub strike_rank : {H : Type 0} → Form H → List Line → (vars : List ℕ) → (budget f y p k : ℕ) → Rank
strike_rank F ls vs b f y p k =
    let r = (state_at F ls vs k).running in
    cond (eqb r.function f && eqb r.at y) (rank (struck_ending F ls vs b k p)) ranks.Never

-- the worst of the steps 0 to n - 1
unfoldable pub worst_to : (n : ℕ) → (ℕ → Rank) → Rank
worst_to zero g = ranks.Never
worst_to (suc n) g = worse (worst_to n g) (g n)

-- the worst of the pair, over the whole run
abbrev pub worst : {H : Type 0} → Form H → List Line → (vars : List ℕ) → (budget f y p : ℕ) → Rank
worst F ls vs b f y p = worst_to (unstruck_run F ls vs b).steps (strike_rank F ls vs b f y p)

-- a cell for each line
pub record ColumnIs (ls : List Line) (vars : List ℕ) (budget f p : ℕ) (column : List Rank) : Type 0 where
  pub long : length column ≡ max_lines
  pub each : (y : ℕ) → y < max_lines → get_or column y ranks.Never ≡ worst (counter_form ls) ls vars budget f y p
