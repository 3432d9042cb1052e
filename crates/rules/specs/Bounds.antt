-- What every hardened table keeps within, as a type: the machine's arrays and 16 bits. proofs/Bounds.antt proves it.
use Rattle.std.specs.Prelude.{ℕ, suc, ◌*◌, ◌≤◌, ◌<◌, ◌≡◌, List, length}
use Rattle.rules.specs.declared.operands.Operands.{Operands}
use Rattle.rules.specs.Verdict.{Accepted}
use Rattle.rules.specs.Limits.{max_rows, max_functions, max_regions, max_variables}
use Rattle.rules.specs.Bytes.{AreBytes}
use Rattle.rules.specs.Row.{table_of}
use Rattle.rules.specs.Check.{verdict_of}
use Rattle.rules.specs.Line.{Line, do_line, tick_line, test_line, leave_line, out_line, call_line, back_line, ret_line, line_at}
use Rattle.rules.specs.Function.{function_at, start_of, finish_of}
use Rattle.rules.specs.Harden.{harden}

-- sixteen bits
abbrev pub Word : ℕ → Type 0
Word x = x < 65536

pub record VariablesIn (o : Operands) : Type 0 where
  pub op_in : o.op < 4
  pub p_in : o.p < max_variables
  pub q_in : o.q < max_variables
  pub n_in : Word o.n

-- a line number inside function f
pub record LineIn (ls : List Line) (f k : ℕ) : Type 0 where
  pub not_before : start_of ls f ≤ k
  pub not_after : k < finish_of ls f
  pub in_table : k < length ls

-- what line k of function f may hold: regions below 64, variables below 16, values in 16 bits, and a next line or a go inside
-- the function; a call's go is the first line of a function
abbrev pub Fits : List Line → (f k : ℕ) → Line → Type 0
Fits ls f k (do_line o e) = VariablesIn o × (e < max_rows) × LineIn ls f (suc k)
Fits ls f k (tick_line r e a) = (r < max_regions) × Word e × Word a × LineIn ls f (suc k)
Fits ls f k (test_line o r s t e a b c go) =
    VariablesIn o × (r < max_regions) × (s < max_regions) × (t < max_regions) × Word e × Word a × Word b × Word c × LineIn ls f (suc k)
    × LineIn ls f go
Fits ls f k (leave_line r s e a b go) = (r < max_regions) × (s < max_regions) × Word e × Word a × Word b × LineIn ls f go
Fits ls f k (out_line r s t e a go) =
    (r < max_regions) × (s < max_regions) × (t ≤ r) × Word e × Word a × LineIn ls f go
Fits ls f k (call_line r e a b go) =
    (r < max_regions) × Word e × Word a × Word b × LineIn ls (function_at ls go) go × (start_of ls (function_at ls go) ≡ go)
    × LineIn ls f (suc k)
Fits ls f k (back_line r e a b) = (r < max_regions) × Word e × Word a × Word b × LineIn ls f (suc k)
Fits ls f k (ret_line e a) = Word e × Word a × (finish_of ls f ≡ suc k)

pub record Within (ls : List Line) : Type 0 where
  pub some_line : 0 < length ls
  pub few_lines : length ls ≤ 2 * max_rows
  pub few_functions : function_at ls (length ls) ≤ max_functions
  pub each_inside : (k : ℕ) → k < length ls → LineIn ls (function_at ls k) k
  pub each_fits : (k : ℕ) → k < length ls → Fits ls (function_at ls k) k (line_at ls k)

abbrev pub Bounds : Type 0
Bounds = (rows : List ℕ) → AreBytes rows → verdict_of rows ≡ Accepted → Within (harden (table_of rows))
