-- 01, "Limits: 1 to 1,024 rows; 32 functions; 16 ifs and loops open at one row; 64 regions in a function; 16 functions open in a run."
use Rattle.std.specs.Prelude.{ℕ}

abbrev pub max_rows : ℕ
max_rows = 1024

abbrev pub max_functions : ℕ
max_functions = 32

-- ifs and loops open at one row
abbrev pub max_constructs : ℕ
max_constructs = 16

-- regions in a function, its body among them
abbrev pub max_regions : ℕ
max_regions = 64

-- lines of a hardened table: a row has at most two
abbrev pub max_lines : ℕ
max_lines = 2048

-- functions open in a run, the first function 0 among them
abbrev pub max_open : ℕ
max_open = 16

-- variables of a run, v0 to v15
abbrev pub max_variables : ℕ
max_variables = 16

-- 01, "What turns a call away", 9: a counter word for each region of each open function
abbrev pub counter_words : ℕ
counter_words = 1024

-- 01, "Running": the step number that is no jump
abbrev pub no_step : ℕ
no_step = 65535
