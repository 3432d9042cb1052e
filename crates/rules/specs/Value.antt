-- What a row takes, and the size, the base and the values of a region (01, "Regions and their values").
use Rattle.std.specs.Prelude.{ℕ, zero, suc, ◌+◌, cond, List, [], ◌∷◌, eqb, length}
use Rattle.rules.specs.declared.kind.Kind.{Kind}
use Rattle.rules.specs.declared.kind.Kind.TheVariants.{Function, Do, If, Else, Loop, End, Break, Continue, Call, Unknown}
use Rattle.rules.specs.Row.{Table, kind_at}
use Rattle.rules.specs.Scan.{Part, body, then_part, else_part, loop_body, Open, open_at, region_of}

-- 01, "The hardened lines", b of a leave: inside an if or a loop the counter around holds its row's e and this
abbrev pub inside : ℕ
inside = 1

-- 01, "The hardened lines", a of an if's leave: past an if or a loop the counter around holds its row's e and this
abbrev pub past : ℕ
past = 2

-- "a do, break or continue takes 1 value, an if, loop or call 2 values, a function's end 1"
abbrev pub takes : Kind → Part → ℕ
takes Function p = 0
takes Do p = 1
takes If p = past
takes Else p = 0
takes Loop p = past
takes End body = 1
takes End then_part = 0
takes End else_part = 0
takes End loop_body = 0
takes Break p = 1
takes Continue p = 1
takes Call p = 2
takes Unknown p = 0

-- "Inside its own region": what a row of this kind takes in region g, where the parts fs are open
abbrev pub takes_in : Kind → (g : ℕ) → List Open → ℕ
takes_in k g [] = 0
takes_in k g (f ∷ fs) = cond (eqb f.region g) (takes k f.part) 0

-- what the rows before row i take in region g
unfoldable pub taken : Table → (g i : ℕ) → ℕ
taken t g zero = zero
taken t g (suc i) = taken t g i + takes_in (kind_at t i) g (open_at t i)

-- "A region's size is 1 plus what its direct rows take."
abbrev pub size : Table → (g : ℕ) → ℕ
size t g = suc (taken t g (length t))

-- "Its base is 1 plus the sizes of all regions opened before it in the whole table."
unfoldable pub base : Table → (g : ℕ) → ℕ
base t zero = 1
base t (suc g) = base t g + size t g

-- "A row's value e is the base plus what the earlier direct rows of that region take."
unfoldable pub value : Table → (g i : ℕ) → ℕ
value t g i = base t g + taken t g i

-- row i's own value e, where the parts fs are open
abbrev pub value_in : Table → (i : ℕ) → List Open → ℕ
value_in t i fs = value t (region_of fs) i
