-- Which line stands where: line line_of t i + ph of the hardened table is line ph of row i. Assumes nothing.
use mathlib.Core.Logic.{◌⊎◌, inl, inr}
use mathlib.Core.Path.{◌≡◌, refl, ap, ◌∙◌, sym}
use mathlib.Core.List.{List, [], ◌++◌, append_assoc, append-nil}
use Prim.Native.Nat.{ℕ, zero, suc, ◌+◌, ◌≤◌, ◌<◌}
use native.Mathlib.Nat.{le_refl, eq-or-lt_of_le, not-suc-le-zero}
use native.Mathlib.Decide.{le_ind}
use native.Mathlib.Omega.{arith}
use lib.ListN.{length, length-append, get_or-append}
use lib.Seq.{get_or-append-add}
use Rattle.rules.specs.declared.kind.Kind.{Kind}
use Rattle.rules.specs.declared.kind.Kind.TheVariants.{Function, Do, If, Else, Loop, End, Break, Continue, Call, Unknown}
use Rattle.rules.specs.Row.{Table, kind_at}
use Rattle.rules.specs.Scan.{Open, open_at}
use Rattle.rules.specs.Line.{Line, ret_line, line_at}
use Rattle.rules.specs.Harden.{line_count, line_of, row_lines, lines_of, harden_to, harden}
use Rattle.rules.proofs.Value.{Silent, a_function, no_kind}

pub line-mono : (t : Table) {i : ℕ} (j : ℕ) → i ≤ j → line_of t i ≤ line_of t j
unfolding line_of
line-mono t {i} j h = le_ind (λ m. line_of t i ≤ line_of t m) (le_refl _) (λ m l p. omega arith) j h

pub line-suc : (t : Table) (i : ℕ) {k : Kind} → kind_at t i ≡ k → line_of t (suc i) ≡ line_of t i + line_count k
unfolding line_of
line-suc t i e = ap (λ x. line_of t i + line_count x) e

pub line-next : (t : Table) (i j : ℕ) → i < j → line_of t i + line_count (kind_at t i) ≤ line_of t j
unfolding line_of
line-next t i j h = line-mono t {i = suc i} j h

-- a row of a function stands for some line
pub some_line : (k : Kind) → (Silent k → ⊥) → 0 < line_count k
some_line Function s = absurd (s a_function)
some_line Do s = omega arith
some_line If s = omega arith
some_line Else s = omega arith
some_line Loop s = omega arith
some_line End s = omega arith
some_line Break s = omega arith
some_line Continue s = omega arith
some_line Call s = omega arith
some_line Unknown s = absurd (s no_kind)

pub row-lines-length : (t : Table) (i : ℕ) (fs : List Open) (k : Kind) → length (row_lines t i fs k) ≡ line_count k
unfolding row_lines
row-lines-length t i fs Function = refl
row-lines-length t i fs Do = refl
row-lines-length t i fs If = refl
row-lines-length t i fs Else = refl
row-lines-length t i fs Loop = refl
row-lines-length t i fs End = refl
row-lines-length t i fs Break = refl
row-lines-length t i fs Continue = refl
row-lines-length t i fs Call = refl
row-lines-length t i fs Unknown = refl

pub harden-length : (t : Table) (n : ℕ) → length (harden_to t n) ≡ line_of t n
unfolding harden_to line_of
harden-length t zero = refl
harden-length t (suc n) =
    length-append (harden_to t n) _ ∙ omega (arith, harden-length t n, row-lines-length t n (open_at t n) (kind_at t n))

-- what comes after the lines of the rows before row i
pub harden-split : (t : Table) (i n : ℕ) → i ≤ n → (ls : List Line) × (harden_to t n ≡ harden_to t i ++ ls)
unfolding harden_to
harden-split t i n h =
    le_ind (λ m. (ls : List Line) × (harden_to t m ≡ harden_to t i ++ ls)) ([], sym (append-nil (harden_to t i)))
    (λ m l p. (p.0 ++ lines_of t m, ap (λ x. x ++ lines_of t m) p.1 ∙ append_assoc (harden_to t i) p.0 _)) n h

line_in : (t : Table) (n i ph : ℕ) → i < n → ph < line_count (kind_at t i) → line_at (harden_to t n) (line_of t i + ph) ≡ line_at (lines_of t i) ph
unfolding harden_to
line_in t zero i ph h k = absurd (not-suc-le-zero h)
line_in t (suc n) i ph h k = by (eq-or-lt_of_le h) (λ l. line_in t n i ph l k)
  where
    by : (suc i ≡ suc n) ⊎ (suc i < suc n) → (i < n → line_at (harden_to t n) (line_of t i + ph) ≡ line_at (lines_of t i) ph)
        → line_at (harden_to t n ++ lines_of t n) (line_of t i + ph) ≡ line_at (lines_of t i) ph
    by (inl e) ih =
        let q : i ≡ n = omega arith in
        rw (q, ← (harden-length t n)) (get_or-append-add (harden_to t n) _ ph (ret_line 0 0))
    by (inr l) ih =
        get_or-append (harden_to t n) _ (ret_line 0 0) (line_of t i + ph) (omega (arith, harden-length t n, line-next t i n (omega arith)))
        ∙ ih (omega arith)

pub line-at : (t : Table) (i ph : ℕ) → i < length t → ph < line_count (kind_at t i) → line_at (harden t) (line_of t i + ph) ≡ line_at (lines_of t i) ph
line-at t i ph h k = line_in t (length t) i ph h k
