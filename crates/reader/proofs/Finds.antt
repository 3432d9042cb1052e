-- From the candidate and its comparison to what reading back finds. Assumes nothing.
use mathlib.Core.Path.{◌≡◌, refl, sym, ap, ◌∙◌, subst}
use mathlib.Core.Bool.{Bool, true, false, ◌&&◌}
use mathlib.Core.List.{List}
use Prim.Native.Nat.{ℕ, ◌*◌, ◌≤◌, ◌<◌}
use native.Mathlib.Omega.{arith}
use lib.ListN.{length, take}
use Rattle.rules.specs.Bytes.{AreBytes, same}
use Rattle.rules.specs.Row.{table_of}
use Rattle.rules.specs.Refusal.{is_accepted}
use Rattle.rules.specs.Check.{verdict_of}
use Rattle.rules.specs.Harden.{harden, hardened_bytes}
use Rattle.rules.specs.ReadBack.{source_bytes, is_hardened_lem}
use Rattle.rules.specs.Calls.{check_hardened_call}
use Rattle.rules.proofs.Accepted.{proper, proper-bytes, table-length, whole-rows}
use Rattle.rules.proofs.Encode.{lines-bytes-length}
use Rattle.rules.proofs.Reading.{hardened-source, recognises}
use Rattle.rules.proofs.Bounds.{bounds}
use Rattle.reader.specs.Candidate.{Fronted}
use Rattle.reader.specs.Found.{Found, NotHardened, Source, JudgedIs, FoundIs}

-- what a table hardens to is short
lines-length : (rows : List ℕ) → length (hardened_bytes rows) ≡ 20 * length (harden (table_of rows))
unfolding hardened_bytes
lines-length rows = lines-bytes-length (harden (table_of rows))

hardened-short : (lines : List ℕ) → AreBytes lines → is_hardened_lem lines ≡ true → length lines ≤ 40960
hardened-short lines w h =
    let g = (recognises lines w).0 h in
    let b = bounds g.rows g.are_bytes g.accepted in
    omega (arith, b.few_lines, ap length g.hardens, lines-length g.rows)

pub too_long : (lines : List ℕ) → AreBytes lines → 40960 < length lines → is_hardened_lem lines ≡ false
too_long lines w h = by (is_hardened_lem lines) refl
  where
    by : (b : Bool) → is_hardened_lem lines ≡ b → is_hardened_lem lines ≡ false
    by true e = absurd (let z : ⊥ = omega (arith, hardened-short lines w e) in z)
    by false e = e

-- a candidate of too many rows is no table
pub too_many : (lines : List ℕ) → 6144 < length (source_bytes lines) → is_hardened_lem lines ≡ false
too_many lines h = by (is_hardened_lem lines) refl
  where
    by : (b : Bool) → is_hardened_lem lines ≡ b → is_hardened_lem lines ≡ false
    by true e =
        let ok = proper (source_bytes lines) (hardened-source lines e).0 in
        let whole = whole-rows (source_bytes lines) (proper-bytes (source_bytes lines) (hardened-source lines e).0).whole in
        absurd (let z : ⊥ = omega (arith, ok.few_rows, table-length (source_bytes lines), whole.1) in z)
    by false e = e

pub judged : (lines rows : List ℕ) {b : Bool} → b ≡ is_accepted (verdict_of rows) && same (hardened_bytes rows) lines → source_bytes lines ≡ rows → is_hardened_lem lines ≡ b
unfolding is_hardened_lem
judged lines rows e q = ap (λ x. is_accepted (verdict_of x) && same (hardened_bytes x) lines) q ∙ sym e

-- what the answer's number says
pub none_number : (lines : List ℕ) → is_hardened_lem lines ≡ false → ◌≡◌ {A = ℕ} 10 (check_hardened_call lines)
none_number lines e = sym (rw e)

pub some_number : (lines : List ℕ) → is_hardened_lem lines ≡ true → ◌≡◌ {A = ℕ} 0 (check_hardened_call lines)
some_number lines e = sym (rw e)

pub none_told : (lines : List ℕ) → 10 ≡ check_hardened_call lines → false ≡ is_hardened_lem lines
none_told lines e = by (is_hardened_lem lines) refl
  where
    by : (b : Bool) → is_hardened_lem lines ≡ b → false ≡ is_hardened_lem lines
    by true q = absurd (let z : ⊥ = omega (arith, some_number lines q) in z)
    by false q = sym q

pub some-told : (lines : List ℕ) → 0 ≡ check_hardened_call lines → true ≡ is_hardened_lem lines
some-told lines e = by (is_hardened_lem lines) refl
  where
    by : (b : Bool) → is_hardened_lem lines ≡ b → true ≡ is_hardened_lem lines
    by true q = sym q
    by false q = absurd (let z : ⊥ = omega (arith, none_number lines q) in z)

pub none_found : (lines rows : List ℕ) → is_hardened_lem lines ≡ false → length rows ≡ 6156 → FoundIs lines rows NotHardened
none_found lines rows e l =
    record { number_is = none_number lines e; front = λ q. absurd (let z : ⊥ = omega arith in z); left_open = l }

-- what was judged of the rows holds of the lines that they were read from
pub found : (lines rows : List ℕ) {n : ℕ} (r : Found) → Fronted lines rows n → JudgedIs lines (take n rows) r → length rows ≡ 6156 → FoundIs lines rows r
found lines rows NotHardened f h l = none_found lines rows (h (sym f.front_is)) l
found lines rows {n} (Source m) f h l =
    let q : n ≡ m = omega (arith, h.0, ap length f.front_is, f.count_is) in
    record {
      number_is = some_number lines (h.1 (sym f.front_is));
      front = λ x. subst (Fronted lines rows) q f;
      left_open = l;
    }
