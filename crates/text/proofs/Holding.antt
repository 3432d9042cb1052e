-- The code's reader and buffer after one more digit: it is kept, it makes a byte that is stored, or one that is dropped. Assumes nothing.
use Prim.Native.Nat.{ℕ, suc, ◌+◌, ◌*◌, ◌%◌, ◌≤◌, ◌<◌}
use mathlib.Core.Path.{◌≡◌, refl, ap, subst, ◌∙◌}
use mathlib.Core.Bool.{false}
use mathlib.Core.List.{List, [], ◌∷◌, ◌++◌, append_assoc}
use native.Mathlib.Numerals.{add-one}
use native.Mathlib.Omega.{arith}
use borrow.Author.Tests.{eq-eqb, ne_eqb}
use lib.Dec.{eqb}
use lib.ListN.{length, take, drop, set, length-append, length-take, length-drop, length-set}
use lib.Seq.{take_all, take-append-le, drop-cons, set_at}
use Rattle.text.specs.declared.read.Reader.{Reader}
use Rattle.text.specs.Reading.{Sofar, Holds, Added}

-- ---- as many bytes as a buffer takes, with what it held behind them
abbrev front : (old bytes : List ℕ) → List ℕ
front old bytes = take (length old) bytes

abbrev laid : (old bytes : List ℕ) → List ℕ
laid old bytes = front old bytes ++ drop (length (front old bytes)) old

pub laid-length : (old bytes : List ℕ) → length (laid old bytes) ≡ length old
laid-length old bytes = simp (length-append, length-drop, length-take) (omega arith)

-- a byte more, while there is room
pub store_length : (old bytes : List ℕ) (x : ℕ) → length (front old bytes) < length old
    → length (front old bytes) + 1 ≡ length (front old (bytes ++ (x ∷ [])))
store_length old bytes x h = simp (length-take, length-append) (omega (arith, length-take (length old) bytes))

pub store-list : (old bytes : List ℕ) (x : ℕ) → length (front old bytes) < length old
    → set (laid old bytes) (length (front old bytes)) x ≡ laid old (bytes ++ (x ∷ []))
store-list old bytes x h =
    let short : length bytes < length old = omega (arith, length-take (length old) bytes) in
    let all : take (length old) bytes ≡ bytes = take_all (length old) bytes (omega arith) in
    let more : take (length old) (bytes ++ (x ∷ [])) ≡ bytes ++ (x ∷ []) =
    take_all (length old) (bytes ++ (x ∷ [])) (simp length-append (omega arith)) in
    rw (all, more, length-append, drop-cons old (length bytes) 0 short, set_at bytes _ _ x _ refl, append_assoc, add-one)

-- a byte more, without
pub full-front : (old bytes : List ℕ) (x : ℕ) → length old ≤ length (front old bytes)
    → front old (bytes ++ (x ∷ [])) ≡ front old bytes
full-front old bytes x h = take-append-le (length old) bytes (x ∷ []) (omega (arith, length-take (length old) bytes))

module _ (v : ℕ) (r : Reader) (rows : List ℕ) where
  odd : {old : List ℕ} {s : Sofar} → Holds old s r rows → (r.column % 2 ≡ 0 → ⊥) → eqb (s.column % 2) 0 ≡ false
  odd h o = ne_eqb _ _ (subst (λ (k : ℕ). k % 2 ≡ 0 → ⊥) h.column_is o)

  next : {old : List ℕ} {s : Sofar} → Holds old s r rows → r.column + 1 ≡ suc s.column
  next h = add-one _ ∙ ap suc h.column_is

  same_length : {old : List ℕ} {s : Sofar} → Holds old s r rows → length rows ≡ length old
  same_length {old} {s} h = ap length h.rows_are ∙ laid-length old s.bytes

  pub digit-kept : v < 16 → r.length ≤ length rows → r.column % 2 ≡ 0
      → Added v r rows (record { bad = r.bad; column = r.column + 1; high = v; length = r.length }) rows
  digit-kept small fits even =
      record {
        holds = λ old s h.
            rw (eq-eqb (s.column % 2) 0 (subst (λ (k : ℕ). k % 2 ≡ 0) h.column_is even))
            (record {
              bad_is = h.bad_is;
              column_is = next h;
              high_is = refl;
              length_is = h.length_is;
              rows_are = h.rows_are;
            });
        column_is = add-one _;
        high_fits = small;
        length_fits = fits;
      }

  pub byte_dropped : r.high < 16 → r.length ≤ length rows → (r.column % 2 ≡ 0 → ⊥) → length rows ≤ r.length
      → Added v r rows (record { bad = r.bad; column = r.column + 1; high = r.high; length = r.length }) rows
  byte_dropped small fits o full =
      record {
        holds = λ old s h.
            let e : front old (s.bytes ++ ((16 * s.high + v) ∷ [])) ≡ front old s.bytes =
            full-front old s.bytes _ (omega (arith, same_length h, h.length_is)) in
            rw (odd h o)
            (record {
              bad_is = h.bad_is;
              column_is = next h;
              high_is = h.high_is;
              length_is = rw e h.length_is;
              rows_are = rw e h.rows_are;
            });
        column_is = add-one _;
        high_fits = small;
        length_fits = fits;
      }

  pub byte_stored : r.high < 16 → (r.column % 2 ≡ 0 → ⊥) → r.length < length rows
      → Added v r rows (record { bad = r.bad; column = r.column + 1; high = r.high; length = r.length + 1 })
      (set rows r.length (16 * r.high + v))
  byte_stored small o room =
      record {
        holds = λ old s h.
            let space : length (front old s.bytes) < length old = omega (arith, same_length h, h.length_is) in
            rw (odd h o)
            (record {
              bad_is = h.bad_is;
              column_is = next h;
              high_is = h.high_is;
              length_is = rw h.length_is (store_length old s.bytes _ space);
              rows_are = rw (h.length_is, h.high_is, h.rows_are) (store-list old s.bytes _ space);
            });
        column_is = add-one _;
        high_fits = small;
        length_fits = simp length-set (omega arith);
      }
