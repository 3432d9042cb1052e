-- A table's groups, each on a line behind the lines of those before it. Assumes nothing.
use Prim.Native.Nat.{ℕ, zero, suc, ◌+◌, ◌*◌, ◌≤◌, ◌<◌}
use mathlib.Core.Path.{◌≡◌, refl, sym, ap, ◌∙◌}
use mathlib.Core.List.{List, [], ◌∷◌, ◌++◌, append_assoc}
use native.Mathlib.Nat.{mul-suc, mul-zero, suc-mul, zero-mul}
use native.Mathlib.Nat.{mul-le-mul_left, mul-le-mul_right, lt_of_mul-lt-mul_left, div-eq_of_eq-mul_right}
use native.Mathlib.Omega.{arith}
use lib.ListN.{length, take, drop, length-append, length-drop}
use lib.Seq.{drop-drop, length-take-le, take_at, drop_at}
use Rattle.text.specs.Hex.{hex, newline}
use Rattle.text.specs.Listing.{group_lines, listing_text, Listable, Written, Puts}
use Rattle.text.proofs.Putting.{puts-more, puts_none, puts-length, written, hex-length}

-- ---- one group more
pub groups-more : (n w : ℕ) (t : List ℕ)
    → group_lines (suc n) w t ≡ group_lines n w t ++ (hex (take w (drop (w * n) t)) ++ (newline ∷ []))
unfolding group_lines
groups-more zero w t = rw mul-zero
groups-more (suc n) w t =
    let step : w + w * n ≡ w * suc n = omega (arith, mul-suc w n) in
    rw (groups-more n w (drop w t), drop-drop, step, append_assoc)

pub groups-length : (n w : ℕ) (t : List ℕ) → length t ≡ w * n → length (group_lines n w t) ≡ n * (2 * w + 1)
unfolding group_lines
groups-length zero w t h = rw zero-mul
groups-length (suc n) w t h =
    let enough : w ≤ length t = omega (arith, mul-suc w n) in
    let rest : length (drop w t) ≡ w * n = simp length-drop (omega (arith, mul-suc w n)) in
    simp (length-append, hex-length, length-take-le w t enough, groups-length n w (drop w t) rest, suc-mul) (omega arith)

-- the first groups of a table are written, and these are left
pub record Lines (table : List ℕ) (width : ℕ) (before after : List ℕ) (at : ℕ) (rest : List ℕ) : Type 0 where
  pub asked : Listable width table before
  pub done : ℕ
  pub within : done ≤ asked.count
  pub rest_is : rest ≡ drop (width * done) table
  pub at_is : at ≡ done * (2 * width + 1)
  pub same_length : length after ≡ length before
  pub puts : Puts (group_lines done width table) 0 before after at

pub lines_none : {table rest : List ℕ} {width : ℕ} {before : List ℕ} → Listable width table before → rest ≡ table
    → Lines table width before before 0 rest
unfolding group_lines
lines_none {width = width} a e =
    record {
      asked = a;
      done = 0;
      within = omega arith;
      rest_is = rw mul-zero e;
      at_is = rw zero-mul;
      same_length = refl;
      puts = puts_none;
    }

module _ {table rest : List ℕ} {width : ℕ} {before after : List ℕ} {at : ℕ} (l : Lines table width before after at rest) where
  left : length rest + width * l.done ≡ width * l.asked.count
  left =
      omega (
        arith,
        ap length l.rest_is,
        length-drop (width * l.done) table,
        l.asked.whole,
        mul-le-mul_left {m = l.done} {n = l.asked.count} width l.within,
      )

  module _ (group then : List ℕ) (cut : rest ≡ group ++ then) (long : length group ≡ width) where
    unfinished : l.done < l.asked.count
    unfinished =
        lt_of_mul-lt-mul_left width (omega (arith, left, ap length cut, length-append group then, l.asked.some_width, long))

    pub next-room : at + 2 * length group + 1 ≤ length after
    next-room =
        omega (
          arith,
          long,
          l.at_is,
          l.asked.room,
          l.same_length,
          suc-mul l.done (2 * width + 1),
          mul-le-mul_right {m = suc l.done} {n = l.asked.count} (2 * width + 1) unfinished,
        )

    group-is : group ≡ take width (drop (width * l.done) table)
    group-is = sym (ap (take width) (sym l.rest_is ∙ cut) ∙ take_at group then width long)

    then-is : then ≡ drop (width * suc l.done) table
    then-is =
        sym (drop_at group then width long) ∙ ap (drop width) (sym cut ∙ l.rest_is)
        ∙ drop-drop width (width * l.done) table
        ∙ ap (λ (k : ℕ). drop k table) (omega (arith, mul-suc width l.done))

    pub lines_more : {after' : List ℕ} {n : ℕ} → Puts (hex group ++ (newline ∷ [])) at after after' n
        → Lines table width before after' n then
    lines_more p =
        record {
          asked = l.asked;
          done = suc l.done;
          within = unfinished;
          rest_is = then-is;
          at_is = rw (p.next_is, length-append, hex-length, long, suc-mul l.done (2 * width + 1)) (omega (arith, l.at_is));
          same_length = puts-length p ∙ l.same_length;
          puts = rw (groups-more l.done width table, ← group-is) (puts-more l.puts p);
        }

  pub lines_all : length rest < width → Written (listing_text width table) before after at
  lines_all h =
      let all : length table ≡ width * l.done = finished in
      rw (div-eq_of_eq-mul_right l.asked.some_width all)
      (written l.puts
      (rw (groups-length l.done width table all)
      (omega
      (arith, l.asked.room, mul-le-mul_right {m = l.done} {n = l.asked.count} (2 * width + 1) l.within))))
    where
      below : l.asked.count < suc l.done
      below = lt_of_mul-lt-mul_left width (omega (arith, left, h, mul-suc width l.done))

      last : l.asked.count ≤ l.done
      last = omega (arith, below)

      finished : length table ≡ width * l.done
      finished = l.asked.whole ∙ ap (λ (k : ℕ). width * k) (omega (arith, last, l.within))
