-- What a reader and its buffer tell of the whole text that was read, in one piece or several. Assumes nothing.
use Prim.Native.Nat.{ℕ, ◌<◌}
use mathlib.Core.Path.{◌≡◌, sym, ap, ◌∙◌}
use mathlib.Core.Bool.{true}
use mathlib.Core.List.{List}
use native.Mathlib.Omega.{arith}
use lib.ListN.{length, take, length-take}
use lib.Seq.{take_at, take_all}
use Rattle.text.specs.declared.read.Reader.{Reader}
use Rattle.text.specs.Hex.{readable, bytes_in}
use Rattle.text.specs.Reading.{Sofar, Holds, at_start, read_on, good_at, is_good}
use Rattle.text.proofs.ByLines.{reads_all}

module _ {old : List ℕ} {s : Sofar} {r : Reader} {rows : List ℕ} (h : Holds old s r rows) where
  pub good-too : (d : ℕ) → good_at d r.bad r.column ≡ is_good d s
  good-too d = rw (h.bad_is, h.column_is)

  pub front_is : take r.length rows ≡ take (length old) s.bytes
  front_is = rw h.rows_are (take_at (take (length old) s.bytes) _ r.length (sym h.length_is))

  -- a buffer that is not full has them all
  pub all_held : r.length < length old → take r.length rows ≡ s.bytes
  all_held k =
      front_is ∙ take_all (length old) s.bytes (omega (arith, h.length_is, length-take (length old) s.bytes))

module _ (d : ℕ) (text : List ℕ) {old : List ℕ} {r : Reader} {rows : List ℕ} (h : Holds old (read_on d at_start text) r rows) where
  pub good-is-readable : good_at d r.bad r.column ≡ readable d text
  good-is-readable = good-too h d ∙ (reads_all d text).good_is

  pub bytes-held : readable d text ≡ true → take r.length rows ≡ take (length old) (bytes_in text)
  bytes-held e = front_is h ∙ ap (λ (l : List ℕ). take (length old) l) ((reads_all d text).bytes_are e)

  pub all-bytes-held : readable d text ≡ true → r.length < length old → take r.length rows ≡ bytes_in text
  all-bytes-held e k = all_held h k ∙ (reads_all d text).bytes_are e
