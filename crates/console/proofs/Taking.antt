-- What was read so far is what some text says, and is so at its end. Assumes nothing.
use Rattle.std.proofs.Common.{◌≡◌, ℕ, Option, Some, None, Bool, true, false, cond, List, [], ◌++◌, length, take, sym, refl, ap, ◌∙◌, arith}
use lib.Seq.{take-append-le}
use Rattle.text.specs.declared.read.Reader.{Reader}
use Rattle.text.specs.Reading.{Holds, Sane, Started, Fed, at_start, read_on, good_at}
use Rattle.text.proofs.Feeding.{read_more}
use Rattle.text.proofs.ByLines.{reads_all}
use Rattle.text.proofs.Whole.{good-is-readable, bytes-held}
use Rattle.console.specs.Input.{read_at_end, Kept}

-- what the loop keeps: the reader and the buffer, which held `old`, hold what this text says
pub record Heard (digits : ℕ) (old : List ℕ) (r : Reader) (bytes : List ℕ) : Type 0 where
  pub text : List ℕ
  pub holds : Holds old (read_on digits at_start text) r bytes

pub heard-none : {digits : ℕ} {old : List ℕ} {r : Reader} → Started r → Heard digits old r old
unfolding read_on
heard-none {old = old} s = record { text = []; holds = s.holds old }

pub heard-more : {digits : ℕ} {old piece : List ℕ} {r q : Reader} {bytes after : List ℕ} → Heard digits old r bytes
    → Fed digits piece r bytes q after → Heard digits old q after
heard-more {digits} {old} {piece} h f =
    record {
      text = h.text ++ piece;
      holds = rw (read_more digits at_start h.text piece) (f.holds old (read_on digits at_start h.text) h.holds);
    }

-- the text ends
pub kept-at-end : {digits : ℕ} {old : List ℕ} {r : Reader} {bytes : List ℕ} {q : Option ℕ} → Heard digits old r bytes → Sane digits r bytes
    → length bytes ≡ length old → q ≡ read_at_end digits r → Kept digits (length old) bytes q
kept-at-end {digits} {old} {r} {bytes} {q} h s l e = rw e (by (good_at digits r.bad r.column) refl)
  where
    by : (t : Bool) → good_at digits r.bad r.column ≡ t → Kept digits (length old) bytes (cond t (Some r.length) None)
    by true g =
        let good = sym (good-is-readable digits h.text h.holds) ∙ g in
        record {
          text = h.text;
          readable_is = good;
          bytes_are = bytes-held digits h.text h.holds good;
          length_is = h.holds.length_is ∙ ap (λ x. length (take (length old) x)) ((reads_all digits h.text).bytes_are good);
          within = omega (arith, s.length_fits, l);
        }
    by false g = tt

-- the buffer is the front of a larger one
pub kept-in-front : (digits most : ℕ) (front rest : List ℕ) (q : Option ℕ) {k : ℕ} → k ≡ most → length front ≡ most → Kept digits k front q
    → Kept digits most (front ++ rest) q
kept-in-front digits most front rest (Some n) e l f =
    record {
      text = f.text;
      readable_is = f.readable_is;
      bytes_are = take-append-le n front rest (omega (arith, f.within)) ∙ rw e at f.bytes_are;
      length_is = rw e at f.length_is;
      within = omega (arith, f.within);
    }
kept-in-front digits most front rest None e l f = tt

pub ended-good : (digits : ℕ) (r : Reader) {t : Bool} → t ≡ good_at digits r.bad r.column → t ≡ true → Some r.length ≡ read_at_end digits r
ended-good digits r e k = rw (sym e ∙ k)

pub ended-bad : (digits : ℕ) (r : Reader) {t : Bool} → t ≡ good_at digits r.bad r.column → t ≡ false → None ≡ read_at_end digits r
ended-bad digits r e k = rw (sym e ∙ k)
