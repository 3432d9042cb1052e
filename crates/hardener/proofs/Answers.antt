-- What a call that hardens answers: the whole table where it fits, and a refusal where it does not. Assumes nothing.
use mathlib.Core.Path.{◌≡◌, sym, ◌∙◌}
use mathlib.Core.List.{List}
use Prim.Native.Nat.{ℕ, ◌*◌, ◌/◌, ◌≤◌, ◌<◌}
use native.Mathlib.Omega.{arith}
use lib.ListN.{length}
use borrow.Author.Tests.{lt-ltb, le-ltb}
use Rattle.rules.specs.declared.refusal.Refusal.TheVariants.{ShortOutput}
use Rattle.rules.specs.Refusal.{refusal_number}
use Rattle.rules.specs.Row.{table_of}
use Rattle.rules.specs.Harden.{line_of, hardened_bytes}
use Rattle.rules.specs.Calls.{over, short_output, writing}
use Rattle.emit.specs.Emit.{rows_bytes}
use Rattle.emit.proofs.Emits.{all-bytes, answer-length}
use Rattle.hardener.specs.Answer.{written}

pub short-answer : (bs out : List ℕ) {n : ℕ} → n ≡ refusal_number ShortOutput → length out < 20 * line_of (table_of bs) (length bs / 6)
    → written (record { number = n; length = 0 }) out ≡ writing (short_output (hardened_bytes bs) out) (hardened_bytes bs) out
unfolding writing
short-answer bs out e h = rw (e, lt-ltb (length out) (length (hardened_bytes bs)) (omega (arith, answer-length bs)))

pub whole-answer : (bs held : List ℕ) {out : List ℕ} {n : ℕ} → n ≡ 20 * line_of (table_of bs) (length bs / 6) → n ≤ length held
    → out ≡ over (rows_bytes (table_of bs) 0 (length bs / 6)) held
    → written (record { number = 0; length = n }) out ≡ writing (short_output (hardened_bytes bs) held) (hardened_bytes bs) held
unfolding writing
whole-answer bs held {out} {n} q h e =
    let l : n ≡ length (hardened_bytes bs) = q ∙ sym (answer-length bs) in
    rw (le-ltb (length held) (length (hardened_bytes bs)) (omega arith), l, e, all-bytes bs)
