-- A line put into a buffer, and behind the lines before it. Assumes nothing.
use mathlib.Core.Path.{◌≡◌, refl, sym, ap, ◌∙◌}
use mathlib.Core.List.{List, ◌++◌, append_assoc}
use Prim.Native.Nat.{ℕ, ◌+◌, ◌-◌}
use native.Mathlib.Omega.{arith}
use lib.ListN.{length, drop, take}
use lib.Seq.{take_at, drop-drop, drop-append-add}
use Rattle.rules.specs.Line.{Line, do_line, tick_line, test_line, leave_line, out_line, call_line, back_line, ret_line, line_bytes}
use borrow.Rule.Slice.PartMut.{put_mid, post_of, Post-is}
use Rattle.line.specs.declared.Line as Declared
use Rattle.line.specs.Line.{struct, spelt, put}

-- twenty bytes are put in the place of as many
pub line-put : (bs x : List ℕ) (at : ℕ) (l : Declared.Line) → x ≡ spelt l → put_mid at (at + 20 - at) bs x ≡ put bs at l
unfolding put
line-put bs x at l e = ap (λ y. take at bs ++ (y ++ post_of at (at + 20 - at) bs)) e ∙ ap (λ y. take at bs ++ (spelt l ++ y)) (Post-is at (at + 20) bs (omega arith))
    ∙ sym (append_assoc (take at bs) (spelt l) (drop (at + 20) bs))

-- the bytes of the code's line are those of the definitions' line
spelt_is : (l : Line) → spelt (struct l) ≡ line_bytes l
unfolding line_bytes
spelt_is (do_line o e) = refl
spelt_is (tick_line r e a) = refl
spelt_is (test_line o r s t e a b c g) = refl
spelt_is (leave_line r s e a b g) = refl
spelt_is (out_line r s t e a g) = refl
spelt_is (call_line r e a b g) = refl
spelt_is (back_line r e a b) = refl
spelt_is (ret_line e a) = refl

-- a line is put behind the bytes that are done, over what was there
pub put-more : (old done : List ℕ) (at : ℕ) (l : Line) → length done ≡ at
    → put (done ++ drop at old) at (struct l) ≡ (done ++ line_bytes l) ++ drop (at + 20) old
unfolding put
put-more old done at l e =
    rw (take_at done (drop at old) at e, spelt_is l, ← e, drop-append-add done (drop (length done) old) 20, drop-drop 20 (length done) old, append_assoc done (line_bytes l) (drop (length done + 20) old))
