use Prim.Native.Nat.{◌<◌}
use native.Mathlib.Omega.{arith}
use Rattle.text.proofs.Digits.{value-small}
use Rattle.text.proofs.Feeding.{fed-bad, fed-newline, fed-full, fed-digit, fed-other}
use Rattle.text.proofs.read.take_byte.Goals as goal

pub returns-then-r : goal.returns-then-r
returns-then-r c = fed-bad _ _ _ _ c.requires c.if-r.true

pub returns-then-b-eq10 : goal.returns-then-b-eq10
returns-then-b-eq10 c = fed-newline _ _ _ _ c.requires c.if-r.false c.if-b-eq10.true c.at_newline.ensures

pub returns-then-r-digits : goal.returns-then-r-digits
returns-then-r-digits c = fed-full _ _ _ _ c.requires c.if-r.false c.if-b-eq10.false (omega (arith, c.if-r-digits.true))
    c.spoilt.ensures

pub add_digit-requires : goal.add_digit-requires
add_digit-requires c = let small : c.in-Some.v < 16 = value-small _ _ c.in-Some.ensures in
    (small, omega (arith, c.requires), omega (arith, c.requires), omega (arith, c.requires))

pub returns-in-Some : goal.returns-in-Some
returns-in-Some c = fed-digit _ _ _ _ c.requires c.if-r.false c.if-b-eq10.false (omega (arith, c.if-r-digits.false))
    c.in-Some.ensures c.add_digit.ensures

pub returns-in-None : goal.returns-in-None
returns-in-None c = fed-other _ _ _ _ c.requires c.if-r.false c.if-b-eq10.false c.in-None.ensures c.spoilt-in-None.ensures
