use native.Mathlib.Omega.{arith}
use Rattle.layout.proofs.Takes.{takes-none, takes-one, takes-two, takes-call, takes-at-end}
use Rattle.layout.proofs.number.take.Goals as goal

pub returns-in-Do : goal.returns-in-Do
returns-in-Do c = (takes-one c.requires.0 c.requires.1 c.kind.ensures c.in-Do.is, omega arith)

pub returns-in-If : goal.returns-in-If
returns-in-If c = (takes-two c.requires.0 c.requires.1 c.kind.ensures c.in-If.is, omega arith)

pub returns-in-Call : goal.returns-in-Call
returns-in-Call c = (takes-call c.requires.0 c.requires.1 c.kind.ensures c.in-Call.is, omega arith)

pub returns-in-End : goal.returns-in-End
returns-in-End c = takes-at-end c.requires.0 c.requires.1 c.kind.ensures c.in-End.is c.from.ensures

pub returns-in-Function : goal.returns-in-Function
returns-in-Function c = (takes-none c.requires.0 c.requires.1 c.kind.ensures c.in-Function.is, omega arith)
