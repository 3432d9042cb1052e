use mathlib.Core.Path.{refl, sym, ◌∙◌, subst}
use native.Mathlib.Numerals.{add-one}
use native.Mathlib.Omega.{arith}
use Rattle.compare.proofs.Begins.{from_there}
use Rattle.sweeper.proofs.Walking.{walk-starts, counted-on}
use Rattle.sweeper.proofs.Sweeping.{shown, at_in, going-one, sweep-on, walked_all, never_spent}
use Rattle.sweeper.proofs.walk.walk.Goals as goal

pub loop-step-init : goal.loop-step-init
loop-step-init g c = record {
  walking = walk-starts _ _ c.args.counters.now _ _ c.args.run.now.table.now.ready.sound c.begun-m.ensures c.requires.words _ c.fresh.ensures c.args.run.now.finishes.finished;
  words = refl;
  same = refl;
  held = c.requires.held;
}

pub slice_bounds-strike-count : goal.slice_bounds-strike-count
slice_bounds-strike-count g c = at_in (shown c.args.run.now.table.now.ready c.args.run.now.hardened c.args.run.now.finishes (omega (arith, c.type_inv.run)) (record { at = _; walking = c.loop-step.invariant.walking; known_is = from_there c.args.run.now.trace.now c.loop-step.at }))

pub slice_bounds-strike-start : goal.slice_bounds-strike-start
slice_bounds-strike-start g c = at_in (shown c.args.run.now.table.now.ready c.args.run.now.hardened c.args.run.now.finishes (omega (arith, c.type_inv.run)) (record { at = _; walking = c.loop-step.invariant.walking; known_is = from_there c.args.run.now.trace.now c.loop-step.at }))

pub strike-requires : goal.strike-requires
strike-requires g c = record { before = (record { at = _; walking = c.loop-step.invariant.walking; known_is = from_there c.args.run.now.trace.now c.loop-step.at }); held = c.loop-step.invariant.held }

pub step-x-requires : goal.step-x-requires
step-x-requires g c = going-one (shown c.args.run.now.table.now.ready c.args.run.now.hardened c.args.run.now.finishes (omega (arith, c.type_inv.run)) (record { at = _; walking = c.loop-step.invariant.walking; known_is = from_there c.args.run.now.trace.now c.loop-step.at })) c.strike.new.spare.rows c.strike.new.spare.rows_are

pub returns-in_default-clause-all : goal.returns-in_default-clause-all
returns-in_default-clause-all g c =
    subst (λ n. g.A.Asked.struck c.args.run.now.table.now.lines.now c.args.run.now.variables c.args.run.now.budget n c.strike.new.self) (sym (walked_all (shown c.args.run.now.table.now.ready c.args.run.now.hardened c.args.run.now.finishes (omega (arith, c.type_inv.run)) (record { at = _; walking = c.loop-step.invariant.walking; known_is = from_there c.args.run.now.trace.now c.loop-step.at })) _ c.strike.new.spare.rows_are _ _ _ c.step-x.ensures c.in_default.not-Went))
    (c.strike.ensures.on c.if-not-strike.false)

pub loop-step-preserved : goal.loop-step-preserved
loop-step-preserved g c = record {
  walking = counted-on (sweep-on (shown c.args.run.now.table.now.ready c.args.run.now.hardened c.args.run.now.finishes (omega (arith, c.type_inv.run)) (record { at = _; walking = c.loop-step.invariant.walking; known_is = from_there c.args.run.now.trace.now c.loop-step.at })) _ c.strike.new.spare.rows_are _ _ _ c.step-x.ensures _ c.in-Went.is _ c.afresh-m.ensures).walking;
  words = c.step-x.auto.counters ∙ c.loop-step.invariant.words;
  same = c.strike.ensures.same ∙ c.loop-step.invariant.same;
  held = subst (λ n. g.A.Asked.struck c.args.run.now.table.now.lines.now c.args.run.now.variables c.args.run.now.budget n c.strike.new.self) (sym (add-one c.loop-step.step)) (c.strike.ensures.on c.if-not-strike.false);
}

pub returns-clause-all : goal.returns-clause-all
returns-clause-all g c = never_spent (shown c.args.run.now.table.now.ready c.args.run.now.hardened c.args.run.now.finishes (omega (arith, c.type_inv.run)) (record { at = _; walking = c.loop-step.invariant.walking; known_is = from_there c.args.run.now.trace.now c.loop-step.at })) (omega arith)
