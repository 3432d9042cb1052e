use Rattle.machine.proofs.Arms.{at_last, do-arm, tick-arm, test-arm, leave-arm, out-arm, call-arm, back-arm, ret-arm}
use Rattle.machine.specs.Step.{map_of, parts_of}
use Rattle.machine.proofs.step.line.Goals as goal

pub returns-then-k-starts : goal.returns-then-k-starts
returns-then-k-starts c = at_last c.args.lines.now (map_of c.args.starts.now c.args.owners.now c.args.home) (parts_of c.args.h c.args.resumes.now c.args.functions.now c.args.variables.now c.args.counters.now c.args.trace.now) _ c.if-k-starts.true c.returned.ensures

pub returns-in-Do : goal.returns-in-Do
returns-in-Do c = do-arm c.args.lines.now (map_of c.args.starts.now c.args.owners.now c.args.home) (parts_of c.args.h c.args.resumes.now c.args.functions.now c.args.variables.now c.args.counters.now c.args.trace.now) c.if-k-starts.false _ _ c.kind_at-kind.ensures c.line_at.ensures c.in-Do.is _ _ _ c.do_line.ensures

pub returns-in-Tick : goal.returns-in-Tick
returns-in-Tick c = tick-arm c.args.lines.now (map_of c.args.starts.now c.args.owners.now c.args.home) (parts_of c.args.h c.args.resumes.now c.args.functions.now c.args.variables.now c.args.counters.now c.args.trace.now) c.if-k-starts.false _ _ c.kind_at-kind.ensures c.line_at-in-Tick.ensures c.in-Tick.is _ _ _ c.tick.ensures c.stay.ensures

pub returns-in-Test : goal.returns-in-Test
returns-in-Test c = test-arm c.args.lines.now (map_of c.args.starts.now c.args.owners.now c.args.home) (parts_of c.args.h c.args.resumes.now c.args.functions.now c.args.variables.now c.args.counters.now c.args.trace.now) c.if-k-starts.false _ _ c.kind_at-kind.ensures c.line_at-in-Test.ensures c.in-Test.is _ _ c.test_line.ensures

pub returns-in-Leave : goal.returns-in-Leave
returns-in-Leave c = leave-arm c.args.lines.now (map_of c.args.starts.now c.args.owners.now c.args.home) (parts_of c.args.h c.args.resumes.now c.args.functions.now c.args.variables.now c.args.counters.now c.args.trace.now) c.if-k-starts.false _ _ c.kind_at-kind.ensures c.line_at-in-Leave.ensures c.in-Leave.is _ _ _ c.leave.ensures c.stay-in-Leave.ensures

pub returns-in-Out : goal.returns-in-Out
returns-in-Out c = out-arm c.args.lines.now (map_of c.args.starts.now c.args.owners.now c.args.home) (parts_of c.args.h c.args.resumes.now c.args.functions.now c.args.variables.now c.args.counters.now c.args.trace.now) c.if-k-starts.false _ _ c.kind_at-kind.ensures c.line_at-in-Out.ensures c.in-Out.is _ _ _ c.out.ensures c.stay-in-Out.ensures

pub returns-in-Call : goal.returns-in-Call
returns-in-Call c = call-arm c.args.lines.now (map_of c.args.starts.now c.args.owners.now c.args.home) (parts_of c.args.h c.args.resumes.now c.args.functions.now c.args.variables.now c.args.counters.now c.args.trace.now) c.if-k-starts.false _ _ c.kind_at-kind.ensures c.line_at-l.ensures c.in-Call.is _ _ _ _ c.call.ensures

pub returns-in-Back : goal.returns-in-Back
returns-in-Back c = back-arm c.args.lines.now (map_of c.args.starts.now c.args.owners.now c.args.home) (parts_of c.args.h c.args.resumes.now c.args.functions.now c.args.variables.now c.args.counters.now c.args.trace.now) c.if-k-starts.false _ _ c.kind_at-kind.ensures c.line_at-in-Back.ensures c.in-Back.is _ _ _ c.back.ensures c.stay-in-Back.ensures

pub returns-in-Ret : goal.returns-in-Ret
returns-in-Ret c = ret-arm c.args.lines.now (map_of c.args.starts.now c.args.owners.now c.args.home) (parts_of c.args.h c.args.resumes.now c.args.functions.now c.args.variables.now c.args.counters.now c.args.trace.now) c.if-k-starts.false _ _ c.kind_at-kind.ensures c.line_at-l-in-Ret.ensures c.in-Ret.is _ _ c.ret.ensures
