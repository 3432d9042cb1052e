use Rattle.std.proofs.Common.{◌*◌, ◌≤◌}
use Rattle.replay.proofs.show.list.Given as goal

-- six bytes for each word at most
abbrev pub invariant-loop-word : goal.invariant-loop-word
invariant-loop-word l = l.n ≤ 6 * l.word-index
