use Rattle.sweeper.proofs.Trial.{standing-start, tried}
use Rattle.sweeper.proofs.table.finishes.Goals as goal

pub ending-e-requires : goal.ending-e-requires
ending-e-requires c = standing-start _ _ c.args.table.now.ready _ c.args.spare.now.counters c.args.spare.now.words_are _ c.begun-start.ensures _ c.fresh.ensures

pub returns : goal.returns
returns c = tried _ _ c.args.table.now.ready _ c.args.spare.now.counters c.args.spare.now.words_are _ c.begun-start.ensures _ c.fresh.ensures _ _ c.ending-e.ensures _ c.is_finish.ensures
