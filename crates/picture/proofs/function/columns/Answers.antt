use Rattle.picture.proofs.Lies.{lies, own-few, own_in}
use Rattle.picture.proofs.function.columns.Goals as goal

pub draw_on-mixed-requires : goal.draw_on-mixed-requires
draw_on-mixed-requires g c =
    let li = lies _ _ c.args.run.now.table.now.ready _ c.requires.0 in
    (own-few _ _ _ li _ c.cells-c.ensures.long, own_in _ _ _ li _ c.cells-c.ensures.long)
