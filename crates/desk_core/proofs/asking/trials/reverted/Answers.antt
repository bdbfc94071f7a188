use Rattle.desk_core.proofs.asking.trials.reverted.Goals as goal

pub followed-requires : goal.followed-requires
followed-requires c = (c.args.scene.now, rw c.items.ensures c.in-Ok.ensures.told, c.requires.stand)
