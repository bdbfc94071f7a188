use Rattle.std.proofs.Common.{refl}
use Rattle.std.specs.BTreeMap.{keys}
use Rattle.scene_edits.proofs.NamedAgents.{keys-same, keys-joined}
use Rattle.scene_edits.proofs.taking_back.take_back.Goals as goal

pub returns-in-Added-clause-named : goal.returns-in-Added-clause-named
returns-in-Added-clause-named c = keys-joined c.keep.result c.args.change.now c.in-Added.agent (keys c.args.rows.now) (keys c.keep.new.rows) (rw c.in-Added.is refl) c.keep.ensures.named

pub returns-in-Dropped-clause-named : goal.returns-in-Dropped-clause-named
returns-in-Dropped-clause-named c = keys-joined c.keep-in-Dropped.result c.args.change.now c.in-Dropped.agent (keys c.args.rows.now) (keys c.keep-in-Dropped.new.rows) (rw c.in-Dropped.is refl) c.keep-in-Dropped.ensures.named

pub returns-in-None-clause-named : goal.returns-in-None-clause-named
returns-in-None-clause-named c = keys-same c.args.change.now (keys c.args.rows.now)

pub returns-in-Some-clause-named : goal.returns-in-Some-clause-named
returns-in-Some-clause-named c = keys-joined c.keep-in-Some.result c.args.change.now c.in-Aimed.agent (keys c.args.rows.now) (keys c.keep-in-Some.new.rows) (rw c.in-Aimed.is refl) c.keep-in-Some.ensures.named

pub returns-in-None-known-clause-named : goal.returns-in-None-known-clause-named
returns-in-None-known-clause-named c = keys-same c.args.change.now (keys c.args.rows.now)

pub returns-in-Some-known-clause-named : goal.returns-in-Some-known-clause-named
returns-in-Some-known-clause-named c = keys-joined c.keep-in-Some-known.result c.args.change.now c.in-Moved.agent (keys c.args.rows.now) (keys c.keep-in-Some-known.new.rows) (rw c.in-Moved.is refl) c.keep-in-Some-known.ensures.named

pub returns-in-Flipped-clause-named : goal.returns-in-Flipped-clause-named
returns-in-Flipped-clause-named c = keys-same c.args.change.now (keys c.args.rows.now)

pub returns-in-Flipped-2-clause-named : goal.returns-in-Flipped-2-clause-named
returns-in-Flipped-2-clause-named c = keys-same c.args.change.now (keys c.args.rows.now)
