use Rattle.solver_check.specs.Opens.{bytes_of}
use Rattle.mapf_desk.specs.Ends.{limit_of}
use Rattle.mapf_desk.proofs.LogDesk.{had_of, logged_desk}
use Rattle.mapf_desk.proofs.log_opening.ready.Goals as goal

pub returns-in-Ok-resumed-clause-opens : goal.returns-in-Ok-resumed-clause-opens
returns-in-Ok-resumed-clause-opens g c =
    let digest = rw c.bytes_in.ensures at c.scene_digest-scene.ensures in
    let read = rw (c.as_slice.ensures.value, c.as_slice-2.ensures.value) at c.in-Ok-log_in.ensures in (
      bytes_of c.journal_in.result,
      had_of c.args.words.now c.args.map.now (bytes_of c.args.scen) c.args.opened.bytes.items c.in-Ok.head.items c.scene_digest-scene.result c.in-Ok-log_in.had (bytes_of c.journal_in.result)
          digest c.in-Ok.ensures read c.journal_in.ensures,
      c.in-Ok-opened_desk.ensures,
    )

pub returns-in-Ok-resumed-clause-kept : goal.returns-in-Ok-resumed-clause-kept
returns-in-Ok-resumed-clause-kept g c told =
    let digest = rw c.bytes_in.ensures at c.scene_digest-scene.ensures in
    let read = rw (c.as_slice.ensures.value, c.as_slice-2.ensures.value) at c.in-Ok-log_in.ensures in
    rw c.new.ensures.writer
    (logged_desk c.args.map.now (bytes_of c.args.scen) c.args.words.now.agents c.args.words.now.mode c.args.words.now.mode (limit_of c.args.words.now) _ c.args.opened.bytes.items c.in-Ok.head.items c.scene_digest-scene.result _
    c.in-Ok-log_in.had (bytes_of c.journal_in.result) c.in-Ok-opened_desk.desk _ _ _ _ c.in-Ok.ensures digest read c.journal_in.ensures c.in-Ok-opened_desk.ensures (rw c.as_slice-3.ensures.value at (c.in-Ok-resumed.ensures told)))
