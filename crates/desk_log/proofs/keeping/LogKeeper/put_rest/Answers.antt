use Rattle.std.proofs.Common.{List, sym, subst}
use Rattle.std.specs.Prelude.{OnErr, OnOk}
use Rattle.desk_commits.specs.Entries.{Entry}
use Rattle.desk_log.specs.Keeping.{IsLogged, IsLoggedInPart}
use Rattle.desk_log.proofs.Logging.{all-since}
use Rattle.desk_log.proofs.keeping.LogKeeper.put_rest.Goals as goal

pub returns-clause-kept : goal.returns-clause-kept
returns-clause-kept g c head before later logged is =
    let log = c.put_more.new.self.writer in
    subst (λ (es : List Entry). OnOk c.put_more.result (IsLogged head (g.L.Log.text log.log) (g.L.Log.kept log.log) log.count log.check es))
    (sym (all-since c.args.journal.now before later c.args.self.now.writer.count is logged.counts.count_is)) (c.put_more.ensures.kept head before logged)

pub returns-clause-left : goal.returns-clause-left
returns-clause-left g c head before later logged is =
    let log = c.put_more.new.self.writer in
    subst (λ (es : List Entry). OnErr c.put_more.result (IsLoggedInPart head (g.L.Log.text log.log) (g.L.Log.kept log.log) before es))
    (sym (all-since c.args.journal.now before later c.args.self.now.writer.count is logged.counts.count_is)) (c.put_more.ensures.left head before logged)
