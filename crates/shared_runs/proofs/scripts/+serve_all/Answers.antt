use Rattle.std.proofs.Common.{rules, ◌≡◌, ◌+◌, length, ap, ◌∙◌, Ok, Err, inl, inr}
use Rattle.std.proofs.lemmas.Result.{on_ok_weaker}
use Rattle.solver_check.specs.Inputs.{told}
use Rattle.shared_runs.specs.Drills.{inputs_of}
use Rattle.shared_runs.proofs.Numbering.{may_give, may_still_split, is_given}
use Rattle.shared_runs.proofs.ScriptSessions.{served, served_on, still_for}
use Rattle.shared_runs.proofs.ScriptFaults.{has_ended, later_fault, on_err}
use Rattle.shared_runs.proofs.Gathering.{split_gathered, join_gathered, own_kept, one_more_joined}
use Rattle.shared_runs.proofs.scripts.+serve_all.Goals as goal

pub unreachable-requires : goal.unreachable-requires
unreachable-requires g t c =
    may_give _ _ _ _ _ c.requires.first c.in-Some.ensures.cases.1 c.in_default-split.ensures.fault.0

pub serve_all-others-requires-clause-first : goal.serve_all-others-requires-clause-first
serve_all-others-requires-clause-first g t c κs within =
    may_still_split c.args.desk.now _ _ _ _ c.requires.first c.in-Some.ensures.cases.1 c.split.new.pass _ c.in-Ok.ensures.split (search rules)

pub returns-in-Ok-ended-clause-gathered : goal.returns-in-Ok-ended-clause-gathered
returns-in-Ok-ended-clause-gathered g t c =
    join_gathered _ c.split.new.pass.known _ _ _ (split_gathered _ _ _ c.requires.first.nothing_seen c.requires.first.none_joined c.in-Ok.ensures.split) c.serve_all-others.ensures.gathered c.join.ensures.joined

pub returns-in-Ok-ended-clause-refused : goal.returns-in-Ok-ended-clause-refused
returns-in-Ok-ended-clause-refused g t c =
    let given = is_given _ _ _ _ _ c.requires.first c.in-Some.ensures.cases.1 _ _ _ c.in-Ok.ensures.split c.in-Ok-begin.ensures.before in
    let start : c.split.new.pass.known.start ≡ c.args.first.now.known.start = λ i. (c.in-Ok.ensures.split.given i).start in
    let here =
    has_ended c.in-Ok-begin.child.promise.desk.now c.args.first.now.known.start (c.args.number + 1) (told (g.P.Serving.version c.args.serving.now) c.in-Some.script.now.items) (told c.in-Ok-begin.child.promise.version c.in-Ok-begin.child.promise.text.now) _
    c.join-pass.result.0.known c.join-pass.result.1 (Ok c.in-Ok-ended.field-0) given (λ i. told (c.in-Ok-begin.ensures.version i) ((c.in-Ok-begin.ensures.text ∙ c.as_slice-text.ensures.value) i)) c.in-Ok-ended.is c.join-pass.ensures.1 in
    on_err c.serve_all-others.result _ _
    (λ fault more. rw (ap (inputs_of (g.P.Serving.version c.args.serving.now)) c.in-Some.ensures.cases.0) (later_fault c.args.desk.now c.args.first.now.known.start (c.args.number + 1) (told (g.P.Serving.version c.args.serving.now) c.in-Some.script.now.items) (inputs_of (g.P.Serving.version c.args.serving.now) c.in-Some.later.now) fault (c.in-Ok-ended.field-0, rw c.in-Ok-begin.ensures.desk at here) (rw start at more)))
    c.serve_all-others.ensures.refused

pub returns-in-Err-clause-gathered : goal.returns-in-Err-clause-gathered
returns-in-Err-clause-gathered g t c =
    join_gathered _ c.split.new.pass.known _ _ _ (split_gathered _ _ _ c.requires.first.nothing_seen c.requires.first.none_joined c.in-Ok.ensures.split) c.serve_all-others.ensures.gathered c.join.ensures.joined

pub returns-in-Err-clause-refused : goal.returns-in-Err-clause-refused
returns-in-Err-clause-refused g t c =
    let given = is_given _ _ _ _ _ c.requires.first c.in-Some.ensures.cases.1 _ _ _ c.in-Ok.ensures.split c.in-Ok-begin.ensures.before in
    let here =
    has_ended c.in-Ok-begin.child.promise.desk.now c.args.first.now.known.start (c.args.number + 1) (told (g.P.Serving.version c.args.serving.now) c.in-Some.script.now.items) (told c.in-Ok-begin.child.promise.version c.in-Ok-begin.child.promise.text.now) _
    c.join-pass.result.0.known c.join-pass.result.1 (Err c.in-Err.fault) given (λ i. told (c.in-Ok-begin.ensures.version i) ((c.in-Ok-begin.ensures.text ∙ c.as_slice-text.ensures.value) i)) c.in-Err.is c.join-pass.ensures.1 in
    rw (ap (inputs_of (g.P.Serving.version c.args.serving.now)) c.in-Some.ensures.cases.0) (inr (inl (c.in-Err.fault, rw c.in-Ok-begin.ensures.desk at here, c.from.ensures)))

pub returns-in-Ok-ended-clause-served : goal.returns-in-Ok-ended-clause-served
returns-in-Ok-ended-clause-served g t c =
    let given = is_given _ _ _ _ _ c.requires.first c.in-Some.ensures.cases.1 _ _ _ c.in-Ok.ensures.split c.in-Ok-begin.ensures.before in
    let start : c.split.new.pass.known.start ≡ c.args.first.now.known.start = λ i. (c.in-Ok.ensures.split.given i).start in
    let joined = c.join.ensures.joined in
    let numbered : c.join-pass.result.0.known.planner ≡ c.args.number + 1 = still_for _ _ _ _ _ c.join-pass.ensures.1 ∙ given.number in
    let here =
    served c.args.first.now.known.start c.join.new.pass.known.made (c.args.number + 1) c.in-Ok-ended.field-0 (told (g.P.Serving.version c.args.serving.now) c.in-Some.script.now.items) (told c.in-Ok-begin.child.promise.version c.in-Ok-begin.child.promise.text.now) c.in-Ok-begin.child.promise.desk.now _
    c.join-pass.result.0.known c.join-pass.result.1 given (λ i. told (c.in-Ok-begin.ensures.version i) ((c.in-Ok-begin.ensures.text ∙ c.as_slice-text.ensures.value) i)) c.in-Ok-ended.is c.join-pass.ensures.1 joined.others joined.own_of_other in
    on_ok_weaker c.serve_all-others.result
    (λ all. rw (ap (inputs_of (g.P.Serving.version c.args.serving.now)) c.in-Some.ensures.cases.0) (
      one_more_joined _ _ _ joined (c.args.number + 1) (length (inputs_of (g.P.Serving.version c.args.serving.now) c.in-Some.later.now)) numbered all.0,
      (
        rw c.in-Ok-begin.ensures.desk at here,
        served_on c.args.desk.now c.args.first.now.known.start c.serve_all-others.new.first.known.made c.join.new.pass.known.made joined.seen (c.args.number + 1 + 1) (inputs_of (g.P.Serving.version c.args.serving.now) c.in-Some.later.now)
            (λ number low high. own_kept _ _ _ joined c.serve_all-others.ensures.gathered.kept number (all.0 number low high))
            (rw start at all.1),
      ),
    ))
    c.serve_all-others.ensures.served
