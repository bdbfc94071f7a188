use Rattle.std.proofs.Common.{◌≡◌, ◌<◌, ◌≤◌, ◌||◌, Bool, length, arith, refl, sym, subst}
use Rattle.std.proofs.Math.Bool.{or-false}
use Rattle.shared_runs.specs.declared.drilling.TheConstants.{MOST_SCRIPTS}
use Rattle.shared_runs.proofs.Drilled.{fails_many, fails_unwritten, fails_writing}
use Rattle.shared_runs.proofs.ScriptFaults.{unwritten}
use Rattle.shared_runs.proofs.drilling.drill.Goals as goal

pub returns-then-len-gt-MOST_SCRIPTS-clause-refused : goal.returns-then-len-gt-MOST_SCRIPTS-clause-refused
returns-then-len-gt-MOST_SCRIPTS-clause-refused g c =
    let many : MOST_SCRIPTS < length c.args.scripts.items = omega (arith, c.if-len-gt-MOST_SCRIPTS.true, c.len.ensures) in
    fails_many _ _ _ _ _ c.args.scripts.items _ _ many refl

pub returns-in-Err-clause-refused : goal.returns-in-Err-clause-refused
returns-in-Err-clause-refused g c =
    let few : length c.args.scripts.items ≤ MOST_SCRIPTS = omega (arith, c.if-len-gt-MOST_SCRIPTS.false, c.len.ensures) in
    fails_unwritten _ _ _ _ _ c.args.scripts.items _ _ c.in-Err.fault few (rw c.as_slice-texts.ensures.value at c.in-Err.ensures.refused) refl

pub returns-in-Err-clause-broken : goal.returns-in-Err-clause-broken
returns-in-Err-clause-broken g c =
    let none = unwritten _ _ _ _ _ c.in-Err.fault c.in-Err.ensures.refused in
    subst (λ (b : Bool). g.W.Sink.broken c.args.writer.now ≡ (g.W.Sink.broken c.args.writer.now || b)) (sym none) (sym (or-false _))

pub returns-in-Err-put-clause-refused : goal.returns-in-Err-put-clause-refused
returns-in-Err-put-clause-refused g c =
    let few : length c.args.scripts.items ≤ MOST_SCRIPTS = omega (arith, c.if-len-gt-MOST_SCRIPTS.false, c.len.ensures) in
    fails_writing _ _ _ _ _ c.args.scripts.items _ _ c.in-Ok.end.0 c.in-Ok.end.1 few (rw c.as_slice-texts.ensures.value at c.in-Ok.ensures.drilled) c.in-Err-put.ensures.err

pub returns-in-Ok-put-clause-drilled : goal.returns-in-Ok-put-clause-drilled
returns-in-Ok-put-clause-drilled g c = record { reading = c.in-Ok.end.0; comes_to = rw c.as_slice-texts.ensures.value at c.in-Ok.ensures.drilled; written = c.in-Ok-put.ensures.ok }
