use Rattle.std.proofs.Common.{◌≡◌, ℕ, List, ◌++◌, length, take, drop, IfSome, Result, arith, ap, subst, sym, ◌∙◌}
use Rattle.std.proofs.Math.Seq.{take-append_seam}
use Rattle.shared_runs.specs.Hosts.{HasHosted}
use Rattle.shared_runs.specs.Logged.{IsJoinedUnused}
use Rattle.solver_check.specs.declared.seats.SeatFault.{SeatFault}
use Rattle.shared_runs.proofs.hosts.threads.fn.host_threads.scope.Goals as goal

pub returns : goal.returns
returns g c =
    let items = c.captures.outcomes.items in
    let new = c.host_all-first.new.outcomes in
    let last = c.host_all-first.result.0.known in
    let same : length c.as_mut_slice-seated.result.now ≡ length items = ap length c.as_mut_slice-seated.ensures.value in
    let many : c.captures.outcomes.len ≡ length new = omega (arith, same, c.host_all-first.ensures.as_many, c.captures.outcomes.ok) in
    let written : take c.captures.outcomes.len (new ++ drop (length new) items) ≡ new = ap (λ (n : ℕ). take n (new ++ drop (length new) items)) many ∙ take-append_seam new (drop (length new) items) in
    record {
      owned = c.host_all-first.ensures.owned;
      as_many = ap length written ∙ c.host_all-first.ensures.as_many ∙ same;
      hosted = subst (λ (outcomes : List (Result ℕ SeatFault)). HasHosted c.captures.desk.now (g.S.Seats.inputs c.captures.seats.now) c.captures.first.known last 1 outcomes c.host_all-first.result.1) (sym written) c.host_all-first.ensures.hosted;
      unused = subst (λ (n : ℕ). IfSome c.captures.log (λ _. IsJoinedUnused n last.past)) (omega (arith, same)) c.host_all-first.ensures.unused;
      logged = c.host_all-first.ensures.logged;
      kept = c.host_all-first.ensures.kept;
    }
