-- Up to which version a pass has seen its desk.
use Rattle.std.proofs.Common.{◌≡◌, ℕ, arith, ap, ◌∙◌}
use Rattle.desk_commits.specs.State.{DeskState, version_of}
use Rattle.desk_shared.specs.Passes.{PassState, version_at}
use Rattle.desk_shared.specs.Calls.{AsksBy}
use Rattle.desk_shared.proofs.Journals.{version_after}
use Rattle.shared_runs.specs.Logged.{HasSeenTo}

-- a question, at the version that is answered with it
pub asked_seen : (old new : PassState) (version : ℕ) (IsAnswer : DeskState → Type 0) → AsksBy old (λ desk. IsAnswer desk × (version ≡ version_of desk)) new → HasSeenTo version new
asked_seen old new version IsAnswer is =
    let at : version ≡ version_at old.start new.made = is.answered.1 ∙ version_after old.start new.made in
    record {
      made = omega (arith, at, ap (λ (s : DeskState). version_of s) is.same.start);
      floor = omega (arith, at, is.goes_on.floor, is.same.floor);
    }
