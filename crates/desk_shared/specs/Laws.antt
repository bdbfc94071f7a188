-- What holds of all passes and journals.
use Rattle.std.specs.Prelude.{◌≡◌, ◌⊎◌, ℕ, ◌<◌, List, All, Any}
use Rattle.desk_commits.specs.Entries.{Entry}
use Rattle.desk_shared.specs.Passes.{PassState, MayGive, HasJust, ExtendsSeen}

-- each number of the desk is the pass's own, one that it may give away, or that of a pass that was joined into it
abbrev pub HasEachNumber : PassState → Type 0
HasEachNumber pass = (number : ℕ) → number < pass.planners → (number ≡ pass.planner) ⊎ (MayGive pass number ⊎ Any (λ numbered. numbered.0 ≡ number) pass.past)

-- where no other pass has a number, nobody else commits: the only journal that goes on from what the pass has seen is that one
abbrev pub AloneFindsWhatItSaw : Type 0
AloneFindsWhatItSaw = (pass : PassState) (made : List Entry) → HasEachNumber pass → All (HasJust pass.made) pass.past → ExtendsSeen pass made → made ≡ pass.made

-- the same for the first pass of a desk that was shared for one planner
abbrev pub OnePlannerFindsWhatItSaw : Type 0
OnePlannerFindsWhatItSaw = (pass : PassState) (made : List Entry) → pass.planners ≡ 1 → pass.planner ≡ 0 → ExtendsSeen pass made → made ≡ pass.made
