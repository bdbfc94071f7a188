-- What a history keeps.
use Rattle.std.proofs.Common.{◌≡◌, ℕ, zero, suc, ◌+◌, ◌-◌, ◌<◌, ◌≤◌, List, [], ◌∷◌, length, drop, Bool, true, false, refl, sym, ap, subst, ◌∙◌, arith, drop-drop, length-drop}
use Rattle.change_history.specs.Logged.{joined}
use Rattle.live_report.specs.Histories.{HistoryState, AreEven, records_in, versions_in, without}

-- one version fewer
pub without_more : (lost : ℕ) (first now new : HistoryState) → now ≡ without lost first → new ≡ without 1 now → new ≡ without (lost + 1) first
without_more lost first now new left one =
    one ∙ ap (without 1) left ∙ λ i. record first { conflicts = drop-drop 1 lost first.conflicts i; visits = drop-drop 1 lost first.visits i; lines = drop-drop 1 lost first.lines i }

none_joined : {X : Type 0} → (parts : List (List X)) → length parts ≡ 0 → length (joined parts) ≡ 0
none_joined [] none = refl
none_joined (part ∷ parts) none = absurd (omega arith)

-- where it has an element it has a version
pub some_version : (history : HistoryState) → AreEven history.conflicts history.visits history.lines → (records_in history ≤ history.most → ⊥) → 0 < versions_in history
some_version history even many = pos (versions_in history) refl
  where
    pos : (n : ℕ) → versions_in history ≡ n → 0 < versions_in history
    pos zero is =
        let conflicts = none_joined history.conflicts is in
        let visits = none_joined history.visits (even.0 ∙ is) in
        let lines = none_joined history.lines (even.1 ∙ is) in
        absurd (many (omega (arith, conflicts, visits, lines)))
    pos (suc n) is = omega (arith, is)
