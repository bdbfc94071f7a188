-- What was looked at, agent after agent.
use Rattle.std.proofs.Common.{◌≡◌, inl, inr, ℕ, List, [], ◌∷◌, ◌++◌, Contains, sym, ap, subst}
use mathlib.Core.Logic.{◌↔◌}
use Rattle.grid_cells.specs.Grid.{Chart}
use Rattle.plan_table.proofs.Order.{Contains-nil}
use Rattle.plan_table.proofs.Sets.{push_iff}
use Rattle.mapf_rules.specs.declared.visits.Visit.{Visit}
use Rattle.desk_report.specs.declared.reports.AgentLine.{AgentLine}
use Rattle.live_report.specs.Looks.{IsLook, LooksFurther}
use Rattle.live_report.specs.Prices.{Rows}
use Rattle.live_report.specs.declared.looks.Look.{Look}

module _ (grid : Chart) (rows : Rows) where
  pub look_none : (look : Look) → look.lines.items ≡ [] → look.visits.items ≡ [] → IsLook grid rows [] look
  look_none look lines visits = record {
    lines = λ line. (λ h. absurd (Contains-nil line (subst (λ (l : List AgentLine). Contains l line) lines h)), λ w. absurd (Contains-nil line.agent w.0));
    visits = λ visit. (λ h. absurd (Contains-nil visit (subst (λ (l : List Visit). Contains l visit) visits h)), λ w. absurd (Contains-nil visit.agent w.0));
  }

  pub look_more : (agents : List ℕ) (agent : ℕ) (old new : Look) → IsLook grid rows agents old → LooksFurther grid rows agent old new → IsLook grid rows (agents ++ agent ∷ []) new
  look_more agents agent old new look more = record {
    lines = λ line.
        let among = push_iff agents agent line.agent in (
          λ h. elim ((more.lines line).0 h) [
            | inl was ↦ let w = (look.lines line).0 was in (among.1 (inl w.0), w.1)
            | inr w ↦ (among.1 (inr w.0), w.1)
          ],
          λ w. (more.lines line).1 (elim (among.0 w.0) [ inl earlier ↦ inl ((look.lines line).1 (earlier, w.1)) | inr same ↦ inr (same, w.1) ]),
        );
    visits = λ visit.
        let among = push_iff agents agent visit.agent in (
          λ h. elim ((more.visits visit).0 h) [
            | inl was ↦ let w = (look.visits visit).0 was in (among.1 (inl w.0), w.1)
            | inr w ↦ (among.1 (inr w.0), w.1)
          ],
          λ w. (more.visits visit).1 (elim (among.0 w.0) [ inl earlier ↦ inl ((look.visits visit).1 (earlier, w.1)) | inr same ↦ inr (same, w.1) ]),
        );
  }

-- each one's agent is there, and one more
pub has_more : {X : Type 0} (agent_of : X → ℕ) (xs : List X) (x : X) (agents : List ℕ) → ((y : X) → Contains xs y → Contains agents (agent_of y)) → (y : X) → Contains (xs ++ x ∷ []) y → Contains (agents ++ agent_of x ∷ []) (agent_of y)
has_more agent_of xs x agents has y h =
    let more = push_iff agents (agent_of x) (agent_of y) in
    elim ((push_iff xs x y).0 h) [ inl earlier ↦ more.1 (inl (has y earlier)) | inr same ↦ more.1 (inr (ap agent_of same)) ]
