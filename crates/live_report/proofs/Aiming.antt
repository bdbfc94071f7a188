-- Goals that agents aim at, and their fields: one agent more, one less, and repairs.
use Rattle.std.proofs.Common.{◌≡◌, ◌<◌, inl, inr, List, length, get_or, sym, ap, ◌∙◌, subst, ℕ, arith}
use mathlib.Core.Logic.{◌↔◌}
use Rattle.std.specs.List.{AllZip}
use Rattle.std.proofs.lemmas.List.Elements.{All-contains, Contains-get_or, length_all_zip, AllZip-get_or}
use Rattle.grid_cells.specs.Cell.{Point}
use Rattle.grid_cells.specs.Grid.{Chart}
use Rattle.goal_fields.specs.Target.{Standing}
use Rattle.goal_fields.specs.Changes.{IsRepaired}
use Rattle.goal_fields.specs.Held.{HasGoal, StandFor, SameButGoal}
use Rattle.goal_fields.proofs.Neighbours.{cases_cell}
use Rattle.plan_table.specs.Sets.{Gains, Loses}
use Rattle.live_report.specs.Aims.{aim, IsAimedAt}
use Rattle.live_report.specs.Goals.{HoldAimed}
use Rattle.live_report.specs.declared.aims.Aim.{Aim}

-- the fields of another goal are the same
other_goal : (fields held : List Standing) (goal other : Point) → SameButGoal fields held goal → (other ≡ goal → ⊥) → HasGoal held other ↔ HasGoal fields other
other_goal fields held goal other same apart =
    ((λ has. (has.0, (same has.0 (λ e. apart (sym has.2 ∙ e))).0 has.1, has.2)), (λ has. (has.0, (same has.0 (λ e. apart (sym has.2 ∙ e))).1 has.1, has.2)))

module _ (goal : Point) (agent : ℕ) (aims new : List Aim) (fields : List Standing) (were : HoldAimed aims fields) where
  -- one agent more
  pub gained : (held : List Standing) → Gains aims new (aim goal agent) → HasGoal held goal → SameButGoal fields held goal → HoldAimed new held
  gained held gains has same other = elim (cases_cell other goal) [
    | inl is ↦ ((λ _. (agent, (gains (aim other agent)).1 (inr (ap (λ p. aim p agent) is)))), (λ _. subst (HasGoal held) (sym is) has))
    | inr apart ↦
        let fields_same = other_goal fields held goal other same apart in (
          (λ h. let one = (were other).0 (fields_same.0 h) in (one.0, (gains (aim other one.0)).1 (inl one.1))),
          (λ one. elim ((gains (aim other one.0)).0 one.1) [
            | inl old ↦ fields_same.1 ((were other).1 (one.0, old))
            | inr e ↦ absurd (apart (ap (λ (a : Aim). a.goal) e))
          ]),
        )
  ]

  -- one agent less, where another still aims at the goal
  pub kept : Loses aims new (aim goal agent) → IsAimedAt new goal → HoldAimed new fields
  kept loses still other = (
    (λ h. elim (cases_cell other goal) [
      | inl is ↦ subst (IsAimedAt new) (sym is) still
      | inr apart ↦ let one = (were other).0 h in (one.0, (loses (aim other one.0)).1 (one.1, λ e. apart (ap (λ (a : Aim). a.goal) e)))
    ]),
    (λ one. (were other).1 (one.0, ((loses (aim other one.0)).0 one.1).0)),
  )

  -- one agent less, where no other aims at the goal
  pub released : (held : List Standing) → Loses aims new (aim goal agent) → (IsAimedAt new goal → ⊥) → (HasGoal held goal → ⊥) → SameButGoal fields held goal → HoldAimed new held
  released held loses none gone same other = elim (cases_cell other goal) [
    | inl is ↦ ((λ h. absurd (gone (subst (HasGoal held) is h))), (λ one. absurd (none (subst (IsAimedAt new) is one))))
    | inr apart ↦
        let fields_same = other_goal fields held goal other same apart in (
          (λ h. let one = (were other).0 (fields_same.0 h) in (one.0, (loses (aim other one.0)).1 (one.1, λ e. apart (ap (λ (a : Aim). a.goal) e)))),
          (λ one. fields_same.1 ((were other).1 (one.0, ((loses (aim other one.0)).0 one.1).0))),
        )
  ]

-- the fields that are left stand for the map that all stood for
pub stand_released : (grid : Chart) (goal : Point) (fields held : List Standing) → (HasGoal held goal → ⊥) → SameButGoal fields held goal → StandFor grid fields → StandFor grid held
stand_released grid goal fields held gone same stand k d within =
    let there = Contains-get_or held k d within in
    All-contains (λ (field : Standing). field.grid ≡ grid) fields (get_or held k d) stand ((same (get_or held k d) (λ e. gone (get_or held k d, there, e))).0 there)

module _ (grid : Chart) (old new : List Standing) (each : AllZip (IsRepaired grid) old new) where
  -- repaired fields stand for the map
  pub stand_repaired : StandFor grid new
  stand_repaired k d within =
      (AllZip-get_or (IsRepaired grid) old new k d d each (omega (arith, length_all_zip (IsRepaired grid) old new each))).stands

  -- and have the same goals
  pub held_repaired : (aims : List Aim) → HoldAimed aims old → HoldAimed aims new
  held_repaired aims were goal = (
    (λ has.
        let field = has.0 in
        let k = has.1.0 in
        let within : k < length old = omega (arith, has.1.1, length_all_zip (IsRepaired grid) old new each) in
        let repaired = AllZip-get_or (IsRepaired grid) old new k field field each within in
        (were goal).0 (get_or old k field, Contains-get_or old k field within, sym repaired.goal ∙ ap (λ (f : Standing). f.goal) has.1.2 ∙ has.2)),
    (λ one.
        let has = (were goal).1 one in
        let field = has.0 in
        let k = has.1.0 in
        let within : k < length new = omega (arith, has.1.1, length_all_zip (IsRepaired grid) old new each) in
        let repaired = AllZip-get_or (IsRepaired grid) old new k field field each has.1.1 in
        (get_or new k field, Contains-get_or new k field within, repaired.goal ∙ ap (λ (f : Standing). f.goal) has.1.2 ∙ has.2)),
  )
