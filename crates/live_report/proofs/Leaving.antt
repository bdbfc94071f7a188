-- Agents that are left to be caught up with, one fewer each time.
use Rattle.std.proofs.Common.{◌≡◌, ℕ, ◌+◌, ◌<◌, List, [], ◌∷◌, length, drop, get_or, sym, ap, ◌∙◌, inl, inr, arith}
use Rattle.std.proofs.lemmas.Bool.Decides.{eqb_tells, nat_tests}
use Rattle.std.proofs.lemmas.Grind.{common_steps}
use Rattle.std.proofs.lemmas.Option.{gets}
use Rattle.plan_table.proofs.Order.{AllPairs-head, AllPairs-tail, Contains-nil, Contains-cons_tail, Contains-cons_cases}
use Rattle.live_report.specs.Prices.{Rows, with_row_in}
use Rattle.scene_edits.specs.declared.named_agents.Former.{Former}
use Rattle.live_report.specs.Following.{AreLeft}

-- what is left of a list from a place on
pub left_from : {X : Type 0} (xs : List X) (k : ℕ) (x : X) → k < length xs → x ≡ get_or xs k x → drop k xs ≡ x ∷ drop (k + 1) xs
left_from xs k x within is = grind (arith, nat_tests, common_steps, gets)

-- the first one is caught up with
pub left_fewer : (rows new : Rows) (former : Former) (later : List Former) → AreLeft rows new (former ∷ later) → AreLeft (with_row_in rows former.agent (new former.agent)) new later
left_fewer rows new former later left =
    record {
      rising = AllPairs-tail (λ a b. a.agent < b.agent) former later left.rising;
      was = λ other there. let above : former.agent < other.agent = AllPairs-head (λ a b. a.agent < b.agent) former later left.rising other there in
          elim (eqb_tells other.agent former.agent) [
            | inl same ↦ absurd (omega (arith, same.1))
            | inr apart ↦ rw apart.0 (left.was other (Contains-cons_tail former later other there))
          ];
      alike = λ other there. left.alike other (Contains-cons_tail former later other there);
      others = λ agent none. elim (eqb_tells agent former.agent) [
        | inl same ↦ rw same.0 (ap new (sym same.1))
        | inr apart ↦ rw apart.0 (left.others agent (λ other there is. elim (Contains-cons_cases former later other there) [
          | inl first ↦ apart.1 (sym is ∙ ap (λ (f : Former). f.agent) (sym first))
          | inr rest ↦ none other rest is
        ]))
      ];
    }

-- none is left
pub none_left : (rows new : Rows) → AreLeft rows new [] → rows ≡ new
none_left rows new left = λ i agent. left.others agent (λ former there is. Contains-nil former there) i
