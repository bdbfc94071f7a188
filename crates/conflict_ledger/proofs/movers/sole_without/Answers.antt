use Rattle.std.proofs.Common.{◌≡◌, ◌⊎◌, ℕ, ◌<◌, length, get_or, inl, inr, sym, ◌∙◌}
use mathlib.Core.Bool.{false≢true}
use Rattle.std.proofs.lemmas.List.{get_or_default}
use Rattle.where_index.specs.declared.moves.Move.{Move}
use Rattle.mapf_rules.proofs.Walks.{same_or_not}
use Rattle.conflict_ledger.proofs.movers.sole_without.Goals as goal

pub returns-else-no_third-clause-found : goal.returns-else-no_third-clause-found
returns-else-no_third-clause-found c mover goal is only =
    let mine : c.in_ok-mover.mover.0 ≡ mover = only c.in_ok-mover.mover.0 c.in_ok-mover.mover.1 (inr c.in_ok-mover.ensures.some) in
    let each = λ (k : ℕ) (d : Move) (within : k < length c.args.moves.now). elim (same_or_not (get_or c.args.moves.now k d).agent c.args.agent) as (λ _. ((get_or c.args.moves.now k d).agent ≡ c.args.agent) ⊎ ((get_or c.args.moves.now k d).agent ≡ c.in_ok-mover.mover.0)) [
      | inl own ↦ inl own
      | inr apart ↦ inr (only (get_or c.args.moves.now k d).agent (get_or c.args.moves.now k d).to (inr (apart, (k, within, get_or_default c.args.moves.now k (get_or c.args.moves.now k d) d within))) ∙ sym mine)
    ] in
    absurd (false≢true (sym c.if-no_third.false ∙ c.no_third.ensures.1 each))
