use Rattle.std.proofs.Common.{rules, ◌≡◌, ◌∷◌, [], ℕ}
use Rattle.desk_c.specs.Planning.{AsksOf}
use Rattle.desk_c.proofs.planning.entries_of.Goals as goal

-- src/planning.rt:103:1
pub returns-in-Ok-ask-clause-told : goal.returns-in-Ok-ask-clause-told
returns-in-Ok-ask-clause-told c = let alone : (c.in-Ok.question.agents ≡ c.args.agent ∷ []) = search rules in
    record { agents = c.in-Ok.question.agents; alone = alone; told = c.in-Ok-ask.ensures.answer }
