use Rattle.std.proofs.Common.{rules, ◌≡◌, ◌∷◌, [], ℕ, refl, subst, Result, Ok}
use Rattle.desk_commits.specs.Questions.{TellsCut}
use Rattle.desk_commits.specs.State.{grown}
use Rattle.desk_commits.specs.declared.answers.AskFault.{AskFault}
use Rattle.desk_commits.specs.declared.answers.Reading.{Reading}
use Rattle.desk_c.proofs.planning.try_path.Goals as goal

-- src/planning.rt:80:1
pub returns-in-Ok-default-Ok-clause-told : goal.returns-in-Ok-default-Ok-clause-told
returns-in-Ok-default-Ok-clause-told c = let alone : (c.in-Ok-cutting.question.agents ≡ c.args.agent ∷ []) = search rules in
    let of = c.in-Ok-default-Ok in let agents = c.in-Ok-cutting.question.agents in let told = of.ensures.answer in
    let cut = subst (λ (a : Result Reading AskFault). TellsCut (grown c.args.desk.now c.in-Ok.commit) agents a) of.field-0-1-is told.2 in
    record { commit = c.in-Ok.commit; is = c.in-Ok.ensures; agents = agents; alone = alone; answered = (told.0, refl, cut) }
