use Rattle.std.proofs.Common.{◌≡◌, ◌∙◌, List, length, ap, subst, arith}
use Rattle.std.proofs.lemmas.Bool.Decides.{nat_tests}
use Rattle.desk_commits.specs.Entries.{Entry}
use Rattle.desk_commits.specs.State.{DeskState}
use Rattle.desk_commits.specs.Stale.{IsFresh}
use Rattle.desk_core.proofs.desks.Desk.not_current.Goals as goal

pub returns-in-None-clause-current : goal.returns-in-None-clause-current
returns-in-None-clause-current c =
    let journal : c.self.inside.journal.items ≡ c.args.self.now.journal = ap (λ (d : DeskState). d.journal) c.self.view_is in
    let limit : c.self.inside.limit ≡ c.args.self.now.limit = ap (λ (d : DeskState). d.limit) c.self.view_is in
    record {
      in_order = record {
        room = omega arith;
        base = omega arith;
        edits = λ none. let empty : length c.edits.result.now ≡ 0 = ap length (c.edits.ensures.is ∙ none) in grind (arith, nat_tests, c.if-is_empty.ensures);
      };
      fresh = subst (λ (j : List Entry). IsFresh j c.args.commit.now) (c.deref.ensures.value ∙ journal) c.in-None.ensures.fresh;
    }
