use Rattle.std.proofs.Common.{◌≡◌, ◌<◌, length, sym, ap, subst, ◌∙◌, inl, inr, arith, length-append, map}
use Rattle.std.specs.List.{slice_get}
use Rattle.std.proofs.lemmas.Bool.{cases_order}
use Rattle.std.proofs.lemmas.Option.{same_Some, slice_get_within}
use Rattle.std.proofs.lemmas.List.{length-map}
use Rattle.desk_commits.specs.Entries.{thing_of, things_of}
use Rattle.desk_commits.specs.Stale.{IsFreshSince}
use Rattle.desk_commits.proofs.stale.first_stale.Goals as goal

pub loop-rank-init : goal.loop-rank-init
loop-rank-init c = λ earlier other less. absurd (omega (arith, less))

pub returns-in-Some-clause-stale : goal.returns-in-Some-clause-stale
returns-in-Some-clause-stale c =
    record {
      rank = c.loop-rank.rank;
      told = c.thing_at-thing.ensures;
      first = c.loop-rank.invariant;
      last = rw c.base.ensures at c.in-Some.ensures.last;
    }

pub loop-rank-preserved : goal.loop-rank-preserved
loop-rank-preserved c = λ earlier other less told.
    elim (cases_order earlier c.loop-rank.rank) [
      | inl same ↦
          let here = ap (λ k. slice_get (things_of c.args.commit.now) k) same in
          let thing : c.thing_at-thing.result ≡ other = same_Some c.thing_at-thing.result other (sym c.thing_at-thing.ensures ∙ sym here ∙ told) in
          let fresh : IsFreshSince c.args.journal.now c.args.commit.now.base c.thing_at-thing.result = rw c.base.ensures at c.in_default.ensures.none in
          subst (λ t. IsFreshSince c.args.journal.now c.args.commit.now.base t) thing fresh
      | inr (inl sooner) ↦ c.loop-rank.invariant earlier other sooner told
      | inr (inr later) ↦ absurd (omega (arith, less))
    ]

pub returns-clause-fresh : goal.returns-clause-fresh
returns-clause-fresh c = λ rank thing told.
    let within : rank < length (things_of c.args.commit.now) = slice_get_within (things_of c.args.commit.now) rank thing told in
    let watch : length c.watch.result.now ≡ length c.args.commit.now.watch = ap length c.watch.ensures.is in
    let edits : length c.edits.result.now ≡ length c.args.commit.now.edits = ap length c.edits.ensures.is in
    let all = length-append c.args.commit.now.watch (map thing_of c.args.commit.now.edits) in
    let each = length-map c.args.commit.now.edits thing_of in
    c.loop-rank.invariant rank thing (omega (arith, all, each)) told
