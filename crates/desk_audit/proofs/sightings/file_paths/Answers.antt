use Rattle.std.proofs.Common.{◌≡◌, ℕ, Some, sym, ap, subst, ◌∙◌, arith}
use Rattle.std.proofs.lemmas.Option.{same_Some}
use Rattle.plan_table.specs.Plans.{row_of}
use Rattle.plan_table.specs.declared.plans.Row.{Row}
use Rattle.plan_table.proofs.Fleets.{below_rank_more, all_agents, row_here}
use Rattle.desk_audit.specs.Index.{HasPath}
use Rattle.desk_audit.proofs.Paths.{keeps_path}
use Rattle.desk_audit.proofs.sightings.file_paths.Goals as goal

pub loop-rank-preserved : goal.loop-rank-preserved
loop-rank-preserved c =
    let rows = c.args.plans.now.rows in
    let adds = c.in_ok-file_path.ensures in
    let agent = c.entry_at-entry.result.0 in
    let here = row_here rows c.count-rank-end.ensures.by_agent c.loop-rank.rank agent c.entry_at-entry.result.1.now c.entry_at-entry.ensures in
    let moments = c.file_path.new.moments in
    let passes = c.file_path.new.passes in
    record {
      moments_filed = adds.moments_filed;
      passes_filed = adds.passes_filed;
      paths = below_rank_more rows c.loop-rank.rank agent (λ (a : ℕ). (row : Row) → row_of rows a ≡ Some row → HasPath moments passes c.args.rests.now a row.plan c.args.first_rest c.args.share) here.1
          (λ a k lt is row live. keeps_path _ _ _ _ _ a row.plan c.args.first_rest c.args.share adds.keeps_moments adds.keeps_passes (c.loop-rank.invariant.paths a k lt is row live))
          (λ row live.
          let same : c.entry_at-entry.result.1.now ≡ row = same_Some _ row (sym here.0 ∙ live) in
          subst (λ (r : Row). HasPath moments passes c.args.rests.now agent r.plan c.args.first_rest c.args.share) same adds.has);
    }

pub returns : goal.returns
returns c = record {
  moments_filed = c.loop-rank.invariant.moments_filed;
  passes_filed = c.loop-rank.invariant.passes_filed;
  paths = λ agent row live. all_agents c.args.plans.now.rows c.loop-rank.rank (λ (a : ℕ). (row : Row) → row_of c.args.plans.now.rows a ≡ Some row → HasPath c.loop-rank.moments c.loop-rank.passes c.args.rests.now a row.plan c.args.first_rest c.args.share) (omega arith) c.loop-rank.invariant.paths agent (rw live Rattle.std.proofs.Common.refl) row live;
}
