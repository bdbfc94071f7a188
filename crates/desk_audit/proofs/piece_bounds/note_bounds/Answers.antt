use Rattle.std.proofs.Common.{◌≡◌, ◌+◌, ◌-◌, ℕ, ◌∙◌, arith}
use Rattle.plan_table.proofs.Fleets.{row_here}
use Rattle.desk_audit.proofs.Bounding.{bounds_set}
use Rattle.desk_audit.proofs.piece_bounds.note_bounds.Goals as goal
use Rattle.desk_audit.proofs.piece_bounds.note_bounds.Goals.{then-place-len+then-eq, then-place-len+else-eq, else-place-len}

pub bound_by-requires-clause-on_map : goal.bound_by-requires-clause-on_map
bound_by-requires-clause-on_map c =
    let here = row_here _ c.count-agents.ensures.by_agent c.loop-rank.rank _ _ c.entry_at.ensures in
    c.requires.on_map _ _ here.0

pub loop-rank-preserved : goal.loop-rank-preserved
loop-rank-preserved c =
    elim c.if-place-len.branch [
      | then-place-len+then-eq w ↦
          let place : ℕ = c.loop-rank.rank - c.args.from in
          let start : c.loop-rank.rank ≡ c.args.from + place = omega arith in
          rw w.bounds-is (record {
            long = w.note.ensures.len ∙ c.loop-rank.invariant.long;
            bounds =
                rw w.note.ensures.noted (bounds_set c.args.field.now.grid c.args.plans.now.rows c.args.from place c.loop-rank.bounds.items w.bound_by.result
                (w.entry_at.result.0, w.entry_at.result.1.now)
                (omega (arith, w.if-place-len.true, c.len.ensures, c.loop-rank.bounds.ok))
                (rw start at w.entry_at.ensures) w.bound_by.ensures c.loop-rank.invariant.bounds);
          })
      | then-place-len+else-eq w ↦ rw w.bounds-is c.loop-rank.invariant
      | else-place-len w ↦ rw w.bounds-is c.loop-rank.invariant
    ]
