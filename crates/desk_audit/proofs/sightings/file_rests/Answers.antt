use Rattle.std.proofs.Common.{ℕ, ◌≡◌, ap, sym, ◌∙◌, arith}
use Rattle.std.specs.Prelude.{IsTrue}
use Rattle.grid_cells.specs.Cell.{Point}
use Rattle.plan_table.specs.Route.{tracks_of, last_of, leaves_in, Route}
use Rattle.plan_table.proofs.Fleets.{below_rank_more, all_agents, row_here, tracks_live, position_live}
use Rattle.desk_audit.specs.Filing.{Files}
use Rattle.desk_audit.specs.Index.{HasComeToRest, pass}
use Rattle.desk_audit.proofs.Places.{leaves_of_row, rests_stay}
use Rattle.desk_audit.proofs.Paths.{rest_filed}
use Rattle.plan_table.specs.declared.plans.Row.{Row}
use Rattle.desk_audit.proofs.sightings.file_rests.Goals as goal
use Rattle.desk_audit.proofs.sightings.file_rests.Goals.{then-not-track+in_ok-file, else-not-track}

pub loop-rank-preserved : goal.loop-rank-preserved
loop-rank-preserved c =
    let rows = c.args.plans.now.rows in
    let agent = c.entry_at-entry.result.0 in
    let row : Row = c.entry_at-entry.result.1.now in
    let here = row_here rows c.count-rank-end.ensures.by_agent c.loop-rank.rank agent row c.entry_at-entry.ensures in
    let flag : c.track.result.leaves ≡ leaves_in c.args.mode row = ap (λ (r : Route). r.leaves) c.track.ensures in
    elim c.if-not-track.branch [
      | then-not-track+in_ok-file w ↦
          let filed = w.in_ok-file.ensures in
          rw w.rests-is (record {
            filed = filed.filed;
            has = below_rank_more rows c.loop-rank.rank agent (λ (a : ℕ). (time : ℕ) (cell : Point) → HasComeToRest (tracks_of c.args.mode rows) a time cell → Files w.file.new.self cell 0 (pass (last_of (tracks_of c.args.mode rows) a) a)) here.1
                (λ a k lt is time cell rests. filed.keeps cell 0 _ (c.loop-rank.invariant.has a k lt is time cell rests))
                (rest_filed c.args.mode rows agent c.last-time.result row w.file.new.self c.at-cell.result here.0 c.last-time.ensures.is (rw (← c.new.ensures) c.at-cell.ensures) filed.has);
          })
      | else-not-track w ↦
          let leaves : IsTrue (leaves_in c.args.mode row) = sym flag ∙ w.if-not-track.false in
          rw w.rests-is (record {
            filed = c.loop-rank.invariant.filed;
            has = below_rank_more rows c.loop-rank.rank agent (λ (a : ℕ). (time : ℕ) (cell : Point) → HasComeToRest (tracks_of c.args.mode rows) a time cell → Files c.loop-rank.rests cell 0 (pass (last_of (tracks_of c.args.mode rows) a) a)) here.1
                c.loop-rank.invariant.has
                (λ time cell rests. absurd (rests_stay c.args.mode rows agent time cell rests (leaves_of_row c.args.mode rows agent row here.0 leaves)));
          })
    ]

pub returns-clause-rests : goal.returns-clause-rests
returns-clause-rests c agent time cell is =
    all_agents c.args.plans.now.rows c.loop-rank.rank (λ (a : ℕ). (time : ℕ) (cell : Point) → HasComeToRest (tracks_of c.args.mode c.args.plans.now.rows) a time cell → Files c.loop-rank.rests cell 0 (pass (last_of (tracks_of c.args.mode c.args.plans.now.rows) a) a)) (omega arith) c.loop-rank.invariant.has agent
    (tracks_live c.args.mode c.args.plans.now.rows agent (position_live (tracks_of c.args.mode c.args.plans.now.rows) agent time cell is.1)) time cell is
