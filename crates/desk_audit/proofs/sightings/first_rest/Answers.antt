use Rattle.std.proofs.Common.{ℕ, ◌≡◌, ◌≤◌, ap, sym, ◌∙◌, arith}
use Rattle.std.specs.Prelude.{IsTrue}
use Rattle.grid_cells.specs.Cell.{Point}
use Rattle.plan_table.specs.Route.{tracks_of, last_of, leaves_in, Route}
use Rattle.plan_table.proofs.Fleets.{below_rank_more, all_agents, row_here, tracks_live, position_live}
use Rattle.desk_audit.specs.Index.{HasComeToRest}
use Rattle.plan_table.specs.declared.plans.Row.{Row}
use Rattle.desk_audit.proofs.Places.{last_of_row, leaves_of_row, rests_stay}
use Rattle.desk_audit.proofs.sightings.first_rest.Goals as goal
use Rattle.desk_audit.proofs.sightings.first_rest.Goals.{then-not-track+then-last-first, else-not-track, else-not-track-via-then-not-track+else-last-first, else-not-track-via-else-not-track}

pub loop-rank-preserved : goal.loop-rank-preserved
loop-rank-preserved c =
    let rows = c.args.plans.now.rows in
    let agent = c.entry_at-entry.result.0 in
    let row : Row = c.entry_at-entry.result.1.now in
    let here = row_here rows c.count-rank-end.ensures.by_agent c.loop-rank.rank agent row c.entry_at-entry.ensures in
    let flag : c.track.result.leaves ≡ leaves_in c.args.mode row = ap (λ (r : Route). r.leaves) c.track.ensures in
    let last = last_of_row c.args.mode rows agent row here.0 in
    let more = λ (first : ℕ) (less : first ≤ c.loop-rank.first) (own : (time : ℕ) (cell : Point) → HasComeToRest (tracks_of c.args.mode rows) agent time cell → first ≤ last_of (tracks_of c.args.mode rows) agent).
    below_rank_more rows c.loop-rank.rank agent (λ (a : ℕ). (time : ℕ) (cell : Point) → HasComeToRest (tracks_of c.args.mode rows) a time cell → first ≤ last_of (tracks_of c.args.mode rows) a) here.1
    (λ a k lt is time cell rests. omega (arith, less, c.loop-rank.invariant a k lt is time cell rests)) own in
    elim c.if-not-track.branch [
      | then-not-track+then-last-first w ↦ rw w.first-is (more c.last-last.result (omega (arith, w.if-last-first.true)) (λ time cell rests. omega (arith, last, c.last-last.ensures.is)))
      | else-not-track w ↦ rw w.first-is (elim w.else-not-track.branch [
        | else-not-track-via-then-not-track+else-last-first w' ↦ more c.loop-rank.first (omega arith) (λ time cell rests. omega (arith, last, c.last-last.ensures.is, w'.if-last-first.false))
        | else-not-track-via-else-not-track w' ↦
            let leaves : IsTrue (leaves_in c.args.mode row) = sym flag ∙ w'.if-not-track.false in
            more c.loop-rank.first (omega arith) (λ time cell rests. absurd (rests_stay c.args.mode rows agent time cell rests (leaves_of_row c.args.mode rows agent row here.0 leaves)))
      ])
    ]

pub returns : goal.returns
returns c agent time cell is =
    all_agents c.args.plans.now.rows c.loop-rank.rank (λ (a : ℕ). (time : ℕ) (cell : Point) → HasComeToRest (tracks_of c.args.mode c.args.plans.now.rows) a time cell → c.loop-rank.first ≤ last_of (tracks_of c.args.mode c.args.plans.now.rows) a) (omega arith) c.loop-rank.invariant agent
    (tracks_live c.args.mode c.args.plans.now.rows agent (position_live (tracks_of c.args.mode c.args.plans.now.rows) agent time cell is.1)) time cell is
