-- Paths, filed place by place and agent by agent.
use Rattle.std.proofs.Common.{◌≡◌, ℕ, ◌+◌, ◌<◌, List, Some, sym, ◌∙◌, inl, inr, arith}
use Rattle.std.proofs.lemmas.Bool.{cases_lt}
use Rattle.grid_cells.specs.Cell.{Point}
use Rattle.plan_table.specs.Path.{last_index, place}
use Rattle.plan_table.specs.Plans.{row_of}
use Rattle.plan_table.specs.Route.{tracks_of, last_of}
use Rattle.plan_table.specs.declared.plans.Row.{Row}
use Rattle.plan_table.specs.declared.tracks.Mode.{Mode}
use Rattle.desk_audit.specs.Filing.{Files, KeepsFiled}
use Rattle.desk_audit.specs.Index.{pass, HasComeToRest, HasPath, HasPaths, HasRests, AllRestFrom, IsShareOf}
use Rattle.desk_audit.specs.declared.tables.Table.{Table}
use Rattle.desk_audit.specs.declared.sightings.Share.{Share}
use Rattle.desk_audit.specs.declared.sightings.Sightings.{Sightings}
use Rattle.desk_audit.proofs.Places.{on_row, last_of_row, rests_at_last}

-- what is filed for each time before one, and at it, is filed for each time before the next
pub seen_more : (table new : Table) (agent time : ℕ) (path : List Point) (number : ℕ → ℕ) (Due : ℕ → Point → Type 0) → KeepsFiled table new
    → ((t : ℕ) (c : Point) → t < time → place path t ≡ Some c → Due t c → Files table c (number t) (pass t agent))
    → ((c : Point) → place path time ≡ Some c → Due time c → Files new c (number time) (pass time agent))
    → (t : ℕ) (c : Point) → t < time + 1 → place path t ≡ Some c → Due t c → Files new c (number t) (pass t agent)
seen_more table new agent time path number Due keeps before here t c lt there due =
    elim (cases_lt t time) [
      | inl lower ↦ keeps c (number t) (pass t agent) (before t c lower there due)
      | inr higher ↦
          let same : t ≡ time = omega arith in
          rw same (here c (rw same at there) (rw same at due))
    ]

pub keeps_path : (moments moments' passes passes' rests : Table) (agent : ℕ) (path : List Point) (first_rest : ℕ) (share : Share) → KeepsFiled moments moments' → KeepsFiled passes passes' → HasPath moments passes rests agent path first_rest share → HasPath moments' passes' rests agent path first_rest share
keeps_path moments moments' passes passes' rests agent path first_rest share keeps_m keeps_p has = record {
  seen = λ time cell early there of. keeps_m cell time _ (has.seen time cell early there of);
  passed = λ time cell early there of late rest. keeps_p cell 0 _ (has.passed time cell early there of late rest);
}

pub share_is : (mode : Mode) (rows : List (ℕ × Row)) (share : Share) (index : Sightings) → Rattle.desk_audit.specs.Filing.IsFiled index.rests → HasRests (tracks_of mode rows) index.rests → AllRestFrom (tracks_of mode rows) index.first_rest → HasPaths index.moments index.passes index.rests rows index.first_rest share → IsShareOf (tracks_of mode rows) share index
share_is mode rows share index filed rests from paths = record {
  moments_filed = paths.moments_filed;
  rests_filed = filed;
  passes_filed = paths.passes_filed;
  moments = λ agent time cell of is. let at = on_row mode rows agent time cell is in (paths.paths agent at.row at.live).seen time cell at.early at.there of;
  rests = rests;
  from = from;
  passes = λ agent other time cell of is resting.
      let at = on_row mode rows agent time cell is in
      let begun = from other time cell resting in
      (paths.paths agent at.row at.live).passed time cell at.early at.there of (omega (arith, resting.0)) (pass _ other, rests other time cell resting);
}

-- an agent that is filed under its last cell is filed where it rests
pub rest_filed : (mode : Mode) (rows : List (ℕ × Row)) (agent last : ℕ) (row : Row) (table : Table) (here : Point) → row_of rows agent ≡ Some row → last ≡ last_index row.plan → place row.plan last ≡ Some here → Files table here 0 (pass last agent)
    → (time : ℕ) (cell : Point) → HasComeToRest (tracks_of mode rows) agent time cell → Files table cell 0 (pass (last_of (tracks_of mode rows) agent) agent)
rest_filed mode rows agent last row table here live is_last at filed time cell is =
    let end : last_of (tracks_of mode rows) agent ≡ last = last_of_row mode rows agent row live ∙ sym is_last in
    let cells : here ≡ cell = grind (arith, rests_at_last mode rows agent time cell row live is) in
    rw (end, ← cells) filed
