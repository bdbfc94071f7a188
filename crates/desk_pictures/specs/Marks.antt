-- The marks of a report's entries and of its blocked visits: each has the report's line for its title (this project's choice).
use Rattle.std.specs.Prelude.{ℕ, List, [], ◌∷◌, ◌++◌, Option, Some, None, Bool, true, false, ◌==◌, if◌then◌else◌, codes, decimal}
use Rattle.std.specs.List.{flat_map}
use Rattle.plan_table.specs.Route.{Fleet, tracks_of}
use Rattle.scene_edits.specs.Scene.{SceneState}
use Rattle.mapf_rules.specs.declared.entries.Conflict.{Conflict}
use Rattle.mapf_rules.specs.Naming.{time_of}
use Rattle.mapf_rules.specs.declared.visits.Visit.{Visit}
use Rattle.desk_report.specs.EntryText.{entry_line}
use Rattle.desk_report.specs.ReportText.{visit_line}
use Rattle.desk_report.specs.declared.reports.Report.{Report}
use Rattle.desk_pictures.specs.Pieces.{half_text, seconds_text, joined_texts}
use Rattle.desk_pictures.specs.Spots.{spot_of, symbol_of}
use Rattle.desk_pictures.specs.declared.spots.Spot.{Spot}

-- whether the picture is a still one of that time
abbrev pub is_at : Option ℕ → ℕ → Bool
is_at (Some now) time = now == time
is_at None time = false

abbrev pub moves : Option ℕ → Bool
moves (Some now) = false
moves None = true

-- in a still picture what is of its time is lit
abbrev pub class_text : Bool → List ℕ
class_text true = codes " class='lit'"
class_text false = []

-- the mark of an entry up to its title
unfoldable pub opening_text : List ℕ → Spot → List ℕ
opening_text symbol spot = joined_texts (codes "<use href='#" ∷ symbol ∷ codes "' x='" ∷ half_text spot.across ∷ codes "' y='" ∷ half_text spot.down ∷ codes "'><title>" ∷ [])

-- the mark of an entry, titled by the entry's line in a report
unfoldable pub mark_text : Fleet → Conflict → List ℕ
mark_text fleet entry = opening_text (symbol_of entry) (spot_of fleet entry) ++ entry_line entry ++ codes "</title></use>"

-- the beginning of a group of marks of one time: in a moving picture they are lit for the 0.4 seconds of its step
abbrev pub group_text : Bool → Bool → ℕ → List ℕ
group_text true lit time = joined_texts (codes "<g><set attributeName='opacity' to='1' begin='" ∷ seconds_text time ∷ codes "s' dur='0.4s'/>\n" ∷ [])
group_text false true time = codes "<g class='lit'>\n"
group_text false false time = codes "<g>\n"

-- the end of the group of a mark, if there is one before
abbrev pub end_text : Option ℕ → List ℕ
end_text (Some before) = codes "</g>\n"
end_text None = []

-- before a mark of the time, behind one of another time or none: a new group
abbrev pub turn_text : Option ℕ → Option ℕ → ℕ → List ℕ
turn_text at None time = group_text (moves at) (is_at at time) time
turn_text at (Some before) time = if before == time then [] else codes "</g>\n" ++ group_text (moves at) (is_at at time) time

-- the marks of the entries, in groups of those of one time that follow one another, behind a mark of that time or none
abbrev pub marks_behind : Option ℕ → Fleet → Option ℕ → List Conflict → List ℕ
marks_behind at fleet before [] = end_text before
marks_behind at fleet before (entry ∷ rest) = turn_text at before (time_of entry) ++ mark_text fleet entry ++ marks_behind at fleet (Some (time_of entry)) rest

-- the mark of a visit up to its title
unfoldable pub cross_opening_text : Bool → ℕ → ℕ → List ℕ
cross_opening_text lit x y = joined_texts (codes "<rect" ∷ class_text lit ∷ codes " x='" ∷ decimal x ∷ codes "' y='" ∷ decimal y ∷ codes "'><title>" ∷ [])

-- the mark of a visit, titled by the visit's line in a report; a moving picture has it at all times
unfoldable pub cross_text : Option ℕ → Visit → List ℕ
cross_text at visit = cross_opening_text (is_at at visit.time) visit.cell.x visit.cell.y ++ visit_line visit ++ codes "</title></rect>"

unfoldable pub crosses_text : Option ℕ → List Visit → List ℕ
crosses_text at visits = codes "<g id='visits'>\n" ++ flat_map (cross_text at) visits ++ codes "</g>\n"

unfoldable pub marks_text : Option ℕ → Fleet → List Conflict → List ℕ
marks_text at fleet entries = codes "<g id='entries'>\n" ++ marks_behind at fleet None entries ++ codes "</g>\n"

-- a mark for each visit and each entry of the report, in the report's order, and no other
abbrev pub findings_text : Option ℕ → SceneState → Report → List ℕ
findings_text at scene report = crosses_text at report.visits ++ marks_text at (tracks_of scene.mode scene.rows) report.conflicts
