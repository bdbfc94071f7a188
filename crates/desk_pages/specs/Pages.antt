-- The text of a page: one HTML document that has a scene and its report as texts (this project's choice of parts).
use Rattle.std.specs.Prelude.{ℕ, List, [], ◌∷◌, ◌++◌, Bool, ◌==◌, if◌then◌else◌, codes}
use Rattle.std.specs.List.{flat_map}
use Rattle.plan_table.specs.declared.tracks.Mode.{Mode}
use Rattle.plan_table.specs.declared.tracks.Mode.TheVariants.{Stay, Disappear}
use Rattle.scene_edits.specs.Scene.{SceneState}
use Rattle.mapf_rules.specs.declared.kinds.Kinds.{Kinds}
use Rattle.desk_report.specs.ReportText.{report_text}
use Rattle.desk_report.specs.declared.reports.Report.{Report}
use Rattle.desk_pages.specs.SceneText.{scene_text}
use Rattle.desk_pages.specs.declared.pages.Page.{Page}

-- a byte of a text in HTML (WHATWG HTML, escaping a string)
abbrev pub escaped_byte : ℕ → List ℕ
escaped_byte byte = if byte == 38 then codes "&amp;" else if byte == 60 then codes "&lt;" else if byte == 62 then codes "&gt;" else byte ∷ []

-- a text in HTML
abbrev pub escaped : List ℕ → List ℕ
escaped text = flat_map escaped_byte text

-- the name, where it is wanted
abbrev pub name_if : Bool → List ℕ → List ℕ
name_if wanted name = if wanted then name else []

-- the kinds that are asked about, each behind a space
abbrev pub kind_names : Kinds → List ℕ
kind_names kinds = name_if kinds.vertex (codes " vertex") ++ name_if kinds.edge (codes " edge") ++ name_if kinds.follow (codes " follow") ++ name_if kinds.swap (codes " swap") ++ name_if kinds.cycle (codes " cycle")

abbrev pub mode_name : Mode → List ℕ
mode_name Stay = codes "stay"
mode_name Disappear = codes "disappear"

-- what stands before the scene: the title, and the page's looks
abbrev pub front_text : Page → List ℕ
front_text page = codes "<!doctype html>\n<html lang='en'>\n<head>\n<meta charset='utf-8'>\n<title>" ++ escaped page.title.now ++ codes "</title>\n" ++ page.looks.now

-- the block of the scene
abbrev pub scene_block : SceneState → List ℕ
scene_block scene = codes "<script type='text/plain' id='scene' data-mode='" ++ mode_name scene.mode ++ codes "'>" ++ scene_text scene ++ codes "</script>\n"

-- the block of the report, with the kinds that the page's verdict goes by
abbrev pub report_block : Kinds → Report → List ℕ
report_block kinds report = codes "<script type='text/plain' id='report' data-solves='" ++ kind_names kinds ++ codes "'>" ++ report_text report ++ codes "</script>\n"

-- what stands behind the report: the script that shows both blocks
abbrev pub closing_text : List ℕ → List ℕ
closing_text script = codes "<script>\n" ++ script ++ codes "</script>\n</body>\n</html>\n"

-- the page
abbrev pub page_text : Page → SceneState → Report → List ℕ
page_text page scene report = front_text page ++ scene_block scene ++ report_block page.kinds report ++ closing_text page.script.now
