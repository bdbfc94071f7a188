-- How a verdict is written (this project's choice).
use Rattle.std.specs.Prelude.{ℕ, Bool, List, ◌&&◌, if◌then◌else◌}
use Rattle.mapf_rules.specs.declared.kinds.Kinds.{Kinds}
use Rattle.solver_check.specs.CheckTexts.{check_text}
use Rattle.solver_check.specs.Counts.{counts_in}
use Rattle.solver_check.specs.JsonTexts.{json_text}
use Rattle.solver_check.specs.Listings.{is_quiet, listed}
use Rattle.solver_check.specs.Turned.{turned}
use Rattle.solver_check.specs.declared.checks.json.counts.Counts.{Counts}
use Rattle.solver_check.specs.declared.checks.judging.Verdict.{Verdict}
use Rattle.solver_check.specs.declared.checks.listings.Listing.{Listing}
use Rattle.solver_check.specs.declared.checks.styles.Style.{Style}

-- its cells in the order of the text of paths, which has rows first or not, where they are to be so
abbrev pub in_style : Style → (rows_first : Bool) → Verdict → Verdict
in_style style rows_first verdict = if style.own_cells && rows_first then turned verdict else verdict

-- as one JSON object, or in lines
abbrev pub written_in : Style → (quiet : Bool) → Kinds → Counts → Verdict → List ℕ
written_in style quiet kinds counts verdict = if style.is_json then json_text quiet kinds counts verdict else check_text quiet verdict

-- the text of a verdict, with the conflicts that are listed. Its counts are those of all conflicts
abbrev pub styled_text : Style → (rows_first : Bool) → Listing → Kinds → Verdict → List ℕ
styled_text style rows_first listing kinds verdict =
    written_in style (is_quiet listing) kinds (counts_in verdict) (in_style style rows_first (listed listing kinds verdict))
