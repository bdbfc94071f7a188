-- What is printed of a report's lists (this project's choice).
use Rattle.std.specs.Prelude.{Bool, true, false, List}
use Rattle.std.specs.List.{filter}
use Rattle.mapf_rules.specs.ConflictList.{kind_of}
use Rattle.mapf_rules.specs.declared.entries.Conflict.{Conflict}
use Rattle.mapf_rules.specs.Kinds.{is_named}
use Rattle.mapf_rules.specs.declared.kinds.Kinds.{Kinds}
use Rattle.desk_report.specs.declared.reports.Report.{Report}
use Rattle.solver_check.specs.declared.checks.judging.Verdict.{Verdict}
use Rattle.solver_check.specs.declared.checks.judging.Verdict.TheVariants.{NoPaths, Repeated, Wrong, Judged}
use Rattle.solver_check.specs.declared.checks.listings.Listing.{Listing}
use Rattle.solver_check.specs.declared.checks.listings.Listing.TheVariants.{Whole, Named, Counts}

-- what is asked for: a quiet report, or else one of the conflicts of the kinds that are asked about
abbrev pub listing_of : (quiet only : Bool) → Listing
listing_of true only = Counts
listing_of false true = Named
listing_of false false = Whole

-- nothing is listed
abbrev pub is_quiet : Listing → Bool
is_quiet Whole = false
is_quiet Named = false
is_quiet Counts = true

-- the conflicts of kinds that are asked about
abbrev pub named_in : Kinds → List Conflict → List Conflict
named_in kinds entries = filter (λ entry. is_named kinds (kind_of entry)) entries

-- the report with these alone
abbrev pub with_named : Kinds → Report → Report
with_named kinds report = record report { conflicts = named_in kinds report.conflicts }

abbrev pub named_alone : Kinds → Verdict → Verdict
named_alone kinds NoPaths = NoPaths
named_alone kinds (Repeated line) = Repeated line
named_alone kinds (Wrong wrongs differences) = Wrong wrongs differences
named_alone kinds (Judged report differences solved) = Judged (with_named kinds report) differences solved

-- the verdict with the conflicts that are printed
abbrev pub listed : Listing → Kinds → Verdict → Verdict
listed Whole kinds verdict = verdict
listed Named kinds verdict = named_alone kinds verdict
listed Counts kinds verdict = verdict
