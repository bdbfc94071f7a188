-- A part of each of a report's lines, as a list: its sum, one line further.
use Rattle.std.proofs.Common.{◌≡◌, ℕ, ◌+◌, ◌<◌, List, length, get_or, take, Option, None, Some, ap, sym, subst, ◌∙◌, arith}
use mathlib.Core.Bool.{false≢true}
use Rattle.std.specs.Prelude.{map, sum, unwrap_or, All, IsSome}
use Rattle.std.proofs.lemmas.List.{get_or-map, length-map}
use Rattle.desk_report.specs.declared.reports.AgentLine.{AgentLine}
use Rattle.mapf_rules.proofs.Adding.{given_more, sum_more}

module _ (part : AgentLine → Option ℕ) (lines : List AgentLine) (i : ℕ) (line : AgentLine) (within : i < length lines) (there : line ≡ get_or lines i line) where
  part_within : i < length (map part lines)
  part_within = omega (arith, length-map lines part)

  part_at : get_or (map part lines) i None ≡ part line
  part_at = get_or-map part lines i line None within ∙ ap part (sym there)

  -- where the line hasn't the part, not all lines have it
  pub not_all : part line ≡ None → All IsSome (map part lines) → ⊥
  not_all none all = false≢true (subst IsSome (part_at ∙ none) (all i None part_within))

  pub parts_more : (n : ℕ) → part line ≡ Some n → All IsSome (take i (map part lines)) → All IsSome (take (i + 1) (map part lines))
  parts_more n is = given_more (map part lines) i n part_within (part_at ∙ is)

  pub parts_sum_more : (n : ℕ) → part line ≡ Some n → sum (map (λ o. unwrap_or o 0) (take (i + 1) (map part lines))) ≡ sum (map (λ o. unwrap_or o 0) (take i (map part lines))) + n
  parts_sum_more n is = sum_more (map part lines) i n part_within (part_at ∙ is)
