use Rattle.std.proofs.Common.{◌≡◌, take}
use Rattle.std.specs.Prelude.{IsSome, All, map, fold, max, unwrap_or}
use Rattle.mapf_rules.proofs.totals.greatest_of.Given as goal

abbrev pub invariant-loop-each : goal.invariant-loop-each
invariant-loop-each l = record {
  given : All IsSome (take l.each-index l.given);
  most : l.most ≡ fold max 0 (map (λ n. unwrap_or n 0) (take l.each-index l.given));
}
