use Rattle.std.proofs.Common.{◌≡◌, ◌≤◌, ◌*◌, take}
use Rattle.std.specs.Prelude.{IsSome, All, map, sum, unwrap_or}
use Rattle.mapf_rules.proofs.totals.sum_of.Given as goal

abbrev pub invariant-loop-each : goal.invariant-loop-each
invariant-loop-each l = record {
  given : All IsSome (take l.each-index l.given);
  total : l.total ≡ sum (map (λ n. unwrap_or n 0) (take l.each-index l.given));
  bound : l.total ≤ l.each-index * 4294967296;
}
