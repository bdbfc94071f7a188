use Rattle.std.proofs.lemmas.Bool.Decides.{nat_tests}
use Rattle.std.proofs.lemmas.Grind.{common_steps}
use Rattle.std.proofs.Common.{get_or, arith, add-one, eq-eqb}
use Rattle.std.proofs.lemmas.Bool.{eqb-true}
use Rattle.std.proofs.lemmas.List.{take_rest, drop_all}
use Rattle.bench_reader.proofs.LineLemmas.{line_ends, one_line}
use Rattle.bench_reader.proofs.lines.next_line.Goals as goal

pub returns-in-Some-clause-lines : goal.returns-in-Some-clause-lines
returns-in-Some-clause-lines c =
    let found = c.in-Some.ensures in
    let text = c.args.text.now in
    rw (take_rest, add-one) (line_ends text c.in-Some.end found.0.high (λ k low same. found.0.before k (omega arith) low (eq-eqb (get_or text k 0) 10 same)) (eqb-true _ _ found.1))

pub returns-in-None-2-clause-lines : goal.returns-in-None-2-clause-lines
returns-in-None-2-clause-lines c = grind (arith, nat_tests, common_steps, drop_all, take_rest, one_line, eq-eqb)
