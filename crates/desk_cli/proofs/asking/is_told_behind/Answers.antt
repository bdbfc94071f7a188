use Rattle.std.proofs.Common.{inr, sym}
use Rattle.clap.specs.Matches.{found_of}
use Rattle.desk_cli.proofs.asking.is_told_behind.Goals as goal

pub returns-in-Some : goal.returns-in-Some
returns-in-Some c =
    let flag = c.get_flag.ensures in
    inr (found_of c.in-Some.inner.now, sym c.in-Some.ensures.rows, record { given = flag.value; left_out = flag.other; absent = flag.none })
