use Rattle.std.proofs.Common.{rules}
use Rattle.desk_cli.proofs.values.form_given.Goals as goal

pub returns : goal.returns
returns c =
    let flag = c.get_flag.ensures in
    (c.get_flag.result, record { given = flag.value; left_out = flag.other; absent = flag.none }, search rules)
