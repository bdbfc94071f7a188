use Rattle.std.proofs.Common.{inl}
use Rattle.desk_cli.proofs.asking.is_verbose.Goals as goal

pub returns-then-get_flag : goal.returns-then-get_flag
returns-then-get_flag c =
    let flag = c.get_flag.ensures in
    (c.get_flag.result, record { given = flag.value; left_out = flag.other; absent = flag.none }, inl (c.if-get_flag.true, c.if-get_flag.true))
