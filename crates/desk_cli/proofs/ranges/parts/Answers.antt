use Rattle.std.proofs.Common.{lit<}
use Rattle.std.proofs.lemmas.Str.Pattern.{split_once_first}
use Rattle.desk_cli.proofs.Cuts.{cut_at_hyphen}
use Rattle.desk_cli.proofs.ranges.parts.Goals as goal

pub returns : goal.returns
returns c =
    let text = c.args.text.now in
    cut_at_hyphen text c.split_once.result (split_once_first 45 text c.split_once.result c.split_once.ensures.cases (lit< tt))
