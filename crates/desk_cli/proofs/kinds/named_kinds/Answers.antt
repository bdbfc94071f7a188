use Rattle.std.proofs.Common.{◌≡◌, ◌∙◌, codes}
use Rattle.session_lines.specs.Kinds.{is_one_of}
use Rattle.desk_cli.specs.Values.{texts_in}
use Rattle.desk_cli.proofs.Among.{among_references}
use Rattle.desk_cli.proofs.kinds.named_kinds.Goals as goal

pub returns : goal.returns
returns c =
    let words = c.args.words.now in
    let vertex : c.is_among.result ≡ is_one_of (codes "vertex") (texts_in words) = c.is_among.ensures ∙ among_references (codes "vertex") words in
    let edge : c.is_among-2.result ≡ is_one_of (codes "edge") (texts_in words) = c.is_among-2.ensures ∙ among_references (codes "edge") words in
    let follow : c.is_among-3.result ≡ is_one_of (codes "follow") (texts_in words) = c.is_among-3.ensures ∙ among_references (codes "follow") words in
    let swap : c.is_among-4.result ≡ is_one_of (codes "swap") (texts_in words) = c.is_among-4.ensures ∙ among_references (codes "swap") words in
    let cycle : c.is_among-5.result ≡ is_one_of (codes "cycle") (texts_in words) = c.is_among-5.ensures ∙ among_references (codes "cycle") words in
    rw (vertex, edge, follow, swap, cycle)
