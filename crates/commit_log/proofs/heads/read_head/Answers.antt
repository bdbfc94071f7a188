use Rattle.commit_log.proofs.Digests.{of-no-mode, when-none, found-or-none}
use Rattle.commit_log.proofs.heads.read_head.Goals as goal

pub returns-in-None : goal.returns-in-None
returns-in-None c =
    let no_stay = when-none _ _ _ c.in-None.is c.in_ok-head.ensures in
    found-or-none _ _ _ _ (of-no-mode c.args.text.now no_stay) (λ head found. found.1) c.head_of_mode-in-None.result c.head_of_mode-in-None.ensures
