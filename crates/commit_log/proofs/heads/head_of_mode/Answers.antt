use Rattle.std.proofs.Common.{◌∙◌, ◌+◌, List, ℕ, length, ap}
use Rattle.commit_log.proofs.Digests.{no-digest, other-head}
use Rattle.commit_log.proofs.heads.head_of_mode.Goals as goal

pub returns-in_default : goal.returns-in_default
returns-in_default c = no-digest c.args.text.now c.args.mode _ (ap (λ (line : List ℕ). length line + 12) c.mode_line.ensures) c.in_default.ensures

pub returns-in_default-behind : goal.returns-in_default-behind
returns-in_default-behind c =
    other-head c.args.text.now c.in-Some.scene c.as_slice.result.now c.args.mode _ (ap (λ (line : List ℕ). length line + 12) c.mode_line.ensures)
    c.in-Some.ensures.1 (c.as_slice.ensures.value ∙ c.in_ok-head.ensures) c.in_default-behind.ensures
