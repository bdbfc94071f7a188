use Rattle.std.proofs.Common.{rules}
use Rattle.std.proofs.lemmas.List.Sorted.{answers_always}
use Rattle.live_report.proofs.Mending.{searched}
use Rattle.live_report.proofs.lines.Lines.search.Goals as goal

-- the closure gives a line's agent, and the slice is the lines
pub returns : goal.returns
returns c =
    let facts = c.binary_search_by_key.ensures in
    let by_key = facts.position (λ line. line.agent) (answers_always _ _ _ (λ f a r g called. search rules)) in
    rw (c.deref.ensures.value, c.self.view_is) at (searched c.deref.result.now c.args.agent c.binary_search_by_key.result facts.bound by_key)
