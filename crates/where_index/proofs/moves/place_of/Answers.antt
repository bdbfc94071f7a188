use Rattle.std.proofs.Common.{rules}
use Rattle.std.proofs.lemmas.List.Sorted.{answers_always}
use Rattle.where_index.specs.declared.moves.Move.{Move}
use Rattle.where_index.proofs.MoveSearch.{searched}
use Rattle.where_index.proofs.moves.place_of.Goals as goal

-- the closure gives a move's agent
pub returns : goal.returns
returns c =
    let facts = c.binary_search_by_key.ensures in
    let by_key = facts.position (λ (m : Move). m.agent) (answers_always _ _ _ (λ f a r g called. search rules)) in
    let ends = searched c.args.moves.now c.requires c.args.agent c.binary_search_by_key.result facts.bound by_key in
    record { found = ends.found; absent = ends.absent }
