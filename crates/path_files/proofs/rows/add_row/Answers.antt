use Rattle.std.proofs.Common.{rules, ◌≡◌, ◌⊎◌, inl, inr, ℕ, ◌<◌, List, [], ◌∷◌, ◌++◌, length, ap, ◌∙◌, arith}
use Rattle.grid_cells.specs.Cell.{Point}
use Rattle.path_files.proofs.RowLemmas.{with_row-next, room-reaches}
use Rattle.path_files.proofs.rows.add_row.Goals as goal
use Rattle.path_files.proofs.rows.add_row.Goals.{then-agent-len+in_ok-push, else-agent-len}

pub loop-agent-preserved : goal.loop-agent-preserved
loop-agent-preserved c =
    let room : List (List Point) = c.if-agent-len.paths.items in
    let items : List (List Point) = c.loop-agent.paths.items in
    let agent : ℕ = c.loop-agent.agent in
    let row : List Point = c.args.row.now in
    let grown : ((room ≡ items ++ [] ∷ []) × (agent ≡ length items)) ⊎ ((room ≡ items) × (agent < length items)) = elim c.if-agent-len.branch [
      | then-agent-len+in_ok-push w ↦ let pushed : w.push.new.self.items ≡ items ++ [] ∷ [] = search rules in
          let equal : agent ≡ length items = omega arith in
          inl (ap (λ v. v.items) w.paths-is ∙ pushed, equal)
      | else-agent-len w ↦ let low : agent < length items = omega arith in inr (ap (λ v. v.items) w.paths-is, low)
    ] in
    let added : c.add_cell.new.path ≡ c.index_mut.result.now ++ c.index-row-agent.result ∷ [] = search rules in
    record {
      so_far = rw added (with_row-next c.args.paths.now.items items room row agent c.index_mut.result.now c.index-row-agent.result (omega arith) c.loop-agent.invariant.so_far grown c.index_mut.ensures.value c.index-row-agent.is);
      reached = room-reaches items room agent c.add_cell.new.path grown;
    }
