-- The one agent that moves out of a cell, found along a chain.
use Rattle.std.proofs.Common.{◌≡◌, ◌≢◌, ℕ, Some, None, Option, refl, sym, ◌∙◌, arith}
use Rattle.std.specs.Prelude.{IfSome}
use Rattle.grid_cells.specs.Cell.{Point}
use Rattle.plan_table.specs.Route.{Fleet}
use Rattle.plan_table.proofs.Fleets.{changes_early}
use Rattle.mapf_rules.specs.Cycles.{MovesOut}
use Rattle.mapf_rules.specs.RingWalk.{IsSoleMover}
use Rattle.desk_audit.specs.Filing.{bucket_of, slot_bucket}
use Rattle.desk_audit.specs.Index.{IsSeenAt, pass}
use Rattle.desk_audit.specs.declared.tables.Slot.{Slot}
use Rattle.desk_audit.specs.declared.tables.Table.{Table}
use Rattle.desk_audit.proofs.Chains.{Walked, many_of, walk_over}

-- a slot of the cell and the time whose agent moves out is of the agent that was found
abbrev pub Tells : Fleet → ℕ → Point → Option ℕ → Slot → Type 0
Tells fleet time cell found slot = slot.cell ≡ cell → slot.number ≡ time → MovesOut fleet time slot.pass.agent cell → found ≡ Some slot.pass.agent

pub tells_others : (fleet : Fleet) (table : Table) (time : ℕ) (cell : Point) (found : Option ℕ) (slot : Slot) → slot_bucket (many_of table) slot ≢ bucket_of (many_of table) cell time → Tells fleet time cell found slot
tells_others fleet table time cell found slot differs same_cell same_number out = absurd (differs (rw (same_cell, same_number) refl))

module _ (fleet : Fleet) (table : Table) (time : ℕ) (cell : Point) (found : Option ℕ) (seen : IsSeenAt fleet time table)
    (walk : Walked table (bucket_of (many_of table) cell time) None (Tells fleet time cell found)) where
  -- whoever moves out of the cell is the agent that was found
  pub all_found : (agent : ℕ) → MovesOut fleet time agent cell → found ≡ Some agent
  all_found agent out =
      let filed = seen.has agent cell (changes_early fleet agent time (λ same. out.moves (sym same ∙ out.from)), out.from) in
      let slot : Slot = record { cell = cell; number = time; pass = pass time agent; before = filed.0 } in
      (rw filed.1.2 at (walk_over table _ (Tells fleet time cell found) walk
      (tells_others fleet table time cell found) filed.1.0 slot filed.1.1)) refl refl out

  pub sole_found : IfSome found (λ a. MovesOut fleet time a cell) → IfSome found (IsSoleMover fleet time cell)
  sole_found moves = by_found found refl moves
    where
      by_found : (o : Option ℕ) → found ≡ o → IfSome o (λ a. MovesOut fleet time a cell) → IfSome o (IsSoleMover fleet time cell)
      by_found None e moves = tt
      by_found (Some agent) e moves = record { moves = moves; only = λ other out. grind (arith, all_found other out) }
