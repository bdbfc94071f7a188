use Rattle.std.specs.Prelude.{Some}
use Rattle.std.proofs.Common.{◌⊎◌, arith, inl, inr, sym, ap, subst, refl, ◌≡◌, ◌≢◌, ◌∙◌}
use Rattle.std.proofs.Math.ListN.{length-set}
use Rattle.std.proofs.lemmas.List.Elements.{Contains-push_cases}
use Rattle.grid_cells.specs.Cell.{Point}
use Rattle.grid_cells.specs.Size.{Holds}
use Rattle.grid_cells.specs.Grid.{Chart, flag_index, with_cell}
use Rattle.cell_queue.proofs.Indexes.{index_below}
use Rattle.goal_fields.specs.Target.{flag_at}
use Rattle.goal_fields.proofs.Neighbours.{cases_cell}
use Rattle.goal_fields.proofs.EditLemmas.{flag_other, slice_get-set_same}
use Rattle.goal_fields.proofs.LastLemmas.{false≢true_at}
use Rattle.goal_fields.proofs.CoverLemmas.{flag_read}
use Rattle.goal_fields.proofs.maps.copy_cell.Goals as goal

pub returns-then-holds-clause-adopting : goal.returns-then-holds-clause-adopting
returns-then-holds-clause-adopting c start done e =
    let held_there : Holds c.args.grid.now.size c.args.cell = rw (← c.requires.size) (c.if-holds.ensures.0 refl) in
    let held : Holds c.args.map.now.size c.args.cell = rw (← c.requires.same_size) held_there in
    let read : Some c.is_open.result ≡ flag_at c.args.grid.now c.args.cell = flag_read c.args.grid.now c.args.cell c.is_open.result held_there c.requires.whole c.is_open.ensures in
    let now : (v : Point) → flag_at c.set.new.self v ≡ flag_at (with_cell c.args.map.now c.args.cell c.is_open.result) v =
    (λ v. ap (λ (g : Chart). flag_at g v) c.set.ensures) in
    let here : flag_at c.set.new.self c.args.cell ≡ flag_at c.args.grid.now c.args.cell =
    now c.args.cell ∙ slice_get-set_same c.args.map.now.flags (flag_index c.args.map.now.size c.args.cell) c.is_open.result (omega (arith, index_below c.args.map.now.size c.args.cell held, e.whole)) ∙ read in
    let flag : (v : Point) → Holds start.size v → (flag_at c.set.new.self v ≡ flag_at c.args.grid.now v) ⊎ ((v ≢ c.args.cell) × (flag_at c.set.new.self v ≡
    flag_at c.args.map.now v)) =
    (λ v h. elim (cases_cell v c.args.cell) [
      | inl q ↦ inl (rw q here)
      | inr ne ↦ inr (
        ne,
        now v
            ∙ flag_other c.args.map.now c.args.cell v c.is_open.result held (rw e.size h) ne,
      )
    ]) in
    record {
      size = ap (λ (g : Chart). g.size) c.set.ensures ∙ e.size;
      whole = rw c.set.ensures (length-set c.args.map.now.flags (flag_index c.args.map.now.size c.args.cell) c.is_open.result ∙ e.whole);
      made = λ v h con. elim (flag v h) [
        | inl same ↦ same
        | inr (ne, kept) ↦ elim (Contains-push_cases done c.args.cell v con) [ inl before ↦ kept ∙ e.made v h before | inr last ↦ absurd (ne (sym last)) ]
      ];
      either = λ v h. elim (flag v h) [
        | inl same ↦ inl same
        | inr (ne, kept) ↦ elim (e.either v h) [ inl same ↦ inl (kept ∙ same) | inr same ↦ inr (kept ∙ same) ]
      ];
    }

pub returns-else-holds-clause-adopting : goal.returns-else-holds-clause-adopting
returns-else-holds-clause-adopting c start done e =
    let out : Holds c.args.grid.now.size c.args.cell → ⊥ = (λ h. false≢true_at refl (c.if-holds.ensures.1 (rw c.requires.size h))) in
    record {
      size = e.size;
      whole = e.whole;
      made = λ v h con. elim (Contains-push_cases done c.args.cell v con) [
        | inl before ↦ e.made v h before
        | inr last ↦ absurd (out (subst (λ (w : Point). Holds c.args.grid.now.size w) (sym last) (rw c.requires.same_size (rw e.size h))))
      ];
      either = e.either;
    }
