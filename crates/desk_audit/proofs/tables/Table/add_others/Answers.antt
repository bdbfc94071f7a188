use Rattle.std.proofs.Common.{◌++◌, ◌∷◌, [], Contains, sym, ◌∙◌}
use mathlib.Core.Bool.{false≢true}
use Rattle.std.proofs.lemmas.List.Elements.{Contains-push, Contains-append_left}
use Rattle.desk_audit.specs.Filing.{bucket_of}
use Rattle.desk_audit.specs.declared.tables.Pass.{Pass}
use Rattle.desk_audit.specs.declared.tables.Slot.{Slot}
use Rattle.desk_audit.specs.declared.tables.Table.{Table}
use Rattle.desk_audit.proofs.Chains.{Gathers, gathers_others, walk_more, many_of}
use Rattle.desk_audit.proofs.tables.Table.add_others.Goals as goal
use Rattle.desk_audit.proofs.tables.Table.add_others.Goals.{then-is_other+in_ok-push, else-is_other}

pub loop-next-preserved : goal.loop-next-preserved
loop-next-preserved c =
    let table : Table = c.args.self.now in
    let slot : Slot = c.index-slot.result.now in
    let walk = rw c.in-Some.is at c.loop-next.invariant.walk in
    elim c.if-is_other.branch [
      | then-is_other+in_ok-push w ↦
          let grown = w.in_ok-push.ensures.items in
          let keeps = λ (pass : Pass) (h : Contains c.loop-next.found.items pass). Contains-append_left c.loop-next.found.items (slot.pass ∷ []) pass h in
          rw (w.found-is, grown, c.place-next-in-Some.ensures) (record {
            walk = walk_more table (bucket_of (many_of table) c.args.cell c.args.number) c.in-Some.place slot
                (Gathers c.args.cell c.args.number c.args.agent c.loop-next.found.items)
                (Gathers c.args.cell c.args.number c.args.agent (c.loop-next.found.items ++ slot.pass ∷ []))
                c.requires walk c.index-slot.ensures (λ s h a b d. keeps s.pass (h a b d)) (λ a b d. Contains-push c.loop-next.found.items slot.pass)
                (gathers_others table c.args.cell c.args.number c.args.agent (c.loop-next.found.items ++ slot.pass ∷ []));
            keeps = λ pass h. keeps pass (c.loop-next.invariant.keeps pass h);
          })
      | else-is_other w ↦
          rw (w.found-is, c.place-next-in-Some.ensures) (record {
            walk = walk_more table (bucket_of (many_of table) c.args.cell c.args.number) c.in-Some.place slot
                (Gathers c.args.cell c.args.number c.args.agent c.loop-next.found.items)
                (Gathers c.args.cell c.args.number c.args.agent c.loop-next.found.items)
                c.requires walk c.index-slot.ensures (λ s h. h) (λ a b d. absurd (false≢true (sym w.if-is_other.false ∙ c.is_other.ensures.1 (a, b, d))))
                (gathers_others table c.args.cell c.args.number c.args.agent c.loop-next.found.items);
            keeps = c.loop-next.invariant.keeps;
          })
    ]
