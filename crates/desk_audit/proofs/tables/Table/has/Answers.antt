use Rattle.std.proofs.Common.{None, Some, refl, sym, ◌∙◌, arith}
use mathlib.Core.Bool.{false≢true}
use Rattle.desk_audit.specs.Filing.{bucket_of}
use Rattle.desk_audit.specs.declared.tables.Slot.{Slot}
use Rattle.desk_audit.specs.declared.tables.Table.{Table}
use Rattle.desk_audit.proofs.Chains.{Walked, IsApart, apart_others, none_filed, slot_filed, walk_more, many_of}
use Rattle.desk_audit.proofs.tables.Table.has.Goals as goal

pub returns-then-is_under : goal.returns-then-is_under
returns-then-is_under c =
    let table : Table = c.args.self.now in
    let walk : Walked table (bucket_of (many_of table) c.args.cell c.args.number) (Some c.in-Some.place) (IsApart c.args.cell c.args.number) = rw c.in-Some.is at c.loop-next.invariant in
    let keys = c.is_under.ensures.0 c.if-is_under.true in
    (λ _. slot_filed table c.args.cell c.args.number c.in-Some.place c.index-slot.result.now (omega (arith, walk.last.0, walk.within)) c.index-slot.ensures keys.0 keys.1, λ _. refl)

pub loop-next-preserved : goal.loop-next-preserved
loop-next-preserved c =
    let table : Table = c.args.self.now in
    let slot : Slot = c.index-slot.result.now in
    let walk = rw c.in-Some.is at c.loop-next.invariant in
    rw c.place-next-in-Some.ensures (walk_more table (bucket_of (many_of table) c.args.cell c.args.number) c.in-Some.place slot (IsApart c.args.cell c.args.number) (IsApart c.args.cell c.args.number)
    c.requires walk c.index-slot.ensures (λ s h. h)
    (λ same_cell same_number. false≢true (sym c.if-is_under.false ∙ c.is_under.ensures.1 (same_cell, same_number)))
    (apart_others table c.args.cell c.args.number))

pub returns : goal.returns
returns c =
    let table : Table = c.args.self.now in
    let walk : Walked table (bucket_of (many_of table) c.args.cell c.args.number) None (IsApart c.args.cell c.args.number) = rw c.in_default.is at c.loop-next.invariant in
    (λ e. absurd (false≢true e), λ filed. absurd (none_filed table c.args.cell c.args.number walk filed))
