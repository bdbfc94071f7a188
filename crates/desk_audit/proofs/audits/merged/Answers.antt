use Rattle.std.proofs.lemmas.List.Filters.{dedup_is}
use Rattle.std.proofs.lemmas.List.Kept.{IsStrictlySortedBy-dedup, Contains-dedup, Contains-from_dedup}
use Rattle.std.proofs.lemmas.List.Sorted.{Contains-permutation, IsPermutation-sym}
use Rattle.mapf_rules.proofs.Orders.{conflict_total, conflict_same, entries_ascend}
use Rattle.mapf_rules.specs.contracts.entries.ConflictEq.TheImpl.Laws as equality
use Rattle.mapf_rules.specs.contracts.entries.ConflictOrd.TheImpl.Laws as order
use Rattle.desk_audit.proofs.audits.merged.Goals as goal

pub returns : goal.returns
returns c =
    let was = c.args.entries.items in
    let xs = c.sort.new.self.items in
    let is = dedup_is _ xs c.dedup.new.self.items c.dedup.ensures.filtered in
    let moved = c.sort.ensures.permutation in
    rw (c.new.ensures, is) (record {
      ascending = entries_ascend _ (IsStrictlySortedBy-dedup conflict_total order.matches_eq-law xs c.in-Ok.ensures.sorted);
      exact = λ entry. (
        λ h. Contains-permutation xs was entry (IsPermutation-sym was xs moved) (Contains-from_dedup _ xs entry h),
        λ h. Contains-dedup equality.laws-law conflict_same xs entry (Contains-permutation was xs entry moved h),
      );
    })
