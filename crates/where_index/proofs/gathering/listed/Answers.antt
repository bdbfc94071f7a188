use Rattle.std.proofs.lemmas.List.Filters.{dedup_is}
use Rattle.std.proofs.lemmas.List.Kept.{IsStrictlySortedBy-dedup, Contains-dedup, Contains-from_dedup}
use Rattle.std.proofs.lemmas.List.Sorted.{Contains-permutation, IsPermutation-sym}
use Rattle.where_index.proofs.gathering.listed.Goals as goal

pub returns : goal.returns
returns g c =
    let was = c.args.found.items in
    let xs = c.sort_unstable.new.self.items in
    let is = dedup_is _ xs c.dedup.new.self.items c.dedup.ensures.filtered in
    let moved = rw c.in_ok-items.ensures.ok at c.sort_unstable.ensures.permutation in
    rw (c.new.ensures, is) (
      IsStrictlySortedBy-dedup g.met.T.Ord.total g.met.T.Ord.matches_eq xs c.sort_unstable.ensures.sorted,
      λ same x. (
        λ h. Contains-permutation xs was x (IsPermutation-sym was xs moved) (Contains-from_dedup _ xs x h),
        λ h. Contains-dedup g.met.T.Eq.laws same xs x (Contains-permutation was xs x moved h),
      ),
    )
