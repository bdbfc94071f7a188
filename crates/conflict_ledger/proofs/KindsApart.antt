-- The program's `==` of two kinds is true exactly where they are one.
use Rattle.std.proofs.Common.{◌≡◌, List, refl}
use Rattle.std.specs.List.{count_by}
use Rattle.mapf_rules.specs.ConflictList.{kind_of}
use Rattle.mapf_rules.specs.contracts.entries.KindPartialEq.TheImpl as kinds
use Rattle.mapf_rules.specs.declared.entries.Kind.{Kind}
use Rattle.mapf_rules.specs.declared.entries.Kind.TheVariants.{Vertex, Parked, Edge, Following, Swapping, Cycle}
use Rattle.mapf_rules.specs.declared.entries.Conflict.{Conflict}
use Rattle.conflict_ledger.specs.Kept.{is_that_kind, many_of}

told_apart : (one other : Kind) → kinds.ghosts.eq one other ≡ is_that_kind one other
told_apart Vertex Vertex = refl
told_apart Vertex Parked = refl
told_apart Vertex Edge = refl
told_apart Vertex Following = refl
told_apart Vertex Swapping = refl
told_apart Vertex Cycle = refl
told_apart Parked Vertex = refl
told_apart Parked Parked = refl
told_apart Parked Edge = refl
told_apart Parked Following = refl
told_apart Parked Swapping = refl
told_apart Parked Cycle = refl
told_apart Edge Vertex = refl
told_apart Edge Parked = refl
told_apart Edge Edge = refl
told_apart Edge Following = refl
told_apart Edge Swapping = refl
told_apart Edge Cycle = refl
told_apart Following Vertex = refl
told_apart Following Parked = refl
told_apart Following Edge = refl
told_apart Following Following = refl
told_apart Following Swapping = refl
told_apart Following Cycle = refl
told_apart Swapping Vertex = refl
told_apart Swapping Parked = refl
told_apart Swapping Edge = refl
told_apart Swapping Following = refl
told_apart Swapping Swapping = refl
told_apart Swapping Cycle = refl
told_apart Cycle Vertex = refl
told_apart Cycle Parked = refl
told_apart Cycle Edge = refl
told_apart Cycle Following = refl
told_apart Cycle Swapping = refl
told_apart Cycle Cycle = refl

pub counted : (kind : Kind) (entries : List Conflict) → count_by (λ entry. kinds.ghosts.eq (kind_of entry) kind) entries ≡ many_of kind entries
counted kind entries i = count_by (λ entry. told_apart (kind_of entry) kind i) entries
