use Rattle.std.proofs.Common.{◌≡◌, ◌+◌, ◌*◌, ◌/◌, None, arith}
use Rattle.std.specs.Prelude.{replicate}
use Rattle.desk_audit.specs.Links.{place_of}
use Rattle.desk_audit.proofs.Chains.{empty_filed}
use Rattle.desk_audit.proofs.tables.Table.new.Goals as goal

pub returns : goal.returns
unfolding place_of
returns c =
    let many = c.args.buckets / 2 * 2 + 1 in
    let heads : c.in_ok-vec.field-0.items ≡ replicate many None = c.in_ok-vec.ensures.items_if_clones_equal (λ y same. same) in
    empty_filed _ many (omega arith) heads c.in_ok-with_capacity.ensures.items
