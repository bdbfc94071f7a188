-- A clone of an entry is that entry.
use Rattle.std.proofs.Common.{◌≡◌, arith}
use Rattle.std.proofs.lemmas.List.Elements.{same_from_all_zip}
use Rattle.mapf_rules.specs.declared.entries.Conflict.{Conflict}
use Rattle.mapf_rules.specs.declared.entries.Conflict.TheVariants.{Cycle}
use Rattle.mapf_rules.specs.contracts.entries.ConflictClone.TheImpl as clones

pub clone_is : (a b : Conflict) → (clones.ghosts).is_clone a b → b ≡ a
clone_is (Cycle t r) (Cycle t' r') h =
    let rings : r' ≡ r = same_from_all_zip _ r r' h.1 (λ x y e. e) in
    cc
clone_is a b h = grind arith
