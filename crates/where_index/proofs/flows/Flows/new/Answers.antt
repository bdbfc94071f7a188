use Rattle.std.proofs.Common.{refl}
use Rattle.where_index.specs.declared.ways.Way.TheVariants.{Up, Left, Right, Down}
use Rattle.where_index.proofs.Flowing.{none_counted}
use Rattle.where_index.proofs.flows.Flows.new.Goals as goal

pub returns : goal.returns
returns c Up = none_counted _ Up (λ t. rw c.new.ensures refl)
returns c Left = none_counted _ Left (λ t. rw c.new-2.ensures refl)
returns c Right = none_counted _ Right (λ t. rw c.new-3.ensures refl)
returns c Down = none_counted _ Down (λ t. rw c.new-4.ensures refl)
