-- Kinds of conflicts that are asked about (this project's choice: `vertex` stands for Vertex and Parked entries).
use Rattle.std.specs.Prelude.{Bool}
use Rattle.mapf_rules.specs.declared.entries.Kind.{Kind}
use Rattle.mapf_rules.specs.declared.entries.Kind.TheVariants.{Vertex, Parked, Edge, Following, Swapping, Cycle}
use Rattle.mapf_rules.specs.declared.kinds.Kinds.{Kinds}

-- the kind is asked about
abbrev pub is_named : Kinds → Kind → Bool
is_named kinds Vertex = kinds.vertex
is_named kinds Parked = kinds.vertex
is_named kinds Edge = kinds.edge
is_named kinds Following = kinds.follow
is_named kinds Swapping = kinds.swap
is_named kinds Cycle = kinds.cycle
