-- KIND.. of a session line (this project's choice).
use Rattle.std.specs.Prelude.{ℕ, Bool, ◌||◌, Option, Some, None, List, [], ◌∷◌, codes, bytes_eq, if◌then◌else◌}
use Rattle.std.specs.List.{list_any, list_all}
use Rattle.mapf_rules.specs.declared.kinds.Kinds.{Kinds}

-- the word of a kind of conflict
abbrev pub is_kind : List ℕ → Bool
is_kind word = bytes_eq word (codes "vertex") || bytes_eq word (codes "edge") || bytes_eq word (codes "follow") || bytes_eq word (codes "swap") || bytes_eq word (codes "cycle")

-- the text is one of the words
abbrev pub is_one_of : List ℕ → List (List ℕ) → Bool
is_one_of text words = list_any (λ word. bytes_eq word text) words

-- the kinds that are among the words
abbrev pub named_kinds : List (List ℕ) → Kinds
named_kinds words = record {
  vertex = is_one_of (codes "vertex") words;
  edge = is_one_of (codes "edge") words;
  follow = is_one_of (codes "follow") words;
  swap = is_one_of (codes "swap") words;
  cycle = is_one_of (codes "cycle") words;
}

-- one word or more, and each is a kind
abbrev pub kinds_of : List (List ℕ) → Option Kinds
kinds_of [] = None
kinds_of (word ∷ words) = if list_all is_kind (word ∷ words) then Some (named_kinds (word ∷ words)) else None

-- both those kinds and these
abbrev pub both_kinds : Kinds → Kinds → Kinds
both_kinds those these = record {
  vertex = those.vertex || these.vertex;
  edge = those.edge || these.edge;
  follow = those.follow || these.follow;
  swap = those.swap || these.swap;
  cycle = those.cycle || these.cycle;
}

-- those kinds and the kinds of the words
abbrev pub kinds_after : Kinds → List (List ℕ) → Option Kinds
kinds_after kinds words = if list_all is_kind words then Some (both_kinds kinds (named_kinds words)) else None
