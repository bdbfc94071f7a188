-- How a list of kinds is read word by word.
use Rattle.std.proofs.Common.{◌≡◌, ℕ, true, List, [], ◌∷◌}
use Rattle.std.proofs.Math.Bool.{or_assoc, or-false}
use Rattle.mapf_rules.specs.declared.kinds.Kinds.{Kinds}
use Rattle.session_lines.specs.Kinds.{is_kind, named_kinds, both_kinds, kinds_after}

-- one more word is read
pub kinds_after-kind : (kinds : Kinds) (word : List ℕ) (words : List (List ℕ)) → is_kind word ≡ true → kinds_after kinds (word ∷ words) ≡ kinds_after (both_kinds kinds (named_kinds (word ∷ []))) words
kinds_after-kind kinds word words kind = rw kind (simp (or_assoc, or-false))
