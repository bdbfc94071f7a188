-- Laws of a text cut at its first hyphen.
use Rattle.std.proofs.Common.{◌≡◌, ◌<◌, ◌+◌, ℕ, List, [], Option, Some, None, length, arith}
use Rattle.std.specs.Prelude.{MatchOption}
use Rattle.std.specs.Borrow.{Bor}
use Rattle.std.specs.List.{after_first, before_first, position_or_len}
use Rattle.std.proofs.lemmas.List.{drop_all}
use Rattle.desk_cli.specs.Values.{is_hyphen}

-- nothing stands behind a hyphen that doesn't come
pub cut_at_hyphen : (text : List ℕ) (parts : Option (Bor (List ℕ) × Bor (List ℕ)))
    → MatchOption parts (position_or_len is_hyphen text ≡ length text)
    (λ p. (position_or_len is_hyphen text < length text) × (p.0.now ≡ before_first is_hyphen text) × (p.1.now ≡ after_first is_hyphen text))
    → MatchOption parts (after_first is_hyphen text ≡ []) (λ p. (p.0.now ≡ before_first is_hyphen text) × (p.1.now ≡ after_first is_hyphen text))
cut_at_hyphen text None none = drop_all (position_or_len is_hyphen text + 1) text (omega arith)
cut_at_hyphen text (Some p) (within, before, behind) = (before, behind)
