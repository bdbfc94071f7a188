-- The text of a list's items so far, and of one item more.
use Rattle.std.proofs.Common.{◌≡◌, ℕ, ◌+◌, ◌<◌, List, [], ◌∷◌, ◌++◌, length, get_or, take, ap, sym, subst, ◌∙◌}
use Rattle.std.specs.Prelude.{Option}
use Rattle.std.specs.List.{flat_map}
use Rattle.std.specs.Io.KnownBytes.{Appends}
use Rattle.std.proofs.KnownBytes.{Appends-trans}
use Rattle.std.proofs.lemmas.Grind.{flat_map-append}
use Rattle.std.proofs.lemmas.List.{take_more}
use Rattle.std.proofs.Common.{append-nil}

-- the text of the first items, and that of the next one
taken-more : {X : Type 0} (f : X → List ℕ) (xs : List X) (i : ℕ) (x : X) → get_or xs i x ≡ x → i < length xs → flat_map f (take (i + 1) xs) ≡ flat_map f (take i xs) ++ f x
taken-more f xs i x e l =
    ap (flat_map f) (take_more xs i x l ∙ ap (λ y. take i xs ++ (y ∷ [])) e) ∙ flat_map-append f (take i xs) (x ∷ []) ∙ ap (λ t. flat_map f (take i xs) ++ t) (append-nil (f x))

pub appends-next : {X : Type 0} (f : X → List ℕ) (xs : List X) (a b c : Option (List ℕ)) (i : ℕ) (x : X) → get_or xs i x ≡ x → i < length xs
    → Appends a b (flat_map f (take i xs)) → Appends b c (f x) → Appends a c (flat_map f (take (i + 1) xs))
appends-next f xs a b c i x e l done next = subst (Appends a c) (sym (taken-more f xs i x e l)) (Appends-trans a b c (flat_map f (take i xs)) (f x) done next)
