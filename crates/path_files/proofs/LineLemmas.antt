-- How a prefix is told by a comparison, and how a cut parts a text.
use Rattle.std.proofs.Common.{◌≡◌, ℕ, ◌+◌, Bool, true, false, cond, nat_eq, nat_lt, Option, Some, None, List, [], ◌∷◌, length, take, drop, refl, ap, sym, ◌∙◌, arith, MatchOption, Bor}
use Rattle.std.proofs.lemmas.Bool.{ltb-true, ltb-false}
use Rattle.std.proofs.lemmas.Bool.Decides.{nat_tests}
use Rattle.std.proofs.lemmas.List.Splits.{slice_split_first, slice_split_none}
use Rattle.std.proofs.lemmas.List.Sums.{fails_before_first}
use Rattle.std.specs.Cmp.Lexicographic.{pointwise}
use Rattle.std.specs.Option.{option_copied, option_map}
use Rattle.std.specs.List.{slice_split, position_or_len}
use Rattle.path_files.specs.Lines.{behind, cut}

-- the text begins with the prefix
behind-some : (prefix text : List ℕ) → pointwise nat_eq (take (length prefix) text) prefix ≡ true → behind prefix text ≡ Some (drop (length prefix) text)
behind-some [] text same = refl
behind-some (first ∷ prefix) [] same = absurd (cc)
behind-some (first ∷ prefix) (byte ∷ text) same = grind (arith, nat_tests, behind-some prefix text)

-- the text begins otherwise
behind-none : (prefix text : List ℕ) → pointwise nat_eq (take (length prefix) text) prefix ≡ false → behind prefix text ≡ None
behind-none [] text other = absurd (cc)
behind-none (first ∷ prefix) [] other = refl
behind-none (first ∷ prefix) (byte ∷ text) other = grind (arith, nat_tests, behind-none prefix text)

-- what `strip_prefix` answers
pub behind_is : (prefix text : List ℕ) (found : Option (Bor (List ℕ))) → MatchOption found (pointwise nat_eq (take (length prefix) text) prefix ≡ false) (λ rest. (pointwise nat_eq (take (length prefix) text) prefix ≡ true) × (rest.now ≡ drop (length prefix) text) × (length rest.now + length prefix ≡ length text)) → option_copied found ≡ behind prefix text
behind_is prefix text None found = sym (behind-none prefix text found)
behind_is prefix text (Some rest) found = ap (λ rest. Some rest) found.1 ∙ sym (behind-some prefix text found.0)

nowhere : {A : Type 0} (f : ℕ → A) (b : Bool) (place : ℕ) → option_map f (cond b (Some place) None) ≡ None → b ≡ false
nowhere f true place none = absurd (cc)
nowhere f false place none = refl

somewhere : {A : Type 0} (f : ℕ → A) (b : Bool) (place : ℕ) (a : A) → option_map f (cond b (Some place) None) ≡ Some a → (b ≡ true) × (f place ≡ a)
somewhere f true place a some = (refl, cc)
somewhere f false place a some = absurd (cc)

-- a text that can't be cut is one part
pub cut-none : (mark : ℕ) (text : List ℕ) → cut mark text ≡ None → slice_split (λ byte. nat_eq byte mark) text ≡ text ∷ []
cut-none mark text none =
    let p : ℕ → Bool = λ byte. nat_eq byte mark in
    let place : ℕ = position_or_len p text in
    let low : nat_lt place (length text) ≡ false = nowhere (λ place. (take place text, drop (place + 1) text)) (nat_lt place (length text)) place none in
    slice_split_none p text (λ k d h. fails_before_first p text k d (omega (arith, ltb-false place (length text) low)))

-- the first part of a text ends where it is cut
pub cut-some : (mark : ℕ) (text front rest : List ℕ) → cut mark text ≡ Some (front, rest) → slice_split (λ byte. nat_eq byte mark) text ≡ front ∷ slice_split (λ byte. nat_eq byte mark) rest
cut-some mark text front rest some =
    let p : ℕ → Bool = λ byte. nat_eq byte mark in
    let place : ℕ = position_or_len p text in
    let found = somewhere (λ place. (take place text, drop (place + 1) text)) (nat_lt place (length text)) place (front, rest) some in
    slice_split_first p text 0 (ltb-true place (length text) found.0) ∙ ap (λ (parts : List ℕ × List ℕ). parts.0 ∷ slice_split p parts.1) found.1
