-- Lines end at their line feeds.
use Rattle.std.proofs.Common.{◌≡◌, ◌⊎◌, inl, inr, ℕ, zero, suc, ◌+◌, ◌<◌, ◌≤◌, Bool, true, false, not, ◌&&◌, nat_eq, List, [], ◌∷◌, ◌++◌, length, codes, get_or, take, drop, refl, ap, sym, ◌∙◌, subst, arith, append_assoc, append-nil, length-append, take-append-drop}
use Rattle.std.proofs.Math.Seq.{drop-cons}
use Rattle.std.proofs.lemmas.Bool.{ne_eqb, and_parts}
use Rattle.std.proofs.lemmas.List.Folds.{list_all-append}
use Rattle.std.specs.List.{list_all}
use Rattle.commit_log.specs.Lines.{is_one_line, begins_commit, is_entry_line, lines_text}
use Rattle.commit_log.specs.Reads.{IsUnsealed}

abbrev first_of : List ℕ → ℕ
first_of [] = 0
first_of (x ∷ xs) = x

abbrev others_of : List ℕ → List ℕ
others_of [] = []
others_of (x ∷ xs) = xs

-- what stands before the first line feed has none
pub one-line-front : (text : List ℕ) (end : ℕ) → end ≤ length text → ((k : ℕ) → k < end → get_or text k 0 ≡ 10 → ⊥) → is_one_line (take end text) ≡ true
one-line-front text zero within none = refl
one-line-front [] (suc end) within none = absurd (omega arith)
one-line-front (byte ∷ text) (suc end) within none = rw (ne_eqb byte 10 (none 0 (omega arith)), one-line-front text end (omega arith) (λ k low. none (suc k) (omega arith))) refl

-- a text with no line feed is one line
pub no-feed : (text : List ℕ) → ((k : ℕ) → k < length text → get_or text k 0 ≡ 10 → ⊥) → is_one_line text ≡ true
no-feed [] none = refl
no-feed (byte ∷ text) none = rw (ne_eqb byte 10 (none 0 (omega arith)), no-feed text (λ k low. none (suc k) (omega arith))) refl

-- a text, split at a line feed
pub feed-parts : (text : List ℕ) (end : ℕ) → end < length text → get_or text end 0 ≡ 10 → text ≡ take end text ++ 10 ∷ drop (suc end) text
feed-parts text end within feed =
    sym (take-append-drop end text) ∙ ap (λ (rest : List ℕ). take end text ++ rest) (drop-cons text end 0 within ∙ ap (λ (n : ℕ). n ∷ drop (suc end) text) feed)

-- two texts that are a line and a rest are so in one way
pub record SameSplit (a b x y : List ℕ) : Type 0 where
  pub line : a ≡ b
  pub rest : x ≡ y

pub feed-split : (a b x y : List ℕ) → is_one_line a ≡ true → is_one_line b ≡ true → a ++ 10 ∷ x ≡ b ++ 10 ∷ y → SameSplit a b x y
feed-split [] [] x y one other same = record { line = refl; rest = ap others_of same }
feed-split [] (byte ∷ b) x y one other same =
    let feed : 10 ≡ byte = ap first_of same in
    absurd (subst (λ n. (not (nat_eq n 10) && is_one_line b) ≡ true → ⊥) feed (λ h. cc) other)
feed-split (byte ∷ a) [] x y one other same =
    let feed : 10 ≡ byte = sym (ap first_of same) in
    absurd (subst (λ n. (not (nat_eq n 10) && is_one_line a) ≡ true → ⊥) feed (λ h. cc) one)
feed-split (byte ∷ a) (next ∷ b) x y one other same =
    let parts = and_parts (not (nat_eq byte 10)) (is_one_line a) one in
    let others = and_parts (not (nat_eq next 10)) (is_one_line b) other in
    let rest = feed-split a b x y parts.1 others.1 (ap others_of same) in
    let first : byte ≡ next = ap first_of same in
    record { line = ap (λ n. n ∷ a) first ∙ ap (λ (l : List ℕ). next ∷ l) rest.line; rest = rest.rest }

-- one line has no line feed behind a line
pub one-line-apart : (text line rest : List ℕ) → is_one_line text ≡ true → text ≡ line ++ 10 ∷ rest → ⊥
one-line-apart [] [] rest one same = cc
one-line-apart [] (l ∷ line) rest one same = cc
one-line-apart (b ∷ text) [] rest one same =
    let feed : 10 ≡ b = sym (ap first_of same) in
    subst (λ n. (not (nat_eq n 10) && is_one_line text) ≡ true → ⊥) feed (λ h. cc) one
one-line-apart (b ∷ text) (l ∷ line) rest one same = one-line-apart text line rest (and_parts (not (nat_eq b 10)) (is_one_line text) one).1 (ap others_of same)

-- a front of a text that begins with a line is a part of that line, or passes its line feed
pub record Passes (mid gone line x : List ℕ) : Type 0 where
  pub behind : List ℕ
  pub begins : mid ≡ line ++ 10 ∷ behind
  pub rest : behind ++ gone ≡ x

pub line-front : (mid gone line x : List ℕ) → is_one_line line ≡ true → mid ++ gone ≡ line ++ 10 ∷ x → (is_one_line mid ≡ true) ⊎ Passes mid gone line x
line-front [] gone line x one same = inl refl
line-front (m ∷ mid) gone [] x one same = inr (record { behind = mid; begins = ap (λ (n : ℕ). n ∷ mid) (ap first_of same); rest = ap others_of same })
line-front (m ∷ mid) gone (l ∷ line) x one same =
    let parts = and_parts (not (nat_eq l 10)) (is_one_line line) one in
    let first : m ≡ l = ap first_of same in
    elim (line-front mid gone line x parts.1 (ap others_of same)) [
      | inl part ↦ inl (rw (first, parts.0, part) refl)
      | inr p ↦ inr (record { behind = p.behind; begins = ap (λ (n : ℕ). n ∷ mid) first ∙ ap (λ (t : List ℕ). l ∷ t) p.begins; rest = p.rest })
    ]

nothing-behind : (a b : List ℕ) → a ++ b ≡ [] → b ≡ []
nothing-behind [] b same = same
nothing-behind (x ∷ a) b same = cc

pub line-lines : (line : List ℕ) (lines : List (List ℕ)) (x : List ℕ) → lines_text (line ∷ lines) ++ x ≡ line ++ 10 ∷ (lines_text lines ++ x)
line-lines line lines x = append_assoc (line ++ codes "\n") (lines_text lines) x ∙ append_assoc line (codes "\n") (lines_text lines ++ x)

pub lines_text-push : (lines : List (List ℕ)) (line : List ℕ) → lines_text (lines ++ line ∷ []) ≡ lines_text lines ++ (line ++ codes "\n")
lines_text-push [] line = append-nil (line ++ codes "\n")
lines_text-push (l ∷ lines) line =
    ap (λ (t : List ℕ). (l ++ codes "\n") ++ t) (lines_text-push lines line) ∙ sym (append_assoc (l ++ codes "\n") (lines_text lines) (line ++ codes "\n"))

-- one line more of an entry
pub one-more : (text rest line behind : List ℕ) (lines : List (List ℕ)) (at : ℕ) → list_all is_entry_line lines ≡ true → text ≡ lines_text lines ++ rest → at ≡ length (lines_text lines)
    → is_one_line line ≡ true → begins_commit line ≡ false → rest ≡ line ++ 10 ∷ behind
    → (more : List (List ℕ)) × (list_all is_entry_line more ≡ true) × (text ≡ lines_text more ++ behind) × (at + (length line + 1) ≡ length (lines_text more))
one-more text rest line behind lines at sound split at_is one own feed =
    let text_is = lines_text-push lines line in (
      lines ++ line ∷ [],
      list_all-append is_entry_line lines (line ∷ []) ∙ rw (sound, one, own) refl,
      split ∙ ap (λ (t : List ℕ). lines_text lines ++ t) (feed ∙ sym (append_assoc line (codes "\n") behind)) ∙ sym (append_assoc (lines_text lines) (line ++ codes "\n") behind)
          ∙ ap (λ (t : List ℕ). t ++ behind) (sym text_is),
      (let len = ap length text_is in omega (arith, at_is, len, length-append (lines_text lines) (line ++ codes "\n"), length-append line (codes "\n"))),
    )

not-true : (b : Bool) → not b ≡ true → b ≡ false
not-true true h = absurd (cc)
not-true false h = refl

pub entry-line : (line : List ℕ) (lines : List (List ℕ)) → list_all is_entry_line (line ∷ lines) ≡ true → (is_one_line line ≡ true) × (begins_commit line ≡ false) × (list_all is_entry_line lines ≡ true)
entry-line line lines all =
    let parts = and_parts (is_entry_line line) (list_all is_entry_line lines) all in
    let own = and_parts (is_one_line line) (not (begins_commit line)) parts.0 in
    (own.0, not-true (begins_commit line) own.1, parts.1)

-- a front of lines and one line more is unsealed, or it is all
pub unsealed-or-whole : (mid gone : List ℕ) (lines : List (List ℕ)) (last : List ℕ) → list_all is_entry_line lines ≡ true → is_one_line last ≡ true
    → mid ++ gone ≡ lines_text lines ++ (last ++ codes "\n") → IsUnsealed mid ⊎ (gone ≡ [])
unsealed-or-whole mid gone [] last sound one same =
    elim (line-front mid gone last [] one same) [
      | inl part ↦ inl (record { lines = []; piece = mid; sound = refl; part = part; is = refl })
      | inr p ↦ inr (nothing-behind p.behind gone p.rest)
    ]
unsealed-or-whole mid gone (line ∷ lines) last sound one same =
    let own = entry-line line lines sound in
    elim (line-front mid gone line (lines_text lines ++ (last ++ codes "\n")) own.0 (same ∙ line-lines line lines (last ++ codes "\n"))) [
      | inl part ↦ inl (record { lines = []; piece = mid; sound = refl; part = part; is = refl })
      | inr p ↦ elim (unsealed-or-whole p.behind gone lines last own.2 one p.rest) [
        | inl u ↦ inl (record {
          lines = line ∷ u.lines;
          piece = u.piece;
          sound = rw (own.0, own.1, u.sound) refl;
          part = u.part;
          is = p.begins ∙ ap (λ (t : List ℕ). line ++ 10 ∷ t) u.is ∙ sym (line-lines line u.lines u.piece);
        })
        | inr none ↦ inr none
      ]
    ]

-- two texts that are lines of an entry, a commit line and a rest are so in one way
pub record SameFirst (l1 l2 : List (List ℕ)) (c1 c2 x y : List ℕ) : Type 0 where
  pub lines : l1 ≡ l2
  pub commit : c1 ≡ c2
  pub rest : x ≡ y

apart : (line commit : List ℕ) → line ≡ commit → begins_commit line ≡ false → begins_commit commit ≡ true → ⊥
apart line commit same plain begins = let both : begins_commit line ≡ begins_commit commit = ap begins_commit same in absurd (cc)

pub first-commit : (l1 l2 : List (List ℕ)) (c1 c2 x y : List ℕ) → list_all is_entry_line l1 ≡ true → list_all is_entry_line l2 ≡ true
    → is_one_line c1 ≡ true → is_one_line c2 ≡ true → begins_commit c1 ≡ true → begins_commit c2 ≡ true
    → lines_text l1 ++ (c1 ++ 10 ∷ x) ≡ lines_text l2 ++ (c2 ++ 10 ∷ y) → SameFirst l1 l2 c1 c2 x y
first-commit [] [] c1 c2 x y s1 s2 o1 o2 b1 b2 same =
    let split = feed-split c1 c2 x y o1 o2 same in record { lines = refl; commit = split.line; rest = split.rest }
first-commit [] (line ∷ l2) c1 c2 x y s1 s2 o1 o2 b1 b2 same =
    let own = entry-line line l2 s2 in
    let split = feed-split c1 line x (lines_text l2 ++ (c2 ++ 10 ∷ y)) o1 own.0 (same ∙ line-lines line l2 (c2 ++ 10 ∷ y)) in
    absurd (apart line c1 (sym split.line) own.1 b1)
first-commit (line ∷ l1) [] c1 c2 x y s1 s2 o1 o2 b1 b2 same =
    let own = entry-line line l1 s1 in
    let split = feed-split line c2 (lines_text l1 ++ (c1 ++ 10 ∷ x)) y own.0 o2 (sym (line-lines line l1 (c1 ++ 10 ∷ x)) ∙ same) in
    absurd (apart line c2 split.line own.1 b2)
first-commit (line ∷ l1) (next ∷ l2) c1 c2 x y s1 s2 o1 o2 b1 b2 same =
    let own = entry-line line l1 s1 in
    let other = entry-line next l2 s2 in
    let split = feed-split line next (lines_text l1 ++ (c1 ++ 10 ∷ x)) (lines_text l2 ++ (c2 ++ 10 ∷ y)) own.0 other.0 (sym (line-lines line l1 (c1 ++ 10 ∷ x)) ∙ same ∙ line-lines next l2 (c2 ++ 10 ∷ y)) in
    let later = first-commit l1 l2 c1 c2 x y own.2 other.2 o1 o2 b1 b2 split.rest in
    record { lines = ap (λ (l : List ℕ). l ∷ l1) split.line ∙ ap (λ (ls : List (List ℕ)). next ∷ ls) later.lines; commit = later.commit; rest = later.rest }

-- an unsealed text has no commit line behind lines of an entry
pub no-commit : (l1 l2 : List (List ℕ)) (piece commit y : List ℕ) → list_all is_entry_line l1 ≡ true → list_all is_entry_line l2 ≡ true → is_one_line piece ≡ true
    → is_one_line commit ≡ true → begins_commit commit ≡ true → lines_text l1 ++ piece ≡ lines_text l2 ++ (commit ++ 10 ∷ y) → ⊥
no-commit [] [] piece commit y s1 s2 part one begins same = one-line-apart piece commit y part same
no-commit [] (line ∷ l2) piece commit y s1 s2 part one begins same = one-line-apart piece line (lines_text l2 ++ (commit ++ 10 ∷ y)) part (same ∙ line-lines line l2 (commit ++ 10 ∷ y))
no-commit (line ∷ l1) [] piece commit y s1 s2 part one begins same =
    let own = entry-line line l1 s1 in
    let split = feed-split line commit (lines_text l1 ++ piece) y own.0 one (sym (line-lines line l1 piece) ∙ same) in
    apart line commit split.line own.1 begins
no-commit (line ∷ l1) (next ∷ l2) piece commit y s1 s2 part one begins same =
    let own = entry-line line l1 s1 in
    let other = entry-line next l2 s2 in
    let split = feed-split line next (lines_text l1 ++ piece) (lines_text l2 ++ (commit ++ 10 ∷ y)) own.0 other.0 (sym (line-lines line l1 piece) ∙ same ∙ line-lines next l2 (commit ++ 10 ∷ y)) in
    no-commit l1 l2 piece commit y own.2 other.2 part one begins split.rest
