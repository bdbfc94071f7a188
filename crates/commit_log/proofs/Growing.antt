-- A log that grows by an entry.
use Rattle.std.proofs.Common.{◌≡◌, ◌⊎◌, inl, inr, ℕ, ◌+◌, ◌<◌, ◌^◌, true, List, [], ◌∷◌, ◌++◌, length, codes, take, drop, Option, Some, None, refl, ap, sym, ◌∙◌, subst, arith, append_assoc, append-nil, length-append, take-append-drop}
use Rattle.std.proofs.lemmas.List.{take_all}
use Rattle.std.specs.Io.KnownBytes.{Appends}
use Rattle.commit_log.specs.Lines.{is_one_line, lines_text, IsBody}
use Rattle.commit_log.specs.Text.{check_of, commit_words, commit_line, sealed, entries_text, last_check, head_check, log_text}
use Rattle.commit_log.specs.Reads.{IsUnsealed}
use Rattle.commit_log.specs.Crashes.{AppendsSome, MayLeave, IsLogOf, Counts}
use Rattle.commit_log.proofs.Feeds.{unsealed-or-whole}
use Rattle.commit_log.proofs.Commits.{commit-single}

pub last_check-push : (check : List ℕ) (entries : List (List ℕ)) (entry : List ℕ) → last_check check (entries ++ entry ∷ []) ≡ check_of (last_check check entries) entry
last_check-push check [] entry = refl
last_check-push check (e ∷ entries) entry = last_check-push (check_of check e) entries entry

pub entries_text-push : (n : ℕ) (check : List ℕ) (entries : List (List ℕ)) (entry : List ℕ) → entries_text n check (entries ++ entry ∷ []) ≡ entries_text n check entries ++ sealed (n + length entries) (last_check check entries) entry
entries_text-push n check [] entry =
    let same : n ≡ n + 0 = omega arith in
    append-nil (sealed n check entry) ∙ ap (λ (k : ℕ). sealed k check entry) same
entries_text-push n check (e ∷ entries) entry =
    let same : n + 1 + length entries ≡ n + length (e ∷ entries) = omega arith in
    ap (λ (t : List ℕ). sealed n check e ++ t) (entries_text-push (n + 1) (check_of check e) entries entry ∙ ap (λ (k : ℕ). entries_text (n + 1) (check_of check e) entries ++ sealed k (last_check check (e ∷ entries)) entry) same)
    ∙ sym (append_assoc (sealed n check e) (entries_text (n + 1) (check_of check e) entries) (sealed (n + length (e ∷ entries)) (last_check check (e ∷ entries)) entry))

pub log_text-push : (head : List ℕ) (entries : List (List ℕ)) (entry : List ℕ) → log_text head (entries ++ entry ∷ []) ≡ log_text head entries ++ sealed (1 + length entries) (last_check (head_check head) entries) entry
log_text-push head entries entry =
    ap (λ (t : List ℕ). head ++ t) (entries_text-push 1 (head_check head) entries entry)
    ∙ sym (append_assoc head (entries_text 1 (head_check head) entries) (sealed (1 + length entries) (last_check (head_check head) entries) entry))

-- the bytes that are put are the next entry's
pub put-sealed : (head : List ℕ) (entries : List (List ℕ)) (entry : List ℕ) (count number : ℕ) (check check' : List ℕ) → Counts head entries count check → number ≡ count + 1 → check' ≡ check_of check entry
    → log_text head (entries ++ entry ∷ []) ≡ log_text head entries ++ (entry ++ commit_line number check')
put-sealed head entries entry count number check check' counts number_is check_is =
    let k : 1 + length entries ≡ number = omega (arith, counts.count_is) in
    let c : check_of (last_check (head_check head) entries) entry ≡ check' = ap (λ (t : List ℕ). check_of t entry) (sym counts.check_is) ∙ sym check_is in
    log_text-push head entries entry ∙ ap (λ (m : ℕ). log_text head entries ++ (entry ++ commit_line m (check_of (last_check (head_check head) entries) entry))) k
    ∙ ap (λ (t : List ℕ). log_text head entries ++ (entry ++ commit_line number t)) c

pub counts-more : (head : List ℕ) (entries : List (List ℕ)) (entry : List ℕ) (count number : ℕ) (check check' : List ℕ) → Counts head entries count check → number ≡ count + 1 → check' ≡ check_of check entry
    → Counts head (entries ++ entry ∷ []) number check'
counts-more head entries entry count number check check' counts number_is check_is = record {
  count_is = omega (arith, counts.count_is, length-append entries (entry ∷ []));
  check_is = check_is ∙ ap (λ (t : List ℕ). check_of t entry) counts.check_is ∙ sym (last_check-push (head_check head) entries entry);
}

grown-some : (text bytes : List ℕ) (new : Option (List ℕ)) → Appends (Some text) new bytes → new ≡ Some (text ++ bytes)
grown-some text bytes None appends = absurd appends
grown-some text bytes (Some all) appends = ap (λ (t : List ℕ). let o : Option (List ℕ) = Some t in o) appends

pub appends-some : (old new : Option (List ℕ)) (bytes text : List ℕ) → old ≡ Some text → Appends old new bytes → new ≡ Some (text ++ bytes)
appends-some old new bytes text is appends = grown-some text bytes new (subst (λ (o : Option (List ℕ)). Appends o new bytes) is appends)

split-front : (a b c d : List ℕ) → a ++ b ≡ c ++ d → ((e : List ℕ) × (c ≡ a ++ e)) ⊎ ((e : List ℕ) × (a ≡ c ++ e) × (e ++ b ≡ d))
split-front [] b c d same = inl (c, refl)
split-front (x ∷ a) b [] d same = inr (x ∷ a, refl, same)
split-front (x ∷ a) b (y ∷ c) d same =
    let first : x ≡ y = cc in
    let later : a ++ b ≡ c ++ d = cc in
    elim (split-front a b c d later) [
      | inl e ↦ inl (e.0, ap (λ (n : ℕ). n ∷ c) (sym first) ∙ ap (λ (t : List ℕ). x ∷ t) e.1)
      | inr e ↦ inr (e.0, ap (λ (n : ℕ). n ∷ a) first ∙ ap (λ (t : List ℕ). y ∷ t) e.1, e.2)
    ]

pub nothing-unsealed : IsUnsealed []
nothing-unsealed = record { lines = []; piece = []; sound = refl; part = refl; is = refl }

-- whatever a crash leaves, when a front of the next entry's bytes was put
pub put-leaves : (kept kept' old new : Option (List ℕ)) (head : List ℕ) (entries : List (List ℕ)) (entry left : List ℕ) (count number : ℕ) (check check' : List ℕ)
    → IsBody entry → number < 2 ^ 64 → Counts head entries count check → number ≡ count + 1 → check' ≡ check_of check entry
    → old ≡ Some (log_text head entries) → kept' ≡ kept → AppendsSome old new (entry ++ commit_line number check') → MayLeave kept' new left
    → MayLeave kept old left ⊎ (IsLogOf head entries left ⊎ IsLogOf head (entries ++ entry ∷ []) left)
put-leaves kept kept' old new head entries entry left count number check check' lines small counts number_is check_is old_is kept_same some leaves =
    let log = log_text head entries in
    let bytes = entry ++ commit_line number check' in
    let part = take some.0 bytes in
    let grown : new ≡ Some (log ++ part) = appends-some old new part log old_is some.1 in
    let whole : leaves.whole ≡ log ++ part = let both = sym leaves.text_is ∙ grown in cc in
    elim (split-front left leaves.lost log part (sym leaves.front ∙ whole)) [
      | inl e ↦ inl (record {
        whole = log;
        least = leaves.least;
        text_is = old_is;
        kept_is = sym kept_same ∙ leaves.kept_is;
        more = leaves.more;
        lost = e.0;
        begins = leaves.begins;
        front = e.1;
      })
      | inr e ↦
          let mid : List ℕ = e.0 in
          let all : mid ++ (leaves.lost ++ drop some.0 bytes) ≡ lines_text lines.lines ++ (commit_words number check' ++ codes "\n") =
          sym (append_assoc mid leaves.lost (drop some.0 bytes)) ∙ ap (λ (t : List ℕ). t ++ drop some.0 bytes) e.2 ∙ take-append-drop some.0 bytes
          ∙ ap (λ (t : List ℕ). t ++ commit_line number check') lines.is in
          let one : is_one_line (commit_words number check') ≡ true = subst (λ (t : List ℕ). is_one_line (commit_words number t) ≡ true) (sym check_is) (commit-single number check entry small) in
          inr (elim (unsealed-or-whole mid (leaves.lost ++ drop some.0 bytes) lines.lines (commit_words number check') lines.sound one all) [
            | inl u ↦ inl (record { rest = mid; unsealed = u; is = e.1 })
            | inr none ↦
                let is_all : mid ≡ bytes =
                sym (append-nil mid) ∙ ap (λ (t : List ℕ). mid ++ t) (sym none) ∙ all ∙ sym (ap (λ (t : List ℕ). t ++ commit_line number check') lines.is) in
                inr (record {
                  rest = [];
                  unsealed = nothing-unsealed;
                  is = e.1 ∙ ap (λ (t : List ℕ). log ++ t) is_all ∙ sym (put-sealed head entries entry count number check check' counts number_is check_is) ∙ sym (append-nil (log_text head (entries ++ entry ∷ [])));
                })
          ])
    ]

pub some-all : (old new : Option (List ℕ)) (bytes : List ℕ) → Appends old new bytes → AppendsSome old new bytes
some-all old new bytes appends = (length bytes, subst (Appends old new) (sym (take_all (length bytes) bytes (omega arith))) appends)
