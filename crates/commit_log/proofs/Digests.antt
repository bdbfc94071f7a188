-- Where the digest of a head stands, and texts that begin with no head.
use Rattle.std.proofs.Common.{◌≡◌, ◌≢◌, ℕ, ◌+◌, ◌<◌, true, false, nat_eq, List, ◌++◌, length, codes, take, drop, Option, None, Some, Result, Ok, Err, IfOk, MatchOption, refl, ap, sym, ◌∙◌, subst, arith, append_assoc, length-drop}
use Rattle.std.proofs.Math.Seq.{take-append_seam}
use Rattle.std.proofs.lemmas.Bool.{eqb-true, ne_eqb, and_parts}
use Rattle.std.proofs.lemmas.List.{take_all}
use Rattle.std.specs.List.{list_all}
use Rattle.plan_table.specs.declared.tracks.Mode.{Mode}
use Rattle.plan_table.specs.declared.tracks.Mode.TheVariants.{Stay, Disappear}
use Rattle.commit_log.specs.Text.{mode_line, head_text, is_lower_hex_digit, is_digest}
use Rattle.commit_log.specs.Reads.{BeginsNoHead}

pub too-short : (at : ℕ) (text : List ℕ) → length text < at + 64 → is_digest (take 64 (drop at text)) ≡ false
too-short at text short =
    let less : length (drop at text) < 64 = omega (arith, short, length-drop at text) in
    rw (take_all 64 (drop at text) (omega (arith, less)), ne_eqb (length (drop at text)) 64 (omega (arith, less))) refl

digest-front : (scene rest : List ℕ) → is_digest scene ≡ true → take 64 ((scene ++ codes "\n") ++ rest) ≡ scene
digest-front scene rest is =
    let whole : length scene ≡ 64 = eqb-true (length scene) 64 (and_parts (nat_eq (length scene) 64) (list_all is_lower_hex_digit scene) is).0 in
    subst (λ (n : ℕ). take n ((scene ++ codes "\n") ++ rest) ≡ scene) whole
    (ap (take (length scene)) (append_assoc scene (codes "\n") rest) ∙ take-append_seam scene (codes "\n" ++ rest))

digest-place : (mode : Mode) (scene rest : List ℕ) → is_digest scene ≡ true → take 64 (drop (length (mode_line mode) + 12) (head_text mode scene ++ rest)) ≡ scene
digest-place Stay scene rest is = digest-front scene rest is
digest-place Disappear scene rest is = digest-front scene rest is

digest-stands : (text : List ℕ) (mode : Mode) (at : ℕ) (scene rest : List ℕ) → at ≡ length (mode_line mode) + 12 → is_digest scene ≡ true → text ≡ head_text mode scene ++ rest
    → take 64 (drop at text) ≡ scene
digest-stands text mode at scene rest at_is is same =
    ap (λ (n : ℕ). take 64 (drop n text)) at_is ∙ ap (λ (t : List ℕ). take 64 (drop (length (mode_line mode) + 12) t)) same ∙ digest-place mode scene rest is

pub no-digest : (text : List ℕ) (mode : Mode) (at : ℕ) → at ≡ length (mode_line mode) + 12 → is_digest (take 64 (drop at text)) ≡ false → BeginsNoHead text mode
no-digest text mode at at_is none scene rest is same =
    let other : is_digest scene ≡ false = subst (λ (t : List ℕ). is_digest t ≡ false) (digest-stands text mode at scene rest at_is is same) none in
    absurd (cc)

pub other-head : (text digest head : List ℕ) (mode : Mode) (at : ℕ) → at ≡ length (mode_line mode) + 12 → digest ≡ take 64 (drop at text) → head ≡ head_text mode digest
    → ((rest : List ℕ) → text ≢ head ++ rest) → BeginsNoHead text mode
other-head text digest head mode at at_is digest_is head_is none scene rest is same =
    let own : digest ≡ scene = digest_is ∙ digest-stands text mode at scene rest at_is is same in
    none rest (same ∙ ap (λ (t : List ℕ). head_text mode t ++ rest) (sym own) ∙ ap (λ (t : List ℕ). t ++ rest) (sym head_is))

pub of-no-mode : (text : List ℕ) → BeginsNoHead text Stay → BeginsNoHead text Disappear → (mode : Mode) → BeginsNoHead text mode
of-no-mode text stay disappear Stay = stay
of-no-mode text stay disappear Disappear = disappear

pub when-none : {H : Type 0} (none : Type 0) (some : H → Type 0) (found : Option H) → found ≡ None → MatchOption found none some → none
when-none none some found is stands = subst (λ (o : Option _). MatchOption o none some) is stands

pub found-or-none : {H E : Type 0} (none none' : Type 0) (some some' : H → Type 0) → (none → none') → ((h : H) → some h → some' h) → (result : Result (Option H) E)
    → IfOk result (λ found. MatchOption found none some) → IfOk result (λ found. MatchOption found none' some')
found-or-none none none' some some' f g (Ok None) stands = f stands
found-or-none none none' some some' f g (Ok (Some h)) stands = g h stands
found-or-none none none' some some' f g (Err e) stands = stands
