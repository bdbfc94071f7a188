-- A text begins with one head.
use Rattle.std.proofs.Common.{◌≡◌, ℕ, true, nat_eq, List, ◌++◌, length, codes, take, drop, get_or, ap, sym, ◌∙◌, arith, length-append}
use Rattle.std.proofs.Math.Seq.{take-append_seam, drop-append_seam}
use Rattle.std.proofs.lemmas.Bool.{eqb-true, and_parts}
use Rattle.std.specs.List.{list_all}
use Rattle.plan_table.specs.declared.tracks.Mode.{Mode}
use Rattle.plan_table.specs.declared.tracks.Mode.TheVariants.{Stay, Disappear}
use Rattle.commit_log.specs.Text.{head_text, is_lower_hex_digit, is_digest}

-- heads of one length with what stands behind them are so in one way
pub record SameHead (one other x y : List ℕ) : Type 0 where
  pub head : one ≡ other
  pub rest : x ≡ y

same-front : (one other x y : List ℕ) → length one ≡ length other → one ++ x ≡ other ++ y → SameHead one other x y
same-front one other x y long same = record {
  head = sym (take-append_seam one x) ∙ ap (take (length one)) same ∙ ap (λ (n : ℕ). take n (other ++ y)) long ∙ take-append_seam other y;
  rest = sym (drop-append_seam one x) ∙ ap (drop (length one)) same ∙ ap (λ (n : ℕ). drop n (other ++ y)) long ∙ drop-append_seam other y;
}

digest-long : (scene : List ℕ) → is_digest scene ≡ true → length scene ≡ 64
digest-long scene is = eqb-true (length scene) 64 (and_parts (nat_eq (length scene) 64) (list_all is_lower_hex_digit scene) is).0

same-long : (mode : Mode) (one other : List ℕ) → length one ≡ length other → length (head_text mode one) ≡ length (head_text mode other)
same-long Stay one other long = omega (arith, long, length-append one (codes "\n"), length-append other (codes "\n"))
same-long Disappear one other long = omega (arith, long, length-append one (codes "\n"), length-append other (codes "\n"))

pub same-head : (m n : Mode) (one other x y : List ℕ) → is_digest one ≡ true → is_digest other ≡ true → head_text m one ++ x ≡ head_text n other ++ y → SameHead (head_text m one) (head_text n other) x y
same-head Stay Stay one other x y a b same = same-front _ _ x y (same-long Stay one other (digest-long one a ∙ sym (digest-long other b))) same
same-head Disappear Disappear one other x y a b same = same-front _ _ x y (same-long Disappear one other (digest-long one a ∙ sym (digest-long other b))) same
same-head Stay Disappear one other x y a b same =
    let letter : 115 ≡ 100 = ap (λ (t : List ℕ). get_or t 11 0) same in
    absurd (omega (arith, letter))
same-head Disappear Stay one other x y a b same =
    let letter : 100 ≡ 115 = ap (λ (t : List ℕ). get_or t 11 0) same in
    absurd (omega (arith, letter))
