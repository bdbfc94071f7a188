use Rattle.std.proofs.Common.{◌≡◌, ℕ, zero, suc, List, [], ◌∷◌, ◌++◌, slice_index, refl, ap, ◌∙◌, arith}
use Rattle.where_index.proofs.tallies.reach.Goals as goal

slice_index-push_zero : (xs : List ℕ) (t : ℕ) → slice_index (xs ++ 0 ∷ []) t ≡ slice_index xs t
slice_index-push_zero [] zero = refl
slice_index-push_zero [] (suc t) = refl
slice_index-push_zero (x ∷ xs) zero = refl
slice_index-push_zero (x ∷ xs) (suc t) = slice_index-push_zero xs t

pub loop-preserved : goal.loop-preserved
loop-preserved c = record {
  long = omega (arith, c.loop.invariant.long, c.in_ok-push.ensures.len);
  same = λ t. ap (λ l. slice_index l t) c.in_ok-push.ensures.items ∙ (slice_index-push_zero c.loop.numbers.items t ∙ c.loop.invariant.same t);
}
