use Rattle.std.proofs.Common.{arith, ◌≡◌, ◌++◌, take, drop, map, length, get_or, set, ℕ, ◌+◌, ◌<◌, List}
use Rattle.std.proofs.lemmas.Grind.{common_steps}
use Rattle.std.proofs.lemmas.List.{get_or-map}
use Rattle.std.proofs.lemmas.List.Edits.{paste_more}
use Rattle.desk_c.specs.Numbers.{entry_numbers}
use Rattle.desk_c.proofs.numbers.copy_front.Goals as goal

front_more : {X : Type 0} (s d : List X) (i : ℕ) (y : X) → i < length s → i < length d → y ≡ get_or s i y
    → set (take i s ++ drop i d) i y ≡ take (i + 1) s ++ drop (i + 1) d
front_more s d i y in_s in_d is = grind (arith, common_steps, paste_more d 0 s i y (omega (arith, in_d)) in_s, is)

stored : {X Y : Type 0} (f : X → Y) (xs : List X) (ys room : List Y) (i : ℕ) (x : X) (y : Y) → i < length xs → i < length ys → x ≡ get_or xs i x
    → room ≡ take i (map f xs) ++ drop i ys → y ≡ f x → set room i y ≡ take (i + 1) (map f xs) ++ drop (i + 1) ys
stored f xs ys room i x y in_xs in_ys is was made =
    let at : (f x ≡ get_or (map f xs) i (f x)) = grind (arith, get_or-map f xs i x (f x) in_xs, is) in
    let in_map : i < length (map f xs) = grind (arith, common_steps) in
    grind (arith, was, made, front_more (map f xs) ys i (f x) in_map in_ys at)

-- src/numbers.rt:152:5
pub loop-index-preserved : goal.loop-index-preserved
loop-index-preserved c = stored entry_numbers c.args.entries.now c.args.room.now c.loop-index.room c.loop-index.index c.index-entries-index.result c.numbers_of.result
    (grind (arith, common_steps)) (grind (arith, common_steps)) c.index-entries-index.is c.loop-index.invariant c.numbers_of.ensures
