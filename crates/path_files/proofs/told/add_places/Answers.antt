use Rattle.std.proofs.Common.{rules, ◌≡◌, ◌<◌, ◌++◌, [], ◌∷◌, None, length, ap, ◌∙◌, arith}
use Rattle.path_files.specs.Told.{with_places}
use Rattle.path_files.proofs.PlaceLemmas.{places-more}
use Rattle.path_files.proofs.told.add_places.Goals as goal

pub loop-told-preserved : goal.loop-told-preserved
loop-told-preserved c =
    let low : length c.loop-told.told.items < c.args.count = omega arith in
    let pushed : c.push.new.self.items ≡ c.loop-told.told.items ++ None ∷ [] = search rules in
    ap (λ told. with_places told c.args.count) pushed ∙ places-more c.loop-told.told.items c.args.count low ∙ c.loop-told.invariant
