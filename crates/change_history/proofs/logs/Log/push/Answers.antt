use Rattle.std.proofs.Common.{◌≡◌, ◌+◌, [], ◌∷◌, ◌++◌, length, ap, ◌∙◌, arith, length-append}
use Rattle.change_history.specs.Logged.{parts}
use Rattle.change_history.proofs.Parts.{parts_push}
use Rattle.change_history.proofs.logs.Log.push.Goals as goal

pub returns-in-Ok-push_back : goal.returns-in-Ok-push_back
returns-in-Ok-push_back g c =
    let counts = c.self.inside.counts.items in
    let row = c.self.inside.records.items in
    let more = c.in-Ok.ensures.0 in
    let count = c.in-Ok-try_from.count in
    let long : length c.in-Ok.records.items ≡ length row + length more = ap length c.in-Ok.ensures.2 ∙ length-append row more in
    let many : count ≡ length more = omega (arith, long, c.in-Ok-try_from.ensures, c.len.ensures, c.len-before.ensures, c.in-Ok.records.ok, c.self.inside.records.ok) in
    record {
      records = more;
      are = c.in-Ok.ensures.1;
      kept = ap (λ ns. parts ns c.in-Ok.records.items) c.in-Ok-push_back.ensures.items ∙ ap (parts (counts ++ count ∷ [])) c.in-Ok.ensures.2 ∙ parts_push counts row more count c.self.invariant many ∙ ap (λ l. l ++ more ∷ []) c.self.view_is;
    }
