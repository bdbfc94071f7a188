use Rattle.std.proofs.Common.{rules, ◌≡◌, ◌++◌, length, drop, map, take, Some, IfOk, subst, ◌∙◌}
use Rattle.std.specs.Prelude.{[], unwrap_or}
use Rattle.solver_check.specs.Opens.{bytes_of}
use Rattle.mapf_desk.specs.Rows.{IsFilled, IsRow}
use Rattle.mapf_desk.proofs.FilledRows.{all_filled, whole_back}
use Rattle.mapf_desk.proofs.checking_each.rows_of.Goals as goal

pub returns : goal.returns
returns g c =
    let s = c.for_each_mut.new.s in
    let items = c.in_ok-slots.slots.items in
    let n = c.in_ok-slots.slots.len in
    let is_long : n ≡ length items = search rules in
    let as_long : length s ≡ length items = search rules in
    let as_many : length items ≡ length c.args.files.now = search rules in
    let whole : take n (s ++ drop (length s) items) ≡ s = whole_back n items s is_long as_long in
    all_filled (IsRow (g.F.Folder.holds c.args.folder.now) c.args.words.now (unwrap_or (bytes_of c.args.texts.map) []) (bytes_of c.args.texts.scen)) c.args.files.now s c.rows_in.result
    (subst (λ xs. IfOk c.rows_in.result (λ rows. xs ≡ map Some rows.items)) whole c.rows_in.ensures) (as_long ∙ as_many)
    (λ i d below. let changed = (c.for_each_mut.ensures i d (search rules)).1 in subst (IsFilled (IsRow (g.F.Folder.holds c.args.folder.now) c.args.words.now (unwrap_or (bytes_of c.args.texts.map) []) (bytes_of c.args.texts.scen)) c.args.files.now i) changed.left changed.call)
