use Rattle.std.proofs.Common.{◌∙◌, sym}
use Rattle.desk_core.proofs.Optional.{of_ok}
use Rattle.desk_core.proofs.accepting.followed.Goals as goal

pub follow-requires : goal.follow-requires
follow-requires c = record { before = c.requires.0; changed = c.requires.1; are = c.requires.2 c.in_ok-books.field-0 c.in_ok-books.was }

pub returns : goal.returns
returns c = λ x is. of_ok c.follow.result _ x (sym c.ok.ensures.value ∙ is) c.follow.ensures.kept
