use Rattle.std.proofs.Common.{◌≡◌, take}
use Rattle.std.specs.List.{flat_map}
use Rattle.std.specs.Io.KnownBytes.{Appends}
use Rattle.desk_pictures.specs.Pieces.{piece_text}
use Rattle.desk_pictures.proofs.pieces.put_pieces.Given as goal

abbrev pub invariant-loop-piece : goal.invariant-loop-piece
invariant-loop-piece g l = record {
  out : Appends (g.W.Sink.held l.fn.sink) (g.W.Sink.held l.sink) (flat_map piece_text (take l.piece-index l.pieces));
  sound : g.W.Sink.broken l.sink ≡ g.W.Sink.broken l.fn.sink;
}
