use Rattle.std.proofs.Common.{◌≡◌, map, take}
use Rattle.desk_cli.specs.Values.{file_named, texts_in}
use Rattle.desk_cli.proofs.values.files_named.Given as goal

abbrev pub invariant-loop-name : goal.invariant-loop-name
invariant-loop-name l = texts_in l.files.items ≡ map file_named (texts_in (take l.name-index l.names))
