-- What the code's parts stand for.
use Rattle.std.specs.Prelude.{List, map}
use Rattle.bpl_dependencies.specs.AppliedView.{texts_seen}
use Rattle.stmt_checksum.specs.Parts.{Part as part}
use Rattle.stmt_checksum.specs.declared.parts.Part.{Part}

abbrev pub part_seen : Part → part
part_seen p = record { uses = texts_seen p.uses.items; place = p.place }

abbrev pub parts_seen : List Part → List part
parts_seen ps = map part_seen ps
