-- The procedures before an edit, as they are looked at.
use Rattle.std.specs.Prelude.{◌≡◌, ⊤, ℕ, List, Option, Some, None}
use Rattle.vc_build.specs.Rebuild.{BuiltProc}
use Rattle.vc_rebuild.specs.declared.candidate.Before.{Before}
use Rattle.vc_rebuild.specs.Inside.{digests_of}

-- the digests, where there are some, are those of the procedures
abbrev pub AreDigests : Option (List (List ℕ)) → List BuiltProc → Type 0
AreDigests None bs = ⊤
AreDigests (Some ds) bs = ds ≡ digests_of bs

abbrev pub IsBefore : Before → Type 0
IsBefore b = AreDigests b.digests b.built.now.procs
