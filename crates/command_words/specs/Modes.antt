-- The names of the modes.
use Rattle.std.specs.Prelude.{ℕ, List, Option, Some, None, bytes_eq, codes, if◌then◌else◌}
use Rattle.command_words.specs.declared.command.Mode.{Mode}
use Rattle.command_words.specs.declared.command.Mode.TheVariants.{Check, Serve, Recheck, Gen, Smoke}

abbrev pub mode_named : List ℕ → Option Mode
mode_named name =
    if bytes_eq name (codes "check") then Some Check
    else (if bytes_eq name (codes "serve") then Some Serve
    else (if bytes_eq name (codes "recheck") then Some Recheck
    else (if bytes_eq name (codes "gen") then Some Gen
    else (if bytes_eq name (codes "smoke") then Some Smoke
    else None))))
