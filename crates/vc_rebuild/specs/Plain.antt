-- Modules without gotos.
use Rattle.std.specs.Prelude.{◌≡◌, Option, Some, None}
use Rattle.bpl_model.specs.Module.{Module}
use Rattle.bpl_goto.specs.Removed.{remove_gotos}

-- the module with its gotos removed, or none where it is so already
abbrev pub IsPlainOf : Module → Option Module → Type 0
IsPlainOf m None = remove_gotos m ≡ m
IsPlainOf m (Some n) = n ≡ remove_gotos m
