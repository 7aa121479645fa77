-- What a module keeps where a point is put in.
use Rattle.std.specs.Prelude.{ℕ}
use Rattle.bpl_model.specs.Module.{Module}
use Rattle.bpl_model.specs.Typed.{IsTypedModule}
use Rattle.bpl_goto.specs.Forward.{AllGoForward}
use Rattle.smoke_report.specs.Put.{with_point}

abbrev pub WithPointStaysTyped : Type 0
WithPointStaysTyped = (m : Module) (i n : ℕ) → IsTypedModule m → IsTypedModule (with_point m i n)

abbrev pub WithPointGoesForward : Type 0
WithPointGoesForward = (m : Module) (i n : ℕ) → AllGoForward m → AllGoForward (with_point m i n)
