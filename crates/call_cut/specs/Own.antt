-- The variable that a call owns for a result, over new numbers.
use Rattle.std.specs.Prelude.{ℕ, true, option_map}
use Rattle.logic_core.specs.Variables.{renamed}
use Rattle.bpl_model.specs.Module.{Local}

-- it has the clause of its out
abbrev pub result_by : (ℕ → ℕ) → Local → Local
result_by new l = record l { own = true; clause = option_map (renamed new) l.clause }
