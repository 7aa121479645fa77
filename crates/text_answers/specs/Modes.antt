-- Which modes answer one text.
use Rattle.std.specs.Prelude.{Bool, true, false}
use Rattle.command_words.specs.declared.command.Mode.{Mode}
use Rattle.command_words.specs.declared.command.Mode.TheVariants.{Check, Serve, Recheck, Gen, Smoke}

-- whether the mode answers one text, which is its whole input; serve answers its lines, and gen reads nothing
abbrev pub answers_text : Mode → Bool
answers_text Check = true
answers_text Serve = false
answers_text Recheck = true
answers_text Gen = false
answers_text Smoke = true
