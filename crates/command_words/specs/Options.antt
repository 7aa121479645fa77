-- What each mode does with each option.
use Rattle.std.specs.Prelude.{ℕ, List, Option, Some, None}
use Rattle.command_words.specs.Numbers.{number_between}
use Rattle.command_words.specs.declared.command.Mode.{Mode}
use Rattle.command_words.specs.declared.command.Mode.TheVariants.{Check, Serve, Recheck, Gen, Smoke}
use Rattle.command_words.specs.declared.options.Use.{Use}
use Rattle.command_words.specs.declared.options.Use.TheVariants.{NotTaken, Taken, Needed}

abbrev pub use_of_turns : Mode → Use
use_of_turns Check = Taken
use_of_turns Serve = Taken
use_of_turns Recheck = NotTaken
use_of_turns Gen = Taken
use_of_turns Smoke = Taken

abbrev pub use_of_workers : Mode → Use
use_of_workers Check = NotTaken
use_of_workers Serve = Taken
use_of_workers Recheck = NotTaken
use_of_workers Gen = Taken
use_of_workers Smoke = NotTaken

-- of the seed and of the size
abbrev pub use_of_draws : Mode → Use
use_of_draws Check = NotTaken
use_of_draws Serve = NotTaken
use_of_draws Recheck = NotTaken
use_of_draws Gen = Needed
use_of_draws Smoke = NotTaken

-- an option's number: the one given, within its bounds, or the one that it has where it may be left out
abbrev pub given_number : Use → ℕ → ℕ → ℕ → Option (List ℕ) → Option ℕ
given_number NotTaken default least most None = Some default
given_number NotTaken default least most (Some text) = None
given_number Taken default least most None = Some default
given_number Taken default least most (Some text) = number_between least most text
given_number Needed default least most None = None
given_number Needed default least most (Some text) = number_between least most text
